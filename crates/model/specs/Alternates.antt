-- The alternates of a device, and the map that says which block lies at which of them (02, ask 4).
--     map_entries, entry_size, map_size  "a map, 64 entries of four bytes"
--     entry_at, with_entry               entry i of a map; the map with another one there
--     is_unused, is_defective, is_name   what an entry says: nothing yet, that its alternate is defective, or a block
--     alternate_of                       the alternate that a block is mapped to; where there is none, the number of alternates
--     lies                               where a block lies, of all blocks of the store: by this, and by nothing else, blocks are reached
--     unused_in                          the alternate that a format takes; where there is none, the number of alternates
--     formatted                          the map after a format
--     unmapped                           the map after a mapped block was given its own place back (02, ask 6)
--     bad_map                            cause 8's rule
-- The store's blocks are the primaries, then the alternates. `alternates` and `primaries` are how many of them there are. Assumes nothing.
use Rattle.std.specs.Prelude.{ℕ, ◌+◌, ◌*◌, Bool, not, ◌&&◌, ◌||◌, List}
use Rattle.numbers.specs.Big.{be4, bytes4}
use Rattle.numbers.specs.Choice.{◌<?◌, ◌=?◌, pick}
use Rattle.numbers.specs.Lowest.{lowest, any}
use Rattle.slices.specs.Parts.{put}
use Rattle.model.specs.Names.{UNUSED, DEFECTIVE}

abbrev pub map_entries : ℕ
map_entries = 64

abbrev pub entry_size : ℕ
entry_size = 4

abbrev pub map_size : ℕ
map_size = 256

unfoldable pub entry_at : List ℕ → ℕ → ℕ
entry_at map i = be4 map (i * entry_size)

unfoldable pub with_entry : List ℕ → ℕ → ℕ → List ℕ
with_entry map i entry = put map (i * entry_size) (bytes4 entry)

-- "0 for unused, FFFFFFFF for defective, else the primary block's number plus 1"

abbrev pub name_of : ℕ → ℕ
name_of block = block + 1

abbrev pub is_unused : ℕ → Bool
is_unused entry = entry =? UNUSED

abbrev pub is_defective : ℕ → Bool
is_defective entry = entry =? DEFECTIVE

abbrev pub is_name : ℕ → Bool
is_name entry = not (is_unused entry) && not (is_defective entry)

-- the lowest alternate with this entry
abbrev pub lowest_with : List ℕ → ℕ → ℕ → ℕ
lowest_with map alternates entry = lowest (λ i. entry_at map i =? entry) alternates

abbrev pub alternate_of : List ℕ → ℕ → ℕ → ℕ
alternate_of map alternates block = lowest_with map alternates (name_of block)

-- "later access to the block goes there"
unfoldable pub lies : List ℕ → ℕ → ℕ → ℕ → ℕ
lies map alternates primaries block =
    let i = alternate_of map alternates block in
    pick (i <? alternates) (primaries + i) block

-- "A format takes the lowest unused alternate"; "Formatting a mapped block takes another and flags the old one defective for good"

abbrev pub unused_in : List ℕ → ℕ → ℕ
unused_in map alternates = lowest_with map alternates UNUSED

unfoldable pub flagged : List ℕ → ℕ → ℕ → List ℕ
flagged map alternates block =
    let old = alternate_of map alternates block in
    pick (old <? alternates) (with_entry map old DEFECTIVE) map

unfoldable pub formatted : List ℕ → ℕ → ℕ → List ℕ
formatted map alternates block = with_entry (flagged map alternates block) (unused_in map alternates) (name_of block)

-- ask 6: "unmaps a named block"
unfoldable pub unmapped : List ℕ → ℕ → ℕ → List ℕ
unmapped map alternates block = with_entry map (alternate_of map alternates block) UNUSED

-- "two entries name one primary, an entry names none of the device's, or an entry beyond the device's alternates is not 0"

module _ (map : List ℕ) (alternates primaries : ℕ) where
  abbrev pub named_twice : ℕ → Bool
  named_twice i = is_name (entry_at map i) && any (λ j. entry_at map j =? entry_at map i) i

  abbrev pub names_none : ℕ → Bool
  names_none i = is_name (entry_at map i) && primaries <? entry_at map i

  abbrev pub beyond_alternates : ℕ → Bool
  beyond_alternates i = not (i <? alternates) && not (entry_at map i =? UNUSED)

  abbrev pub bad_entry : ℕ → Bool
  bad_entry i = named_twice i || names_none i || beyond_alternates i

  unfoldable pub bad_map : Bool
  bad_map = any bad_entry map_entries
