-- A block brought home from its alternate (`brought_home`, 02, ask 6): what becomes of the store's places, and of the blocks that READ shows.
--     home_length          the store stays as long, home_bytes   and bytes bytes
--     home_freed, home_own, home_other
--                          its places: zeros where the block lay, the block's data at its own place, and all others as they were
--     shown_home           by way of the map without the block, every block shows what it showed
-- No contract cites this file.
use Prim.Native.Nat.{ℕ, ◌+◌, ◌*◌, ◌≤◌, ◌<◌}
use mathlib.Core.Path.{◌≡◌, refl, sym, ap, ◌∙◌}
use mathlib.Core.Logic.{dite}
use mathlib.Core.List.{List}
use lib.ListN.{length}
use native.Mathlib.Omega.{arith}
use native.Mathlib.Decide.{ℕ_discrete}
use Rattle.numbers.specs.Bytes.{AreBytes}
use Rattle.slices.specs.Parts.{part, put, zeros}
use Rattle.slices.proofs.Laws.{length_zeros, length_part, length_put, part_apart, part_put, bytes_zeros, bytes_part, bytes_put}
use Rattle.model.specs.declared.device.Device.{Device}
use Rattle.model.specs.Names.{DEFECTIVE}
use Rattle.model.specs.Alternates.{map_entries, map_size, name_of, alternate_of, lies, unmapped}
use Rattle.model.specs.Lent.{block_count, block_start, block_at}
use Rattle.model.specs.GiveBack.{brought_home}
use Rattle.model.proofs.Alternates.{lies_where, lies_mapped, lies_apart}
use Rattle.model.proofs.Returns.{lies_home, lies_left}
use Rattle.model.proofs.Formats.{Right}
use Rattle.model.proofs.Blocks.{count_same, place_within, places_apart, start_within}

-- the store

module _ (dev : Device) (map store : List ℕ) (block : ℕ) (on : block < block_count dev store) (mapped : alternate_of map dev.alternates block < dev.alternates) where
  abbrev size : ℕ
  size = dev.block

  -- where it lies
  abbrev lay : ℕ
  lay = block_count dev store + alternate_of map dev.alternates block

  abbrev held : List ℕ
  held = block_at dev map store block

  abbrev copied : List ℕ
  copied = put store (block * size) held

  abbrev home : List ℕ
  home = brought_home dev map store block

  start_is : block_start dev map store block ≡ lay * size
  unfolding block_start
  start_is = rw (lies_mapped map dev.alternates (block_count dev store) block mapped) refl

  data_long : length held ≡ size
  unfolding block_at
  data_long = length_part store (block_start dev map store block) size (start_within dev map store block on)

  within : (place : ℕ) → place < block_count dev store + dev.alternates → place * size + size ≤ length store
  within place h = omega (arith, place_within dev store place 1 (omega (arith, on)) (omega (arith, h)))

  own_within : block * size + length held ≤ length store
  own_within = rw data_long (within block (omega (arith, on)))

  copied_long : length copied ≡ length store
  copied_long = length_put store (block * size) held own_within

  lay_within : lay * size + length (zeros size) ≤ length copied
  lay_within = rw (length_zeros, copied_long) (within lay (omega (arith, mapped)))

  home_is : home ≡ put copied (lay * size) (zeros size)
  unfolding brought_home
  home_is = rw start_is refl

  pub home_length : length home ≡ length store
  home_length = ap length home_is ∙ length_put copied (lay * size) (zeros size) lay_within ∙ copied_long

  pub home_freed : part home (lay * size) size ≡ zeros size
  home_freed = rw home_is (ap (part (put copied (lay * size) (zeros size)) (lay * size)) (sym (length_zeros size)) ∙ part_put copied (lay * size) (zeros size) lay_within)

  -- a place other than the one that is zeroed
  behind : (place : ℕ) → (lay ≡ place → ⊥) → part home (place * size) size ≡ part copied (place * size) size
  behind place n = rw home_is (part_apart copied (lay * size) (zeros size) (place * size) size lay_within (places_apart size lay place (length (zeros size)) (length_zeros size) n))

  pub home_own : part home (block * size) size ≡ held
  home_own = behind block (λ e. omega (arith, e, on)) ∙ ap (part copied (block * size)) (sym data_long) ∙ part_put store (block * size) held own_within

  pub home_other : (place : ℕ) → (lay ≡ place → ⊥) → (block ≡ place → ⊥) → part home (place * size) size ≡ part store (place * size) size
  home_other place n m = behind place n ∙ part_apart store (block * size) held (place * size) size own_within (places_apart size block place (length held) data_long m)

  -- the blocks, by way of the new map

  module _ (few : dev.alternates ≤ map_entries) (long : length map ≡ map_size) (small : name_of block < DEFECTIVE) (r : Right map dev.alternates (block_count dev store)) where
    abbrev new : List ℕ
    new = unmapped map dev.alternates block

    -- another block lies neither where this one lay nor where it is put
    shown_other : (other : ℕ) → other < block_count dev store → (other ≡ block → ⊥) → part home (lies map dev.alternates (block_count dev store) other * size) size ≡ block_at dev map store other
    unfolding block_at block_start
    shown_other other b n = home_other (lies map dev.alternates (block_count dev store) other)
        (λ e. lies_apart map dev.alternates (block_count dev store) block other on b (λ z. n (sym z)) (lies_mapped map dev.alternates (block_count dev store) block mapped ∙ e))
        (lies_where map dev.alternates (block_count dev store) other (λ (p : ℕ). block ≡ p → ⊥) (λ i _ _ z. omega (arith, z, on)) (λ z. n (sym z)))

    pub shown_home : (other : ℕ) → other < block_count dev store → block_at dev new home other ≡ block_at dev map store other
    unfolding block_at block_start
    shown_home other b =
        rw (count_same dev home store home_length)
        (dite (ℕ_discrete other block)
        (λ e. rw (e, lies_home map dev.alternates (block_count dev store) block few long mapped small r) home_own)
        (λ n. rw (lies_left map dev.alternates block few long mapped (block_count dev store) other n) (shown_other other b n)))

pub home_bytes : (dev : Device) (map store : List ℕ) (block : ℕ) → AreBytes store → AreBytes (brought_home dev map store block)
unfolding brought_home block_at
home_bytes dev map store block b = bytes_put _ _ _ (bytes_put store _ _ b (bytes_part store _ _ b)) (bytes_zeros dev.block)
