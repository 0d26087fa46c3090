-- Demand 3, worked: a data set of two blocks, of which one is formatted, written and read back, moved from offset 1 to offset 5; its sixteen
-- bytes are gathered from six places.
--     moved_pair       the two calls have what the demand asks for
--     moved_worked     what each of them gives, computed from the definition: equal answers and data, each store as it should be
--     recount_differs  another block count typed in place of another offset: the data differ
--     mapped_breaks    a pair that has all but "no mapped block in either place", and whose maps end different
-- Assumes nothing.
use Prim.Native.Nat.{ℕ, ◌+◌, ◌-◌, ◌*◌, ◌/◌, ◌%◌, ◌≤◌, ◌<◌}
use mathlib.Core.Path.{◌≡◌, refl, sym, ap, ◌∙◌}
use mathlib.Core.Bool.{Bool, true, false, not, ◌&&◌, ◌||◌, false≢true}
use mathlib.Core.List.{List, [], ◌∷◌, ◌++◌}
use lib.Dec.{leb}
use lib.ListN.{length, get_or, take, drop, replicate}
use native.Mathlib.Omega.{arith}
use native.Mathlib.Decide.{dec_le}
use borrow.Author.Tests.{eqb-true, eqb-false, eq-eqb, ne_eqb, le-leb, lt-ltb, le-ltb, ltb-true, not-true}
use Rattle.numbers.proofs.Tables.{same_upto}
use Rattle.numbers.specs.Lowest.{any}
use Rattle.numbers.proofs.Lowest.{any_false}
use Rattle.slices.specs.Parts.{part, put}
use Rattle.slices.proofs.Laws.{length_put, get_before, get_after, by_place}
use Rattle.model.specs.Names.{DEFINE_EXTENT, LOCATE, READ, WRITE, READ_IPL, format, write_data, read_data, DEFECTIVE}
use Rattle.numbers.specs.Choice.{◌<?◌, ◌=?◌, pick}
use Rattle.numbers.proofs.Joined.{both_true}
use Rattle.model.specs.declared.ccw.Piece.{Piece}
use Rattle.model.specs.declared.device.Device.{Device}
use Rattle.model.specs.declared.extent.Extent.{Extent}
use Rattle.model.specs.Alternates.{map_entries, map_size, entry_at}
use Rattle.model.specs.Lent.{alternate_at, block_at, new_record}
use Rattle.model.specs.Pieces.{Command, pieces, command_at}
use Rattle.model.specs.Chain.{call, class_a}
use Rattle.model.specs.Moved.{Own, own, place_in, place_of, Off, OneExtent, ParametersLie, ParametersApart, ParametersAlone, SameButOffset, HasRoom, names_within, NoneMapped, Name, SameMaps, SameAlternates, SameData, extent_at, MovedAnyMap, Moved}
use Rattle.model.proofs.Opened.{opened}
use Rattle.model.proofs.Alternates.{entry_beyond}
use Rattle.model.proofs.Inputs.{entries, ccw, extent, location}

-- the sixteen bytes come in six pieces: four bytes, the offset's four one by one from places that lie apart, eight bytes. Then the first
-- block is formatted, 512 bytes AA are written over it, and both blocks read
abbrev chain : List ℕ
chain =
    ccw DEFINE_EXTENT 0 0x80 4 ++ ccw 0 28 0x80 1 ++ ccw 0 30 0x80 1 ++ ccw 0 32 0x80 1 ++ ccw 0 34 0x80 1 ++ ccw 0 4 0x40 8
    ++ ccw LOCATE 1572 0x40 8 ++ ccw LOCATE 12 0x40 8 ++ ccw WRITE 36 0x40 512 ++ ccw LOCATE 20 0x40 8 ++ ccw READ 548 0x20 1024

-- eight blocks, and three alternates
abbrev dev : Device
dev = class_a 3

abbrev blocks : ℕ → ℕ → List ℕ
blocks n byte = replicate (n * 512) byte

-- the data set of two blocks on the device, and its alternates
abbrev stores : ℕ → ℕ → ℕ → ℕ → List ℕ
stores offset first a b = blocks offset 0x11 ++ blocks 1 first ++ blocks 1 0x52 ++ blocks (6 - offset) 0x22 ++ blocks 1 a ++ blocks 1 b ++ blocks 1 0x63

-- the data set at an offset below 256, and a count of blocks to read
abbrev mains : ℕ → ℕ → List ℕ
mains offset count =
    let e = extent offset 10 11 in
    take 4 e ++ drop 8 e ++ location write_data 0 1 10 ++ location read_data 0 count 10 ++ (0 ∷ 0xFF ∷ 0 ∷ 0xFF ∷ 0 ∷ 0xFF ∷ offset ∷ 0xFF ∷ []) ++ replicate 512 0xAA ++ replicate 1024 0xFF
    ++ location format 0 1 10

abbrev lent : ℕ → ℕ → Own
lent offset count = own (mains offset count) (stores offset 0x51 0x61 0x62)

-- the first alternate is defective, the others are unused
abbrev the_map : List ℕ
the_map = entries (DEFECTIVE ∷ [])

-- the extent that a main storage has the chain define
abbrev extent_from : ℕ → Extent
extent_from offset = extent_at chain 0 (lent offset 2)

abbrev define : Command
define = command_at chain 0

-- of the four offset bytes the last is another
typed : (l : List ℕ) (byte : ℕ) → 35 ≤ length l → SameButOffset define l (put l 34 (byte ∷ []))
unfolding opened place_in
typed l byte h = record {
  long = sym (length_put l 34 (byte ∷ []) h);
  same = λ i n. sym (by_place (get_or (put l 34 (byte ∷ [])) i 0 ≡ get_or l i 0) i 34 1
      (λ b. get_before l 34 (byte ∷ []) i h b) (λ j b e. absurd (n 7 (omega arith, omega arith) (omega arith))) (λ b. get_after l 34 (byte ∷ []) i h b));
}

one_extent : OneExtent chain 0
unfolding opened
one_extent =
    let first : (i : ℕ) → i < 6 → (command_at chain i).command =? DEFINE_EXTENT ≡ i =? 0 = same_upto (λ i. (command_at chain i).command =? DEFINE_EXTENT) (λ i. i =? 0) 6 refl in
    let never : (i : ℕ) → i < 6 → (command_at chain i).command =? READ_IPL ≡ false = same_upto (λ i. (command_at chain i).command =? READ_IPL) (λ i. false) 6 refl in
    record {
      in_chain = record { lent = omega arith; chained = λ j b. absurd (omega arith) };
      defines = refl;
      only = λ i c e. eqb-true i 0 (sym (first i c.lent) ∙ eq-eqb _ _ e);
      no_ipl = λ i c. eqb-false _ _ (never i c.lent);
    }

lie : ParametersLie define (lent 1 2).main
unfolding opened place_in
lie k b = ltb-true _ _ (same_upto (λ k. place_of define k <? 1580) (λ k. true) 16 refl k b)

-- which of the sixteen bytes stands at a place
which : ℕ → ℕ
which at = pick (at <? 4) at (pick (at <? 12) (at + 4) ((at - 20) / 2))

apart : ParametersApart define
unfolding opened place_in which
apart j k a b e =
    let back : (k : ℕ) → k < 16 → which (place_of define k) ≡ k = same_upto (λ k. which (place_of define k)) (λ k. k) 16 refl in
    sym (back j a) ∙ ap which e ∙ back k b

-- every piece of another command keeps off the sixteen places

off_test : ℕ → List Piece → Bool
off_test at [] = true
off_test at (p ∷ ps) = not (leb p.address at && at <? p.address + p.count) && off_test at ps

off_tested : (at : ℕ) (ps : List Piece) → off_test at ps ≡ true → Off at ps
unfolding off_test
off_tested at [] e = _
off_tested at (p ∷ ps) e =
    let t = both_true _ _ e in (
      λ a.
          let inside : leb p.address at && at <? p.address + p.count ≡ true = rw (le-leb _ _ a.0, lt-ltb _ _ a.1) refl in
          false≢true (sym (not-true _ t.0) ∙ inside),
      off_tested at ps t.1,
    )

settled : (f : ℕ → ℕ → Bool) (i k a b : ℕ) → a ≡ i → b ≡ k → f a b ≡ true → f i k ≡ true
settled f i k a b p q h = rw (p, q) at h

alone : ParametersAlone chain 0
unfolding opened place_in off_test
alone i c n k b =
    let off : (j : ℕ) → j < 96 → j / 16 =? 0 || off_test (place_of define (j % 16)) (pieces (command_at chain (j / 16))) ≡ true
    = same_upto (λ j. j / 16 =? 0 || off_test (place_of define (j % 16)) (pieces (command_at chain (j / 16)))) (λ j. true) 96 refl in
    let i-is : (i * 16 + k) / 16 ≡ i = omega arith in
    let k-is : (i * 16 + k) % 16 ≡ k = omega arith in
    let there = settled (λ a b. a =? 0 || off_test (place_of define b) (pieces (command_at chain a))) i k _ _ i-is k-is (off (i * 16 + k) (omega (arith, c.lent))) in
    off_tested (place_of define k) (pieces (command_at chain i)) (rw (ne_eqb i 0 n) at there)

-- all sentences but the one about mapped blocks, of the data set at offset 1 in one store and at 5 in another

any_map : (map x x' : List ℕ) → length x ≡ length x' → HasRoom dev (extent_from 1) x → HasRoom dev (extent_from 5) x' → SameAlternates dev x x' → SameData dev (extent_from 1) (extent_from 5) map x map x'
    → MovedAnyMap dev chain 0 map (own (mains 1 2) x) (own (mains 5 2) x')
unfolding opened
any_map map x x' sizes room room' alternates same = record {
  one = one_extent;
  lie = lie;
  apart = apart;
  alone = alone;
  typed = typed (mains 1 2) 5 (omega arith);
  sizes = sizes;
  room = room;
  room' = room';
  alternates = alternates;
  blocks = same;
}

none_mapped : (e : Extent) (map : List ℕ) → length map ≡ map_size → any (λ i. names_within e (entry_at map i)) map_entries ≡ false → NoneMapped e map
none_mapped e map long none i = elim (dec_le map_entries i) [
  | yes h ↦ rw (entry_beyond map i (omega (arith, long)), le-ltb e.offset.0 0 (omega arith)) refl
  | no h ↦ any_false (λ i. names_within e (entry_at map i)) map_entries none i (omega arith)
]

pub moved_pair : Moved dev chain 0 the_map (lent 1 2) (lent 5 2)
unfolding opened
moved_pair =
    let x : List ℕ = stores 1 0x51 0x61 0x62 in
    let x' : List ℕ = stores 5 0x51 0x61 0x62 in
    record {
      lent = any_map the_map x x' refl (omega arith) (omega arith) (λ i b. same_upto (λ i. alternate_at dev x i) (λ i. alternate_at dev x' i) 3 refl i b)
          (λ k b. same_upto (λ k. block_at dev the_map x (1 + k)) (λ k. block_at dev the_map x' (5 + k)) 2 refl k (omega arith));
      unmapped = none_mapped (extent_from 1) the_map refl refl;
      unmapped' = none_mapped (extent_from 5) the_map refl refl;
    }

-- what is looked at afterwards
record Afterwards : Type 0 where
  pub answers : List ℕ
  pub read : List ℕ
  pub map : List ℕ
  pub store : List ℕ

abbrev afterwards : Own → Afterwards
afterwards l =
    let r = call 3 chain l.main l.store (new_record 1 0) the_map (replicate 88 0xFF) in
    record { answers = r.answers; read = part r.main 548 1024; map = r.map; store = r.store }

-- six commands, all accepted, the first in six pieces; the WRITE moved one block, the READ two
abbrev ended_answer : ℕ → List ℕ
ended_answer moved = 0x0C ∷ 0 ∷ 0 ∷ 0 ∷ 0 ∷ 0 ∷ 0 ∷ moved ∷ []

-- the second alternate names the first block of the extent, and holds what was written
abbrev expected : ℕ → Afterwards
expected offset = record {
  answers = replicate 40 0 ++ ended_answer 0 ++ ended_answer 0 ++ ended_answer 0 ++ ended_answer 1 ++ ended_answer 0 ++ ended_answer 2;
  read = blocks 1 0xAA ++ blocks 1 0x52;
  map = entries (DEFECTIVE ∷ (offset + 1) ∷ []);
  store = stores offset 0x51 0x61 0xAA;
}

pub moved_worked : (afterwards (lent 1 2) ≡ expected 1) × (afterwards (lent 5 2) ≡ expected 5)
unfolding opened
moved_worked = (refl, refl)

-- the second LOCATE asks for one block, so the second block is not read
pub recount_differs : (afterwards (lent 1 1)).read ≡ (afterwards (lent 1 2)).read → ⊥
unfolding opened
recount_differs e =
    let byte : ◌≡◌ {A = ℕ} 0xFF 0x52 = ap (λ (l : List ℕ). get_or l 512 0) e in
    omega arith

-- The sentence about mapped blocks is needed. Where the first alternate names block 5, the first of the second place, READ shows the same
-- data at both places, and all other sentences hold. But the one format takes an alternate for a block that had none, the other for a
-- block that had one, which it flags: the maps end different.

abbrev mapped_there : List ℕ
mapped_there = entries (6 ∷ [])

abbrev before_here : List ℕ
before_here = stores 1 0x51 0x51 0x62

abbrev before_there : List ℕ
before_there = stores 5 0x99 0x51 0x62

abbrev map_left : ℕ → List ℕ → List ℕ
map_left offset store = (call 3 chain (mains offset 2) store (new_record 1 0) mapped_there (replicate 88 0xFF)).map

pub mapped_breaks : MovedAnyMap dev chain 0 mapped_there (own (mains 1 2) before_here) (own (mains 5 2) before_there)
    × NoneMapped (extent_from 1) mapped_there
    × (SameMaps (extent_from 1) (extent_from 5) (map_left 1 before_here) (map_left 5 before_there) → ⊥)
unfolding opened
mapped_breaks = (
  any_map mapped_there before_here before_there refl (omega arith) (omega arith) (λ i b. same_upto (λ i. alternate_at dev before_here i) (λ i. alternate_at dev before_there i) 3 refl i b)
      (λ k b. same_upto (λ k. block_at dev mapped_there before_here (1 + k)) (λ k. block_at dev mapped_there before_there (5 + k)) 2 refl k (omega arith)),
  none_mapped (extent_from 1) mapped_there refl refl,
  λ same.
      let numbers : ◌≡◌ {A = ℕ} 6 DEFECTIVE = ap (λ (n : Name). n.number) (same 0) in
      omega arith,
)
