-- Laws of the map: its entries, where a block lies, and what a format makes of both. No contract cites this file.
--     entry_set, entry_other       an entry that was put, and the others
--     entry_beyond                 there is none past the map's end
--     length_entry, bytes_entry    a map stays as long, and bytes stay bytes
--     lies_mapped, lies_unmapped   where a block lies
--     lies_below                   it is one of the store's
--     lies_apart                   two blocks of the device never lie at one place
--     unused_apart                 no block of the device lies at an alternate that is unused or defective
--     length_formatted, bytes_formatted
--                                  a format leaves a map as long, of bytes
use Prim.Native.Nat.{ℕ, ◌+◌, ◌*◌, ◌/◌, ◌%◌, ◌≤◌, ◌<◌}
use mathlib.Core.Path.{◌≡◌, refl, sym, ap, ◌∙◌}
use mathlib.Core.Logic.{◌⊎◌, ⊎_elim}
use mathlib.Core.List.{List}
use lib.ListN.{length, get_or, get_or-eq_default}
use native.Mathlib.Omega.{arith}
use native.Mathlib.Decide.{dec_le}
use borrow.Author.Tests.{lt-ltb, le-ltb, ltb-true, eqb-true}
use Rattle.numbers.specs.Bytes.{AreBytes}
use Rattle.numbers.specs.Big.{bytes4}
use Rattle.numbers.specs.Choice.{◌=?◌}
use Rattle.numbers.proofs.Choice.{pick_ind, pick_true, pick_false}
use Rattle.numbers.proofs.Big.{bytes4_are, bytes4_hold}
use Rattle.numbers.proofs.Lowest.{lowest_holds}
use Rattle.slices.specs.Parts.{put}
use Rattle.slices.proofs.Laws.{length_put, get_before, get_in, get_after, bytes_put}
use Rattle.model.specs.Names.{UNUSED, DEFECTIVE}
use Rattle.model.specs.Alternates.{map_entries, map_size, entry_at, with_entry, name_of, alternate_of, lies, unused_in, flagged, formatted}

-- entries

pub length_entry : (map : List ℕ) (i v : ℕ) → i * 4 + 4 ≤ length map → length (with_entry map i v) ≡ length map
unfolding with_entry
length_entry map i v h = length_put map (i * 4) (bytes4 v) h

pub bytes_entry : (map : List ℕ) (i v : ℕ) → AreBytes map → AreBytes (with_entry map i v)
unfolding with_entry
bytes_entry map i v b = bytes_put map (i * 4) (bytes4 v) b (bytes4_are v)

pub entry_set : (map : List ℕ) (i v : ℕ) → i * 4 + 4 ≤ length map → v < 4294967296 → entry_at (with_entry map i v) i ≡ v
unfolding entry_at with_entry
entry_set map i v h f =
    let at : ℕ = i * 4 in
    let zero : at ≡ at + 0 = omega arith in
    let g0 : get_or (put map at (bytes4 v)) at 0 ≡ v / 16777216 % 256 = ap (λ (k : ℕ). get_or (put map at (bytes4 v)) k 0) zero ∙ get_in map at (bytes4 v) 0 h (omega arith) in
    let g1 : get_or (put map at (bytes4 v)) (at + 1) 0 ≡ v / 65536 % 256 = get_in map at (bytes4 v) 1 h (omega arith) in
    let g2 : get_or (put map at (bytes4 v)) (at + 2) 0 ≡ v / 256 % 256 = get_in map at (bytes4 v) 2 h (omega arith) in
    let g3 : get_or (put map at (bytes4 v)) (at + 3) 0 ≡ v % 256 = get_in map at (bytes4 v) 3 h (omega arith) in
    rw (g0, g1, g2, g3) (bytes4_hold v f)

pub entry_other : (map : List ℕ) (i v j : ℕ) → i * 4 + 4 ≤ length map → (j ≡ i → ⊥) → entry_at (with_entry map i v) j ≡ entry_at map j
unfolding entry_at with_entry
entry_other map i v j h n =
    let same : (k : ℕ) → k < 4 → get_or (put map (i * 4) (bytes4 v)) (j * 4 + k) 0 ≡ get_or map (j * 4 + k) 0
    = λ k b. elim (dec_le i j) [
      | yes l ↦ get_after map (i * 4) (bytes4 v) (j * 4 + k) h (omega (arith, l, n))
      | no l ↦ get_before map (i * 4) (bytes4 v) (j * 4 + k) h (omega (arith, l))
    ] in
    let zero : j * 4 ≡ j * 4 + 0 = omega arith in
    let g0 : get_or (put map (i * 4) (bytes4 v)) (j * 4) 0 ≡ get_or map (j * 4) 0 = rw zero (same 0 (omega arith)) in
    rw (g0, same 1 (omega arith), same 2 (omega arith), same 3 (omega arith)) refl

-- past the map's end
pub entry_beyond : (map : List ℕ) (i : ℕ) → length map ≤ i * 4 → entry_at map i ≡ UNUSED
unfolding entry_at
entry_beyond map i h =
    let none : (k : ℕ) → get_or map (i * 4 + k) 0 ≡ 0 = λ k. get_or-eq_default map 0 {n = i * 4 + k} (omega arith) in
    let zero : i * 4 ≡ i * 4 + 0 = omega arith in
    let first : get_or map (i * 4) 0 ≡ 0 = rw zero (none 0) in
    rw (first, none 1, none 2, none 3) refl

-- where a block lies

pub alternate_names : (map : List ℕ) (alternates block : ℕ) → alternate_of map alternates block < alternates → entry_at map (alternate_of map alternates block) ≡ name_of block
alternate_names map alternates block l = eqb-true _ _ (lowest_holds (λ i. entry_at map i =? name_of block) alternates l)

module _ (map : List ℕ) (alternates primaries block : ℕ) where
  pub lies_mapped : alternate_of map alternates block < alternates → lies map alternates primaries block ≡ primaries + alternate_of map alternates block
  unfolding lies
  lies_mapped l = pick_true _ _ _ (lt-ltb _ _ l)

  pub lies_unmapped : alternates ≤ alternate_of map alternates block → lies map alternates primaries block ≡ block
  unfolding lies
  lies_unmapped l = pick_false _ _ _ (le-ltb _ _ l)

  -- an alternate, or the block's own place
  pub lies_where : (P : ℕ → Type 0) → ((i : ℕ) → i < alternates → entry_at map i ≡ name_of block → P (primaries + i)) → P block → P (lies map alternates primaries block)
  lies_where P f g = elim (dec_le alternates (alternate_of map alternates block)) [
    | yes h ↦ rw (lies_unmapped h) g
    | no h ↦ let l : alternate_of map alternates block < alternates = omega arith in rw (lies_mapped l) (f _ l (alternate_names map alternates block l))
  ]

  pub lies_below : block < primaries → lies map alternates primaries block < primaries + alternates
  lies_below b = lies_where (λ (p : ℕ). p < primaries + alternates) (λ i l _. omega arith) (omega arith)

pub lies_apart : (map : List ℕ) (alternates primaries block other : ℕ) → block < primaries → other < primaries → (block ≡ other → ⊥)
    → lies map alternates primaries block ≡ lies map alternates primaries other → ⊥
lies_apart map alternates primaries block other b o n =
    lies_where map alternates primaries block (λ (p : ℕ). p ≡ lies map alternates primaries other → ⊥)
    (λ i l e. lies_where map alternates primaries other (λ (q : ℕ). primaries + i ≡ q → ⊥)
    (λ j k f z. let g : i ≡ j = omega (arith, z) in n (omega (arith, sym e ∙ ap (entry_at map) g ∙ f)))
    (λ z. omega (arith, z, o)))
    (lies_where map alternates primaries other (λ (q : ℕ). block ≡ q → ⊥) (λ j k f z. omega (arith, z, b)) (λ z. n z))

-- an entry that names no block
pub unused_apart : (map : List ℕ) (alternates primaries block i : ℕ) → block < primaries → primaries < DEFECTIVE
    → (entry_at map i ≡ UNUSED) ⊎ (entry_at map i ≡ DEFECTIVE) → lies map alternates primaries block ≡ primaries + i → ⊥
unused_apart map alternates primaries block i b few u =
    lies_where map alternates primaries block (λ (p : ℕ). p ≡ primaries + i → ⊥)
    (λ j l e z. let g : j ≡ i = omega (arith, z) in ⊎_elim (λ d. omega (arith, sym e ∙ ap (entry_at map) g ∙ d)) (λ d. omega (arith, sym e ∙ ap (entry_at map) g ∙ d, b, few)) u)
    (λ z. omega (arith, z, b))

-- a format

module _ (map : List ℕ) (alternates block : ℕ) where
  pub length_flagged : alternates ≤ map_entries → length map ≡ map_size → length (flagged map alternates block) ≡ map_size
  unfolding flagged
  length_flagged few h =
      pick_ind (λ (l : List ℕ). length l ≡ map_size) _ _ _
      (λ b. length_entry map _ DEFECTIVE (rw h (omega (arith, few, ltb-true (alternate_of map alternates block) alternates b))) ∙ h)
      (λ _. h)

  pub length_formatted : alternates ≤ map_entries → length map ≡ map_size → unused_in map alternates < alternates → length (formatted map alternates block) ≡ map_size
  unfolding formatted
  length_formatted few h l =
      let e = length_flagged few h in
      length_entry (flagged map alternates block) _ (name_of block) (rw e (omega (arith, few, l))) ∙ e

  pub bytes_formatted : AreBytes map → AreBytes (formatted map alternates block)
  unfolding formatted flagged
  bytes_formatted b = bytes_entry _ _ _ (pick_ind AreBytes _ _ _ (λ _. bytes_entry map _ _ b) (λ _. b))
