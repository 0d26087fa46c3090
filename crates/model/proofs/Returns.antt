-- What a return makes of a map (02, ask 6), of where blocks lie, and of what the next format takes.
--     entry_freed, entry_left   the entries of the new map: the one that is freed is unused, and all others stay
--     length_unmapped, bytes_unmapped
--                               it is as long, and of bytes
--     alternate_none, alternate_left
--                               the block has no alternate then, and every other block the one that it had
--     lies_home, lies_left      so the block lies at its own place, and every other where it lay
--     return_right              a map that passed cause 8 stays such
--     next_freed, next_lower    a format then takes the freed alternate where no lower one is unused, else what it would have taken
-- No contract cites this file.
use Prim.Native.Nat.{ℕ, ◌+◌, ◌*◌, ◌≤◌, ◌<◌}
use mathlib.Core.Path.{◌≡◌, refl, sym, ap, ◌∙◌}
use mathlib.Core.Bool.{true, false}
use mathlib.Core.Logic.{dite}
use mathlib.Core.List.{List}
use lib.ListN.{length}
use native.Mathlib.Omega.{arith}
use native.Mathlib.Decide.{ℕ_discrete}
use borrow.Author.Tests.{eq-eqb, ne_eqb, eqb-true}
use Rattle.numbers.specs.Bytes.{AreBytes}
use Rattle.numbers.specs.Choice.{◌=?◌}
use Rattle.numbers.proofs.Lowest.{lowest_holds, lowest_before, lowest_is, lowest_none, lowest_same}
use Rattle.model.specs.Names.{UNUSED, DEFECTIVE}
use Rattle.model.specs.Alternates.{map_entries, map_size, entry_at, name_of, is_name, alternate_of, lies, unused_in, unmapped}
use Rattle.model.proofs.Alternates.{length_entry, bytes_entry, entry_set, entry_other, alternate_names, lies_unmapped}
use Rattle.model.proofs.Formats.{Right, name_is, name_some}

module _ (map : List ℕ) (alternates block : ℕ) (few : alternates ≤ map_entries) (long : length map ≡ map_size) (mapped : alternate_of map alternates block < alternates) where
  abbrev freed : ℕ
  freed = alternate_of map alternates block

  abbrev new : List ℕ
  new = unmapped map alternates block

  room : freed * 4 + 4 ≤ length map
  room = rw long (omega (arith, few, mapped))

  pub length_unmapped : length new ≡ map_size
  unfolding unmapped
  length_unmapped = length_entry map freed UNUSED room ∙ long

  pub entry_freed : entry_at new freed ≡ UNUSED
  unfolding unmapped
  entry_freed = entry_set map freed UNUSED room (omega arith)

  pub entry_left : (j : ℕ) → (j ≡ freed → ⊥) → entry_at new j ≡ entry_at map j
  unfolding unmapped
  entry_left j n = entry_other map freed UNUSED j room n

  -- each entry is one of these
  pub left_cases : (P : ℕ → Type 0) (j : ℕ) → (j ≡ freed → P UNUSED) → ((j ≡ freed → ⊥) → P (entry_at map j)) → P (entry_at new j)
  left_cases P j f g = dite (ℕ_discrete j freed) (λ e. rw (ap (entry_at new) e ∙ entry_freed) (f e)) (λ n. rw (entry_left j n) (g n))

  pub named_freed : entry_at map freed ≡ name_of block
  named_freed = alternate_names map alternates block mapped

  -- of every other block

  pub alternate_left : (other : ℕ) → (other ≡ block → ⊥) → alternate_of new alternates other ≡ alternate_of map alternates other
  alternate_left other n = lowest_same _ _ alternates (λ j _.
      left_cases (λ (e : ℕ). (e =? name_of other) ≡ (entry_at map j =? name_of other)) j
      (λ e. ne_eqb UNUSED (name_of other) (λ z. omega (arith, z)) ∙ sym (ne_eqb (entry_at map j) (name_of other) (λ z. n (omega (arith, sym z ∙ ap (entry_at map) e ∙ named_freed)))))
      (λ _. refl))

  pub lies_left : (primaries other : ℕ) → (other ≡ block → ⊥) → lies new alternates primaries other ≡ lies map alternates primaries other
  unfolding lies
  lies_left primaries other n = rw (alternate_left other n)

  -- the next format

  abbrev lowest_unused : ℕ
  lowest_unused = unused_in map alternates

  used_before : (j : ℕ) → j < lowest_unused → j < freed → (entry_at new j =? UNUSED) ≡ false
  used_before j l b = rw (entry_left j (λ e. omega (arith, e))) (lowest_before (λ i. entry_at map i =? UNUSED) alternates j l)

  pub next_freed : freed ≤ lowest_unused → unused_in new alternates ≡ freed
  next_freed h = lowest_is (λ i. entry_at new i =? UNUSED) alternates freed mapped (eq-eqb _ _ entry_freed) (λ j l. used_before j (omega arith) l)

  pub next_lower : lowest_unused < freed → unused_in new alternates ≡ lowest_unused
  next_lower h =
      let was : entry_at map lowest_unused ≡ UNUSED = eqb-true _ _ (lowest_holds (λ i. entry_at map i =? UNUSED) alternates (omega arith)) in
      lowest_is (λ i. entry_at new i =? UNUSED) alternates lowest_unused (omega arith) (eq-eqb _ _ (entry_left lowest_unused (λ e. omega (arith, e)) ∙ was)) (λ j l. used_before j l (omega arith))

pub bytes_unmapped : (map : List ℕ) (alternates block : ℕ) → AreBytes map → AreBytes (unmapped map alternates block)
unfolding unmapped
bytes_unmapped map alternates block b = bytes_entry map _ _ b

-- in a map that cause 8 passes

module _ (map : List ℕ) (alternates primaries block : ℕ) (few : alternates ≤ map_entries) (long : length map ≡ map_size) (mapped : alternate_of map alternates block < alternates) (small : name_of block < DEFECTIVE) (r : Right map alternates primaries) where
  -- no other entry named the block
  unnamed : (j : ℕ) → j < map_entries → entry_at (unmapped map alternates block) j ≡ name_of block → ⊥
  unnamed j h =
      left_cases map alternates block few long mapped (λ (e : ℕ). e ≡ name_of block → ⊥) j (λ _ z. omega (arith, z))
      (λ n z.
      let name : is_name (entry_at map j) ≡ true = name_is (entry_at map j) (λ y. omega (arith, y, z)) (λ y. omega (arith, y, z)) in
      r.once j (alternate_of map alternates block) h (omega (arith, few, mapped)) n name (z ∙ sym (alternate_names map alternates block mapped)))

  pub alternate_none : alternate_of (unmapped map alternates block) alternates block ≡ alternates
  alternate_none = lowest_none (λ i. entry_at (unmapped map alternates block) i =? name_of block) alternates (λ j l. ne_eqb _ _ (unnamed j (omega arith)))

  pub lies_home : lies (unmapped map alternates block) alternates primaries block ≡ block
  lies_home = lies_unmapped (unmapped map alternates block) alternates primaries block (omega (arith, alternate_none))

  pub return_right : Right (unmapped map alternates block) alternates primaries
  return_right =
      let cases = left_cases map alternates block few long mapped in
      record {
        once = λ i j h k d.
            cases (λ (e : ℕ). is_name e ≡ true → e ≡ entry_at (unmapped map alternates block) j → ⊥) i
            (λ _ n _. name_some _ n refl)
            (λ _ n z. cases (λ (f : ℕ). entry_at map i ≡ f → ⊥) j (λ _ y. name_some _ n y) (λ _ y. r.once i j h k d n y) z);
        known = λ i h. cases (λ (e : ℕ). is_name e ≡ true → e ≤ primaries) i (λ _ n. absurd (name_some _ n refl)) (λ _ n. r.known i h n);
        beyond = λ i h l. cases (λ (e : ℕ). e ≡ UNUSED) i (λ _. refl) (λ _. r.beyond i h l);
      }
