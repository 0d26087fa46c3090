-- What a format makes of a map, and of where blocks lie.
--     entry_taken, entry_flagged, entry_kept  the entries of the new map: the one that is taken, the old one, and all others
--     lies_other       a format changes where its own block lies, and of no other
--     Right            what cause 8's rule says of a map that it passes; right_of, right_is   it is that, both ways
--     lies_named       in such a map the block that an entry names lies there
--     format_right     a format keeps every map that passed cause 8 such
--     lies_formatted   and its block then lies at the alternate that it took
-- No contract cites this file.
use Prim.Native.Nat.{ℕ, ◌+◌, ◌*◌, ◌≤◌, ◌<◌}
use mathlib.Core.Path.{◌≡◌, refl, sym, ap, ◌∙◌}
use mathlib.Core.Bool.{Bool, true, false, not, ◌&&◌, ◌||◌, true≢false}
use mathlib.Core.Logic.{dite}
use mathlib.Core.List.{List}
use lib.ListN.{length}
use native.Mathlib.Omega.{arith}
use native.Mathlib.Decide.{dec_le, ℕ_discrete}
use borrow.Author.Tests.{lt-ltb, le-ltb, ltb-false, eq-eqb, ne_eqb, eqb-true, not-false}
use Rattle.numbers.specs.Choice.{◌<?◌, ◌=?◌}
use Rattle.numbers.specs.Lowest.{any}
use Rattle.numbers.proofs.Choice.{pick_true, pick_false}
use Rattle.numbers.proofs.Joined.{both_false, either_false}
use Rattle.numbers.proofs.Lowest.{lowest_holds, lowest_before, lowest_is, lowest_same, any_false, any_none}
use Rattle.model.specs.Names.{UNUSED, DEFECTIVE}
use Rattle.model.specs.Alternates.{map_entries, map_size, entry_at, with_entry, name_of, is_name, alternate_of, lies, unused_in, flagged, formatted, named_twice, names_none, beyond_alternates, bad_entry, bad_map}
use Rattle.model.proofs.Alternates.{entry_set, entry_other, length_flagged, alternate_names, lies_mapped}

module _ (map : List ℕ) (alternates block : ℕ) (few : alternates ≤ map_entries) (long : length map ≡ map_size) (takes : unused_in map alternates < alternates) (small : name_of block < DEFECTIVE) where
  abbrev taken : ℕ
  taken = unused_in map alternates

  abbrev old : ℕ
  old = alternate_of map alternates block

  was_unused : entry_at map taken ≡ UNUSED
  was_unused = eqb-true _ _ (lowest_holds (λ i. entry_at map i =? UNUSED) alternates takes)

  -- the entry that is taken is not the old one
  taken_other : old < alternates → taken ≡ old → ⊥
  taken_other l e = omega (arith, sym was_unused ∙ ap (entry_at map) e ∙ alternate_names map alternates block l)

  -- the map with the old entry flagged

  flagged_old : old < alternates → entry_at (flagged map alternates block) old ≡ DEFECTIVE
  unfolding flagged
  flagged_old l = rw (pick_true (old <? alternates) (with_entry map old DEFECTIVE) map (lt-ltb old alternates l)) (entry_set map old DEFECTIVE (rw long (omega (arith, few, l))) (omega arith))

  flagged_kept : (j : ℕ) → (old < alternates → j ≡ old → ⊥) → entry_at (flagged map alternates block) j ≡ entry_at map j
  unfolding flagged
  flagged_kept j n = elim (dec_le alternates old) [
    | yes h ↦ rw (pick_false (old <? alternates) (with_entry map old DEFECTIVE) map (le-ltb old alternates h)) refl
    | no h ↦
        let l : old < alternates = omega arith in
        rw (pick_true (old <? alternates) (with_entry map old DEFECTIVE) map (lt-ltb old alternates l)) (entry_other map old DEFECTIVE j (rw long (omega (arith, few, l))) (n l))
  ]

  -- the entry that is taken is still unused
  pub flagged_taken : entry_at (flagged map alternates block) taken ≡ UNUSED
  flagged_taken = flagged_kept taken taken_other ∙ was_unused

  pub flagged_room : taken * 4 + 4 ≤ length (flagged map alternates block)
  flagged_room = rw (length_flagged map alternates block few long) (omega (arith, few, takes))

  pub entry_taken : entry_at (formatted map alternates block) taken ≡ name_of block
  unfolding formatted
  entry_taken = entry_set (flagged map alternates block) taken (name_of block) flagged_room (omega (arith, small))

  pub entry_flagged : old < alternates → entry_at (formatted map alternates block) old ≡ DEFECTIVE
  unfolding formatted
  entry_flagged l = entry_other (flagged map alternates block) taken (name_of block) old flagged_room (λ e. taken_other l (sym e)) ∙ flagged_old l

  pub entry_kept : (j : ℕ) → (j ≡ taken → ⊥) → (old < alternates → j ≡ old → ⊥) → entry_at (formatted map alternates block) j ≡ entry_at map j
  unfolding formatted
  entry_kept j n m = entry_other (flagged map alternates block) taken (name_of block) j flagged_room n ∙ flagged_kept j m

  -- each entry is one of these
  pub entry_cases : (P : ℕ → Type 0) (j : ℕ) → (j ≡ taken → P (name_of block)) → (old < alternates → j ≡ old → P DEFECTIVE) → ((j ≡ taken → ⊥) → (old < alternates → j ≡ old → ⊥) → P (entry_at map j))
      → P (entry_at (formatted map alternates block) j)
  entry_cases P j f g h =
      dite (ℕ_discrete j taken) (λ e. rw (ap (entry_at (formatted map alternates block)) e ∙ entry_taken) (f e)) (λ n.
      elim (dec_le alternates old) [
        | yes k ↦ let m : old < alternates → j ≡ old → ⊥ = λ l _. omega arith in rw (entry_kept j n m) (h n m)
        | no k ↦
            let l : old < alternates = omega arith in
            dite (ℕ_discrete j old) (λ e. rw (ap (entry_at (formatted map alternates block)) e ∙ entry_flagged l) (g l e))
            (λ o. rw (entry_kept j n (λ _ e. o e)) (h n (λ _ e. o e)))
      ])

  -- where blocks lie

  -- an entry names another block in the new map exactly where it did in the old one
  other_named : (other j : ℕ) → (other ≡ block → ⊥) → name_of other < DEFECTIVE → (entry_at (formatted map alternates block) j =? name_of other) ≡ (entry_at map j =? name_of other)
  other_named other j n s =
      entry_cases (λ (e : ℕ). (e =? name_of other) ≡ (entry_at map j =? name_of other)) j
      (λ e. ne_eqb (name_of block) (name_of other) (λ z. n (omega (arith, z))) ∙ sym (ne_eqb (entry_at map j) (name_of other) (λ z. omega (arith, sym was_unused ∙ ap (entry_at map) (sym e) ∙ z))))
      (λ l e. ne_eqb DEFECTIVE (name_of other) (λ z. omega (arith, z, s)) ∙ sym (ne_eqb (entry_at map j) (name_of other) (λ z. n (omega (arith, sym z ∙ ap (entry_at map) e ∙ alternate_names map alternates block l)))))
      (λ _ _. refl)

  pub alternate_other : (other : ℕ) → (other ≡ block → ⊥) → name_of other < DEFECTIVE → alternate_of (formatted map alternates block) alternates other ≡ alternate_of map alternates other
  alternate_other other n s = lowest_same _ _ alternates (λ j _. other_named other j n s)

  pub lies_other : (primaries other : ℕ) → (other ≡ block → ⊥) → name_of other < DEFECTIVE → lies (formatted map alternates block) alternates primaries other ≡ lies map alternates primaries other
  unfolding lies
  lies_other primaries other n s = rw (alternate_other other n s)

  -- the block of a format is mapped
  pub formatted_mapped : alternate_of (formatted map alternates block) alternates block < alternates
  formatted_mapped = elim (dec_le alternates (alternate_of (formatted map alternates block) alternates block)) [
    | yes h ↦ absurd (true≢false (sym (eq-eqb _ _ entry_taken) ∙ lowest_before (λ i. entry_at (formatted map alternates block) i =? name_of block) alternates taken (omega (arith, h, takes))))
    | no h ↦ omega arith
  ]

-- a map that cause 8 passes

pub record Right (map : List ℕ) (alternates primaries : ℕ) : Type 0 where
  pub once : (i j : ℕ) → i < map_entries → j < map_entries → (i ≡ j → ⊥) → is_name (entry_at map i) ≡ true → entry_at map i ≡ entry_at map j → ⊥
  pub known : (i : ℕ) → i < map_entries → is_name (entry_at map i) ≡ true → entry_at map i ≤ primaries
  pub beyond : (i : ℕ) → i < map_entries → alternates ≤ i → entry_at map i ≡ UNUSED

pub name_is : (e : ℕ) → (e ≡ UNUSED → ⊥) → (e ≡ DEFECTIVE → ⊥) → is_name e ≡ true
name_is e n m = rw (ne_eqb e 0 n, ne_eqb e DEFECTIVE m) refl

pub name_some : (e : ℕ) → is_name e ≡ true → e ≡ UNUSED → ⊥
name_some e b z = true≢false (sym b ∙ ap is_name z)

name_sound : (e : ℕ) → is_name e ≡ true → e ≡ DEFECTIVE → ⊥
name_sound e b z = true≢false (sym b ∙ ap is_name z)

module _ (map : List ℕ) (alternates primaries : ℕ) where
  pub right_of : bad_map map alternates primaries ≡ false → Right map alternates primaries
  unfolding bad_map
  right_of b =
      let twice : ℕ → Bool = named_twice map alternates primaries in
      let none : ℕ → Bool = names_none map alternates primaries in
      let past : ℕ → Bool = beyond_alternates map alternates primaries in
      let all : (i : ℕ) → i < map_entries → (twice i || none i ≡ false) × (past i ≡ false) = λ i h. either_false (twice i || none i) (past i) (any_false (bad_entry map alternates primaries) map_entries b i h) in
      let earlier : (i j : ℕ) → i < map_entries → j < i → is_name (entry_at map i) ≡ true → entry_at map i ≡ entry_at map j → ⊥
      = λ i j h l n e.
      let p = (either_false (twice i) (none i) (all i h).0).0 in
      true≢false (sym (eq-eqb _ _ (sym e)) ∙ any_false (λ k. entry_at map k =? entry_at map i) i (both_false (is_name (entry_at map i)) (any (λ k. entry_at map k =? entry_at map i) i) p n) j l) in
      record {
        once = λ i j h k d n e. elim (dec_le i j) [
          | yes l ↦ earlier j i k (omega (arith, l, d)) (rw (← e) n) (sym e)
          | no l ↦ earlier i j h (omega (arith, l)) n e
        ];
        known = λ i h n. ltb-false _ _ (both_false (is_name (entry_at map i)) (primaries <? entry_at map i) (either_false (twice i) (none i) (all i h).0).1 n);
        beyond = λ i h l.
            let beyond : not (i <? alternates) ≡ true = rw (le-ltb i alternates l) refl in
            eqb-true _ _ (not-false _ (both_false (not (i <? alternates)) (not (entry_at map i =? UNUSED)) (all i h).1 beyond));
      }

  pub right_is : Right map alternates primaries → bad_map map alternates primaries ≡ false
  unfolding bad_map
  right_is r = any_none (bad_entry map alternates primaries) map_entries (λ i h. either_none _ _ (either_none _ _ (named_once i h) (named_known i h)) (none_beyond i h))
    where
      either_none : (a b : Bool) → a ≡ false → b ≡ false → a || b ≡ false
      either_none a b e f = rw (e, f) refl

      both_none : (a b : Bool) → (a ≡ true → b ≡ false) → a && b ≡ false
      both_none true b f = f refl
      both_none false b f = refl

      named_once : (i : ℕ) → i < map_entries → is_name (entry_at map i) && any (λ j. entry_at map j =? entry_at map i) i ≡ false
      named_once i h = both_none (is_name (entry_at map i)) _ (λ n. any_none (λ j. entry_at map j =? entry_at map i) i (λ j l. ne_eqb _ _ (λ e. r.once i j h (omega arith) (λ d. omega arith) n (sym e))))

      named_known : (i : ℕ) → i < map_entries → is_name (entry_at map i) && primaries <? entry_at map i ≡ false
      named_known i h = both_none (is_name (entry_at map i)) _ (λ n. le-ltb _ _ (r.known i h n))

      none_beyond : (i : ℕ) → i < map_entries → not (i <? alternates) && not (entry_at map i =? UNUSED) ≡ false
      none_beyond i h = elim (dec_le alternates i) [
        | yes l ↦ rw (eq-eqb _ _ (r.beyond i h l), le-ltb i alternates l) refl
        | no l ↦ rw (lt-ltb i alternates (omega arith)) refl
      ]

  -- the block that an entry names lies there
  pub lies_named : Right map alternates primaries → (i block : ℕ) → i < alternates → alternates ≤ map_entries → entry_at map i ≡ name_of block → name_of block < DEFECTIVE → lies map alternates primaries block ≡ primaries + i
  lies_named r i block l few e small =
      let n : is_name (entry_at map i) ≡ true = name_is (entry_at map i) (λ z. omega (arith, z, e)) (λ z. omega (arith, z, e, small)) in
      let at : alternate_of map alternates block ≡ i = lowest_is (λ j. entry_at map j =? name_of block) alternates i l (eq-eqb _ _ e)
      (λ j k. ne_eqb _ _ (λ z. r.once i j (omega arith) (omega arith) (λ d. omega arith) n (e ∙ sym z))) in
      lies_mapped map alternates primaries block (rw at l) ∙ rw at refl

module _ (map : List ℕ) (alternates primaries block : ℕ) (few : alternates ≤ map_entries) (long : length map ≡ map_size) (takes : unused_in map alternates < alternates) (on : block < primaries) (small : primaries < DEFECTIVE) (r : Right map alternates primaries) where
  -- no entry of the new map but the one that was taken names the block
  named_new : (j : ℕ) → j < map_entries → (j ≡ unused_in map alternates → ⊥) → entry_at (formatted map alternates block) j ≡ name_of block → ⊥
  named_new j h n =
      entry_cases map alternates block few long takes (omega arith) (λ (e : ℕ). e ≡ name_of block → ⊥) j (λ e. absurd (n e)) (λ _ _ z. omega (arith, z))
      (λ _ o z.
      let name : is_name (entry_at map j) ≡ true = name_is (entry_at map j) (λ y. omega (arith, y, z)) (λ y. omega (arith, y, z)) in
      elim (dec_le alternates j) [
        | yes l ↦ omega (arith, r.beyond j h l, z)
        | no l ↦
            let m : alternate_of map alternates block ≤ j = not_before j (omega arith) z in
            let old : alternate_of map alternates block < alternates = omega arith in
            r.once j _ h (omega arith) (o old) name (z ∙ sym (alternate_names map alternates block old))
      ])
    where
      not_before : (j : ℕ) → j < alternates → entry_at map j ≡ name_of block → alternate_of map alternates block ≤ j
      not_before j l z = elim (dec_le (alternate_of map alternates block) j) [
        | yes h ↦ h
        | no h ↦ absurd (true≢false (sym (eq-eqb _ _ z) ∙ lowest_before (λ i. entry_at map i =? name_of block) alternates j (omega arith)))
      ]

  pub format_right : Right (formatted map alternates block) alternates primaries
  format_right =
      let cases = entry_cases map alternates block few long takes (omega arith) in
      let new : List ℕ = formatted map alternates block in
      let u : ℕ = unused_in map alternates in
      record {
        once = λ i j h k d.
            cases (λ (e : ℕ). is_name e ≡ true → e ≡ entry_at new j → ⊥) i
            (λ e _ z. named_new j k (λ y. d (e ∙ sym y)) (sym z))
            (λ _ _ n _. name_sound _ n refl)
            (λ o m n z.
            cases (λ (f : ℕ). entry_at map i ≡ f → ⊥) j
            (λ e y. named_new i h o (entry_kept map alternates block few long takes (omega arith) i o m ∙ y))
            (λ _ _ y. name_sound _ n y)
            (λ _ _ y. r.once i j h k d n y) z);
        known = λ i h.
            cases (λ (e : ℕ). is_name e ≡ true → e ≤ primaries) i (λ _ _. omega arith) (λ _ _ n. absurd (name_sound _ n refl)) (λ _ _ n. r.known i h n);
        beyond = λ i h l.
            cases (λ (e : ℕ). e ≡ UNUSED) i (λ e. absurd (omega arith)) (λ o e. absurd (omega arith)) (λ _ _. r.beyond i h l);
      }

  pub lies_formatted : lies (formatted map alternates block) alternates primaries block ≡ primaries + unused_in map alternates
  lies_formatted = lies_named (formatted map alternates block) alternates primaries format_right (unused_in map alternates) block takes few (entry_taken map alternates block few long takes (omega arith)) (omega arith)
