-- Demand 3, the maps: two maps that are equal once the extent's blocks are named by displacement send a block of the extent to the same
-- alternate, have the same alternate to take, and are still equal so after a format.
--     Spans             two extents of one length and one first displacement
--     name_same         an entry names block k of the extent in the one map exactly where it does in the other
--     alternate_same    so block k is mapped to the same alternate in both, or to none
--     unused_same       the alternate that a format takes is the same
--     maps_formatted    after a format of block k they are equal so too
-- No contract cites this file.
use Prim.Native.Nat.{ℕ, ◌+◌, ◌-◌, ◌≤◌, ◌<◌}
use mathlib.Core.Path.{◌≡◌, refl, sym, ap, ◌∙◌}
use mathlib.Core.Bool.{Bool, true, false, true≢false}
use mathlib.Core.List.{List}
use lib.ListN.{length}
use native.Mathlib.Omega.{arith}
use borrow.Author.Tests.{lt-ltb, le-ltb, ltb-true, eq-eqb, ne_eqb, eqb-true, eqb-false}
use Rattle.numbers.specs.Choice.{◌<?◌, ◌=?◌}
use Rattle.numbers.proofs.Choice.{pick_true, pick_false}
use Rattle.numbers.proofs.Joined.{both_true}
use Rattle.numbers.proofs.Lowest.{lowest_same}
use Rattle.model.specs.declared.extent.Extent.{Extent}
use Rattle.model.specs.Names.{UNUSED, DEFECTIVE}
use Rattle.model.specs.Alternates.{map_entries, map_size, entry_at, name_of, alternate_of, unused_in, formatted}
use Rattle.model.specs.Moved.{names_within, Name, named, SameMaps}
use Rattle.model.proofs.Formats.{entry_taken, entry_flagged, entry_kept, entry_cases}

abbrev pub span : Extent → ℕ
span e = e.last.0 - e.first.0

pub record Spans (e e' : Extent) : Type 0 where
  pub first : e.first.0 ≡ e'.first.0
  pub long : span e ≡ span e'

-- what the test says

within_is : (e : Extent) (a : ℕ) → e.offset.0 < a → a ≤ name_of (e.offset.0 + span e) → names_within e a ≡ true
within_is e a h k = rw (lt-ltb e.offset.0 a h, lt-ltb a (name_of (e.offset.0 + span e) + 1) (omega arith)) refl

within_of : (e : Extent) (a : ℕ) → names_within e a ≡ true → (e.offset.0 < a) × (a ≤ name_of (e.offset.0 + span e))
within_of e a b =
    let p = both_true (e.offset.0 <? a) (a <? name_of (e.offset.0 + span e) + 1) b in
    let h : a < name_of (e.offset.0 + span e) + 1 = ltb-true _ _ p.1 in
    (ltb-true _ _ p.0, omega (arith, h))

-- block k of the extent is within it, so an entry that is not names another
outside_other : (e : Extent) (a k : ℕ) → names_within e a ≡ false → k ≤ span e → a ≡ name_of (e.offset.0 + k) → ⊥
outside_other e a k b h z = true≢false (sym (within_is e a (omega (arith, z)) (omega (arith, z, h))) ∙ b)

outside_named : (e : Extent) (a : ℕ) → names_within e a ≡ false → (named e a).number ≡ a
outside_named e a b = pick_false _ _ _ b

inside_named : (e : Extent) (a : ℕ) → names_within e a ≡ true → (named e a).number ≡ e.first.0 + (a - name_of e.offset.0)
inside_named e a b = pick_true _ _ _ b

-- one entry of the one map, and of the other
module _ (e e' : Extent) (s : Spans e e') (a b : ℕ) (same : named e a ≡ named e' b) where
  displaced_same : names_within e a ≡ names_within e' b
  displaced_same = ap (λ (n : Name). n.displaced) same

  number_same : (named e a).number ≡ (named e' b).number
  number_same = ap (λ (n : Name). n.number) same

  -- both name block k of the extent, or neither
  by_within : (P : Type 0) → ((k : ℕ) → k ≤ span e → a ≡ name_of (e.offset.0 + k) → b ≡ name_of (e'.offset.0 + k) → P) → (names_within e a ≡ false → names_within e' b ≡ false → a ≡ b → P) → P
  by_within P f g = go (names_within e a) refl
    where
      go : (w : Bool) → names_within e a ≡ w → P
      go true t =
          let t' : names_within e' b ≡ true = sym displaced_same ∙ t in
          let h = within_of e a t in
          let h' = within_of e' b t' in
          let n : e.first.0 + (a - name_of e.offset.0) ≡ e'.first.0 + (b - name_of e'.offset.0) = sym (inside_named e a t) ∙ number_same ∙ inside_named e' b t' in
          f (a - name_of e.offset.0) (omega (arith, h.0, h.1)) (omega (arith, h.0)) (omega (arith, n, s.first, h.0, h'.0))
      go false t =
          let t' : names_within e' b ≡ false = sym displaced_same ∙ t in
          g t t' (sym (outside_named e a t) ∙ number_same ∙ outside_named e' b t')

  pub name_same : (k : ℕ) → k ≤ span e → (a =? name_of (e.offset.0 + k)) ≡ (b =? name_of (e'.offset.0 + k))
  name_same k h = by_within ((a =? name_of (e.offset.0 + k)) ≡ (b =? name_of (e'.offset.0 + k)))
      (λ j l x y. same_test a (name_of (e.offset.0 + k)) b (name_of (e'.offset.0 + k)) (λ z. omega (arith, x, y, z)) (λ z. omega (arith, x, y, z)))
      (λ t t' z. ne_eqb _ _ (outside_other e a k t h) ∙ sym (ne_eqb _ _ (outside_other e' b k t' (omega (arith, h, s.long)))))
    where
      same_test : (x y z w : ℕ) → (x ≡ y → z ≡ w) → (z ≡ w → x ≡ y) → (x =? y) ≡ (z =? w)
      same_test x y z w f g = go (x =? y) refl
        where
          go : (t : Bool) → (x =? y) ≡ t → (x =? y) ≡ (z =? w)
          go true t = t ∙ sym (eq-eqb z w (f (eqb-true x y t)))
          go false t = t ∙ sym (ne_eqb z w (λ q. eqb-false x y t (g q)))

  pub zero_same : (a =? UNUSED) ≡ (b =? UNUSED)
  zero_same = by_within ((a =? UNUSED) ≡ (b =? UNUSED)) (λ k l x y. ne_eqb a 0 (λ z. omega (arith, x, z)) ∙ sym (ne_eqb b 0 (λ z. omega (arith, y, z)))) (λ _ _ z. ap (λ (n : ℕ). n =? UNUSED) z)

-- two maps
module _ (e e' : Extent) (s : Spans e e') (m m' : List ℕ) (same : SameMaps e e' m m') (alternates : ℕ) where
  pub alternate_same : (k : ℕ) → k ≤ span e → alternate_of m alternates (e.offset.0 + k) ≡ alternate_of m' alternates (e'.offset.0 + k)
  alternate_same k h = lowest_same _ _ alternates (λ i _. name_same e e' s (entry_at m i) (entry_at m' i) (same i) k h)

  pub unused_same : unused_in m alternates ≡ unused_in m' alternates
  unused_same = lowest_same _ _ alternates (λ i _. zero_same e e' s (entry_at m i) (entry_at m' i) (same i))

  -- block k is formatted in both
  module _ (few : alternates ≤ map_entries) (long : length m ≡ map_size) (long' : length m' ≡ map_size) (takes : unused_in m alternates < alternates)
      (small : name_of (e.offset.0 + span e) < DEFECTIVE) (small' : name_of (e'.offset.0 + span e') < DEFECTIVE) (k : ℕ) (h : k ≤ span e) where
    taken_named : named e (name_of (e.offset.0 + k)) ≡ named e' (name_of (e'.offset.0 + k))
    taken_named =
        let w = within_is e (name_of (e.offset.0 + k)) (omega arith) (omega (arith, h)) in
        let w' = within_is e' (name_of (e'.offset.0 + k)) (omega arith) (omega (arith, h, s.long)) in
        let n : (named e (name_of (e.offset.0 + k))).number ≡ (named e' (name_of (e'.offset.0 + k))).number = inside_named e _ w ∙ omega (arith, s.first) ∙ sym (inside_named e' _ w') in
        λ i. record { displaced = (w ∙ sym w') i; number = n i }

    defective_named : named e DEFECTIVE ≡ named e' DEFECTIVE
    defective_named =
        let w : names_within e DEFECTIVE ≡ false = beyond e small in
        let w' : names_within e' DEFECTIVE ≡ false = beyond e' small' in
        let n : (named e DEFECTIVE).number ≡ (named e' DEFECTIVE).number = outside_named e _ w ∙ sym (outside_named e' _ w') in
        λ i. record { displaced = (w ∙ sym w') i; number = n i }
      where
        beyond : (f : Extent) → name_of (f.offset.0 + span f) < DEFECTIVE → names_within f DEFECTIVE ≡ false
        beyond f l = rw (lt-ltb f.offset.0 DEFECTIVE (omega arith), le-ltb DEFECTIVE (name_of (f.offset.0 + span f) + 1) (omega arith)) refl

    pub maps_formatted : SameMaps e e' (formatted m alternates (e.offset.0 + k)) (formatted m' alternates (e'.offset.0 + k))
    maps_formatted i =
        let b : ℕ = e.offset.0 + k in
        let b' : ℕ = e'.offset.0 + k in
        let on : name_of b < DEFECTIVE = omega (arith, small, h) in
        let on' : name_of b' < DEFECTIVE = omega (arith, small', h, s.long) in
        let takes' : unused_in m' alternates < alternates = rw (← unused_same) takes in
        let old = alternate_same k h in
        entry_cases m alternates b few long takes on (λ (x : ℕ). named e x ≡ named e' (entry_at (formatted m' alternates b') i)) i
        (λ z. rw (ap (entry_at (formatted m' alternates b')) (z ∙ unused_same) ∙ entry_taken m' alternates b' few long' takes' on') taken_named)
        (λ l z. rw (ap (entry_at (formatted m' alternates b')) (z ∙ old) ∙ entry_flagged m' alternates b' few long' takes' on' (rw (← old) l)) defective_named)
        (λ n o. rw (entry_kept m' alternates b' few long' takes' on' i (λ z. n (z ∙ sym unused_same)) (λ l z. o (rw old l) (z ∙ sym old))) (same i))
