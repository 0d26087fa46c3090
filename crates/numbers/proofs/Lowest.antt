-- Laws of `lowest` and `any`: what holds of the number that is found, and of those before it. No contract cites this file.
--     lowest_most, lowest_holds, lowest_before   it is at most n; below n the test holds for it; it fails for each number before it
--     lowest_is, lowest_none, lowest_same        by these it is known
--     any_false, any_none, any_some              whether there is one
--     from_here, from_next                       a loop's turn, at a number: the test holds, or it goes on
use Prim.Native.Nat.{ℕ, zero, suc, ◌+◌, ◌≤◌, ◌<◌}
use mathlib.Core.Path.{◌≡◌, refl, sym, ◌∙◌}
use mathlib.Core.Bool.{Bool, true, false, true≢false}
use native.Mathlib.Omega.{arith}
use native.Mathlib.Decide.{dec_le}
use borrow.Author.Tests.{lt-ltb, le-ltb, ltb-false}
use Rattle.numbers.specs.Lowest.{lowest_from, lowest, any}
use Rattle.numbers.proofs.Choice.{pick_ind, pick_true, pick_false}

pub record Found (holds : ℕ → Bool) (n i k : ℕ) : Type 0 where
  pub from : i ≤ k
  pub most : k ≤ i + n
  pub held : k < i + n → holds k ≡ true
  pub before : (j : ℕ) → i ≤ j → j < k → holds j ≡ false

found_from : (holds : ℕ → Bool) (n i : ℕ) → Found holds n i (lowest_from holds n i)
unfolding lowest_from
found_from holds zero i = record { from = omega arith; most = omega arith; held = λ l. absurd (omega arith); before = λ j a b. absurd (omega arith) }
found_from holds (suc n) i =
    pick_ind (Found holds (suc n) i) (holds i) i _
    (λ e. record { from = omega arith; most = omega arith; held = λ _. e; before = λ j a b. absurd (omega arith) })
    (λ e.
    let f = found_from holds n (i + 1) in
    record {
      from = omega (arith, f.from);
      most = omega (arith, f.most);
      held = λ l. f.held (omega arith);
      before = λ j a b. elim (dec_le (i + 1) j) [ yes h ↦ f.before j h b | no h ↦ let z : j ≡ i = omega arith in rw z e ];
    })

pub from_here : (holds : ℕ → Bool) (n i : ℕ) → holds i ≡ true → lowest_from holds (suc n) i ≡ i
unfolding lowest_from
from_here holds n i e = pick_true (holds i) _ _ e

pub from_next : (holds : ℕ → Bool) (n i : ℕ) → holds i ≡ false → lowest_from holds (suc n) i ≡ lowest_from holds n (i + 1)
unfolding lowest_from
from_next holds n i e = pick_false (holds i) _ _ e

pub from_none : (holds : ℕ → Bool) (i : ℕ) → lowest_from holds 0 i ≡ i
unfolding lowest_from
from_none holds i = refl

module _ (holds : ℕ → Bool) (n : ℕ) where
  found : Found holds n 0 (lowest holds n)
  unfolding lowest
  found = found_from holds n 0

  pub lowest_most : lowest holds n ≤ n
  lowest_most = omega (arith, found.most)

  pub lowest_holds : lowest holds n < n → holds (lowest holds n) ≡ true
  lowest_holds l = found.held (omega arith)

  pub lowest_before : (i : ℕ) → i < lowest holds n → holds i ≡ false
  lowest_before i l = found.before i (omega arith) l

  pub lowest_none : ((i : ℕ) → i < n → holds i ≡ false) → lowest holds n ≡ n
  lowest_none f = elim (dec_le n (lowest holds n)) [
    | yes h ↦ omega (arith, lowest_most, h)
    | no h ↦ let l : lowest holds n < n = omega arith in absurd (true≢false (sym (lowest_holds l) ∙ f _ l))
  ]

  pub lowest_is : (k : ℕ) → k < n → holds k ≡ true → ((i : ℕ) → i < k → holds i ≡ false) → lowest holds n ≡ k
  lowest_is k b e f = elim (dec_le (lowest holds n) k) [
    | yes h ↦ elim (dec_le k (lowest holds n)) [
      | yes g ↦ omega (arith, h, g)
      | no g ↦ absurd (true≢false (sym (lowest_holds (omega arith)) ∙ f _ (omega arith)))
    ]
    | no h ↦ absurd (true≢false (sym e ∙ lowest_before k (omega arith)))
  ]

  pub any_false : any holds n ≡ false → (i : ℕ) → i < n → holds i ≡ false
  any_false e i b = lowest_before i (omega (arith, ltb-false (lowest holds n) n e))

  pub any_none : ((i : ℕ) → i < n → holds i ≡ false) → any holds n ≡ false
  any_none f = le-ltb (lowest holds n) n (omega (arith, lowest_none f))

  pub any_some : (i : ℕ) → i < n → holds i ≡ true → any holds n ≡ true
  any_some i b e = elim (dec_le n (lowest holds n)) [
    | yes h ↦ absurd (true≢false (sym e ∙ lowest_before i (omega arith)))
    | no h ↦ lt-ltb (lowest holds n) n (omega arith)
  ]

pub lowest_same : (f g : ℕ → Bool) (n : ℕ) → ((i : ℕ) → i < n → f i ≡ g i) → lowest f n ≡ lowest g n
lowest_same f g n e = elim (dec_le n (lowest g n)) [
  | yes h ↦ lowest_none f n (λ i b. e i b ∙ lowest_before g n i (omega arith)) ∙ omega (arith, h, lowest_most g n)
  | no h ↦
      let l : lowest g n < n = omega arith in
      lowest_is f n (lowest g n) l (e _ l ∙ lowest_holds g n l) (λ i b. e i (omega arith) ∙ lowest_before g n i b)
]
