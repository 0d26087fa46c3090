-- Laws of what is found among the alternates. No contract cites this file.
--     found_is   what `find` says of a range, of the lowest number for which a test holds
--     any_is     what `any` says of a range, of whether the test holds for one
--     found_at   what was found, once it is known; none_found   that none was; found_unique   only one thing can be found
use Prim.Native.Nat.{ℕ, ◌≤◌, ◌<◌}
use mathlib.Core.Path.{◌≡◌, refl, sym, ap, ◌∙◌}
use mathlib.Core.Bool.{Bool, true, false, not, true≢false}
use mathlib.Core.List.{List}
use lib.ListN.{length, get_or}
use native.Mathlib.Nat.{zero-add}
use native.Mathlib.Omega.{arith}
use borrow.Author.Tests.{lt-ltb, le-ltb}
use Rattle.std.specs.Option.{is_some}
use Rattle.numbers.specs.Choice.{◌<?◌}
use Rattle.std.proofs.Common.{Option, Some, None, MatchOption, MatchBool}
use Rattle.std.specs.List.{range_with_len, AllWithin, HoldsAt}
use Rattle.std.proofs.lemmas.List.FromFn.{length-range_with_len, get_or-range_with_len}
use Rattle.numbers.specs.Lowest.{lowest, any}
use Rattle.numbers.proofs.Lowest.{lowest_is, lowest_none, any_some, any_none}
use Rattle.alternates.specs.Found.{Found}

module _ (holds : ℕ → Bool) (n : ℕ) where
  abbrev pub Holds : ℕ → Type 0
  Holds i = holds i ≡ true

  abbrev pub Fails : ℕ → Type 0
  Fails i = holds i ≡ false

  pub found_is : (found : Option ℕ) → MatchOption found ((k : ℕ) → 0 ≤ k → k < n → Fails k) (λ i. (0 ≤ i) × (i < n) × Holds i × ((k : ℕ) → 0 ≤ k → k < i → Fails k))
      → Found n (lowest holds n) found
  found_is None none = lowest_none holds n (λ k b. none k (omega arith) b)
  found_is (Some i) is = (sym (lowest_is holds n i is.1 is.2 (λ k b. is.3 k (omega arith) b)), is.1)

  abbrev numbers : List ℕ
  numbers = range_with_len 0 n

  numbered : (k : ℕ) → k < n → get_or numbers k 0 ≡ k
  numbered k b = get_or-range_with_len 0 n k 0 b ∙ zero-add k

  pub any_is : (found : Bool) → MatchBool found ((k : ℕ) × (k < length numbers) × HoldsAt Holds numbers k) (AllWithin Fails numbers 0 (length numbers)) → found ≡ any holds n
  any_is true (k, b, h) =
      let l : k < n = omega (arith, b, length-range_with_len 0 n) in
      sym (any_some holds n k l (rw (numbered k l) at (h 0)))
  any_is false none = sym (any_none holds n (λ k b. rw (numbered k b) at (none k 0 (omega arith) (omega (arith, b, length-range_with_len 0 n)))))

pub found_at : (n k i : ℕ) (found : Option ℕ) → Found n k found → found ≡ Some i → i ≡ k
found_at n k i found f e = (rw e at f).0

pub none_found : (n k : ℕ) (found : Option ℕ) (none : Bool) → Found n k found → is_some found ≡ not none → none ≡ not (k <? n)
none_found n k None true e t = sym (ap not (le-ltb k n (omega (arith, e))))
none_found n k None false e t = absurd (true≢false (sym t))
none_found n k (Some i) true is t = absurd (true≢false t)
none_found n k (Some i) false is t = sym (ap not (lt-ltb k n (omega (arith, is))))

pub found_unique : (n k : ℕ) (r s : Option ℕ) → Found n k r → Found n k s → r ≡ s
found_unique n k None None e f = refl
found_unique n k None (Some j) e f = absurd (omega (arith, e, f))
found_unique n k (Some i) None e f = absurd (omega (arith, e, f))
found_unique n k (Some i) (Some j) e f = let z : i ≡ j = e.0 ∙ sym f.0 in ap Some z
