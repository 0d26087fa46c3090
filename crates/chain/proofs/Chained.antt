-- What the code tests, and the definition's own words for it.
--     chained_by   flag 80 or 40 of each CCW, looked for from the first CCW on
-- No contract cites this file.
use Prim.Native.Nat.{ℕ, zero, suc, ◌+◌}
use mathlib.Core.Path.{◌≡◌, refl, sym, ap, ◌∙◌}
use mathlib.Core.Bool.{Bool, ◌&&◌, and-true}
use Rattle.std.proofs.Math.Bool.{and_comm}
use mathlib.Core.List.{List, [], ◌∷◌, map}
use native.Mathlib.Numerals.{add-one}
use native.Mathlib.Omega.{arith}
use Rattle.std.specs.List.{range_with_len, list_all}
use Rattle.std.proofs.lemmas.List.Folds.{list_all-append, list_all-map}
use Rattle.std.proofs.lemmas.List.FromFn.{map-range_with_len_more}
use Rattle.model.specs.Lent.{piece_at}
use Rattle.model.specs.Causes.{followed, all_chained}

module _ (chain : List ℕ) where
  abbrev follows : ℕ → Bool
  follows i = followed (piece_at chain i)

  -- one more CCW, behind those looked at
  all_more : (n : ℕ) → list_all follows (range_with_len 0 (n + 1)) ≡ (follows n && list_all follows (range_with_len 0 n))
  all_more n =
      let same : (k : ℕ) → list_all (λ b. b) (map follows (range_with_len 0 k)) ≡ list_all follows (range_with_len 0 k) = λ k. list_all-map (λ b. b) follows (range_with_len 0 k) in
      sym (same (n + 1))
      ∙ ap (list_all (λ b. b)) (map-range_with_len_more follows 0 n n (omega arith))
      ∙ list_all-append (λ b. b) (map follows (range_with_len 0 n)) (follows n ∷ [])
      ∙ rw (same n, and-true) (and_comm (list_all follows (range_with_len 0 n)) (follows n))

  pub chained_by : (n : ℕ) → list_all follows (range_with_len 0 n) ≡ all_chained chain n
  unfolding all_chained
  chained_by zero = refl
  chained_by (suc n) = rw add-one at (all_more n) ∙ ap (λ (b : Bool). follows n && b) (chained_by n)
