-- Tests of numbers, as values that a rule can hold, and what is chosen by one.
--     ◌<?◌ ◌=?◌   less, equal
--     one_of      a number is among those listed
--     pick        one of two, by a test
-- Assumes nothing.
use Rattle.std.specs.Prelude.{ℕ, Bool, true, false, ◌||◌, List, [], ◌∷◌, ltb, eqb}

infix 50 ◌<?◌ ◌=?◌
abbrev pub ◌<?◌ : ℕ → ℕ → Bool
n <? m = ltb n m

abbrev pub ◌=?◌ : ℕ → ℕ → Bool
n =? m = eqb n m

unfoldable pub one_of : List ℕ → ℕ → Bool
one_of [] n = false
one_of (k ∷ ks) n = n =? k || one_of ks n

unfoldable pub pick : {A : Type 0} → Bool → A → A → A
pick true a b = a
pick false a b = b
