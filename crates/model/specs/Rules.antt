-- How a table of causes is read: a line for each cause with its rule, and the first line whose rule holds gives the verdict.
--     ◌when◌      a line of a table: this cause, when this holds
--     first_of    the verdict: the cause of the first line whose rule holds, or 0
-- Assumes nothing.
use Rattle.std.specs.Prelude.{ℕ, Bool, List, [], ◌∷◌}
use Rattle.numbers.specs.Choice.{pick}

infix 70 ◌when◌
pub record Rule : Type 0 where
  pub cause : ℕ
  pub holds : Bool

abbrev pub ◌when◌ : ℕ → Bool → Rule
cause when holds = record { cause = cause; holds = holds }

unfoldable pub first_of : List Rule → ℕ
first_of [] = 0
first_of (r ∷ rs) = pick r.holds r.cause (first_of rs)
