-- The lowest number for which a test holds.
--     lowest   of those below n; n where there is none
--     any      the test holds for one of those below n
-- Assumes nothing.
use Rattle.std.specs.Prelude.{ℕ, zero, suc, ◌+◌, Bool}
use Rattle.numbers.specs.Choice.{◌<?◌, pick}

-- of n numbers from i on
unfoldable pub lowest_from : (ℕ → Bool) → ℕ → ℕ → ℕ
lowest_from holds zero i = i
lowest_from holds (suc n) i = pick (holds i) i (lowest_from holds n (i + 1))

unfoldable pub lowest : (ℕ → Bool) → ℕ → ℕ
lowest holds n = lowest_from holds n 0

abbrev pub any : (ℕ → Bool) → ℕ → Bool
any holds n = lowest holds n <? n
