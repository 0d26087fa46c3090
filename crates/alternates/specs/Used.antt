-- A map in which nothing was ever entered.
--     none_used   each byte of it is 0
-- Assumes nothing.
use Rattle.std.specs.Prelude.{ℕ, Bool, not, List, length, get_or}
use Rattle.numbers.specs.Choice.{◌=?◌}
use Rattle.numbers.specs.Lowest.{any}

unfoldable pub none_used : List ℕ → Bool
none_used map = not (any (λ i. not (get_or map i 0 =? 0)) (length map))
