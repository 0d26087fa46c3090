-- The bits of a byte, numbered as FIPS 97 numbers them: bit 0 is the leftmost.
--     bit      bit n of the byte is one
--     any_bit  one of the listed bits is one
-- Assumes nothing.
use Rattle.std.specs.Prelude.{ℕ, ◌-◌, ◌/◌, ◌%◌, ◌^◌, Bool, false, ◌||◌, List, [], ◌∷◌, eqb}

unfoldable pub bit : ℕ → ℕ → Bool
bit byte n = eqb (byte / 2 ^ (7 - n) % 2) 1

unfoldable pub any_bit : ℕ → List ℕ → Bool
any_bit byte [] = false
any_bit byte (n ∷ ns) = bit byte n || any_bit byte ns
