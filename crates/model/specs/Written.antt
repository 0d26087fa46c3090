-- A class as its bytes: "each after a two-byte length" (02, ask 3), the numbers big-endian.
--     written   the buffer of these chains
--     Fit       each length has two bytes
-- `proofs/Written.antt` proves that `chains_in` finds the chains that were written, and in every buffer that holds some, no others. Assumes nothing.
use Rattle.std.specs.Prelude.{ℕ, ◌<◌, List, [], ◌∷◌, ◌++◌, length, get_or}
use Rattle.numbers.specs.Big.{bytes2}

unfoldable pub written : List (List ℕ) → List ℕ
written [] = []
written (chain ∷ chains) = bytes2 (length chain) ++ (chain ++ written chains)

abbrev pub Fit : List (List ℕ) → Type 0
Fit chains = (i : ℕ) → i < length chains → length (get_or chains i []) < 65536
