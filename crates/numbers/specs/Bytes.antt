-- What a byte is. The code's bytes are so by their type; a list of numbers in a definition is so by this.
--     AreBytes   each element of the list is below 256
-- It stays shut; its laws are in `proofs/Bytes.antt`. Assumes nothing.
use Rattle.std.specs.Prelude.{ℕ, ◌<◌, List, [], ◌∷◌}

unfoldable pub AreBytes : List ℕ → Type 0
AreBytes [] = Unit {0}
AreBytes (b ∷ l) = (b < 256) × AreBytes l
