-- Where blocks in a row lie.
--     places_from   n of them from a block on, each where the definition says (`lies`)
-- Assumes nothing.
use Rattle.std.specs.Prelude.{ℕ, zero, suc, ◌+◌, List, [], ◌∷◌}
use Rattle.model.specs.Alternates.{lies}

unfoldable pub places_from : List ℕ → ℕ → ℕ → ℕ → ℕ → List ℕ
places_from map alternates primaries block zero = []
places_from map alternates primaries block (suc n) = lies map alternates primaries block ∷ places_from map alternates primaries (block + 1) n
