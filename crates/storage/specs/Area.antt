-- What is left of a data area behind some of its bytes.
--     beyond   the pieces behind the first n bytes
--     Rest     an area is what is left of another behind its first n bytes; no two areas are (`skip_unique` in `proofs/Beyond.antt`)
-- Assumes nothing.
use Rattle.std.specs.Prelude.{ℕ, ◌+◌, ◌-◌, ◌≡◌, List, [], ◌∷◌}
use Rattle.numbers.specs.Choice.{◌<?◌, pick}
use Rattle.model.specs.declared.ccw.Piece.{Piece}
use Rattle.model.specs.declared.decoded.Area.{Area}
use Rattle.model.specs.Decoded.{area_of, Stands}

-- a piece without its first n bytes
abbrev pub trimmed : Piece → ℕ → Piece
trimmed p n = record { address = p.address + n; count = p.count - n; flags = p.flags }

-- a piece stays, empty, until a byte behind it is asked for
unfoldable pub beyond : ℕ → List Piece → List Piece
beyond n [] = []
beyond n (p ∷ ps) = pick (p.count <? n) (beyond (n - p.count) ps) (trimmed p n ∷ ps)

pub record Rest (chain : List ℕ) (a : Area) (n : ℕ) (r : Area) : Type 0 where
  pub pieces : area_of chain r ≡ beyond n (area_of chain a)
  pub ccws : Stands chain r
  pub end : r.end ≡ a.end
