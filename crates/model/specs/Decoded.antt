-- What the code carries of a command, beside the chain, and what it stands for.
--     pieces_from   the pieces of n CCWs from one on
--     area_of       the data area that an `Area` stands for
--     command_of    the command that a `Decoded` stands for
--     Decodes       its numbers are those of its CCWs
-- Assumes nothing.
use Rattle.std.specs.Prelude.{ℕ, zero, suc, ◌+◌, ◌-◌, ◌*◌, ◌≤◌, ◌<◌, ◌≡◌, List, [], ◌∷◌, length}
use Rattle.model.specs.declared.ccw.Piece.{Piece}
use Rattle.model.specs.declared.decoded.Area.{Area}
use Rattle.model.specs.declared.decoded.Decoded.{Decoded}
use Rattle.model.specs.Lent.{ccw_size, piece_at}
use Rattle.model.specs.Pieces.{Command, total, final}

unfoldable pub pieces_from : List ℕ → ℕ → ℕ → List Piece
pieces_from chain i zero = []
pieces_from chain i (suc n) = piece_at chain i ∷ pieces_from chain (i + 1) n

-- the pieces behind the first
abbrev pub later_of : List ℕ → Area → List Piece
later_of chain a = pieces_from chain a.next (a.end - a.next)

abbrev pub area_of : List ℕ → Area → List Piece
area_of chain a = a.piece ∷ later_of chain a

abbrev pub command_of : List ℕ → Decoded → Command
command_of chain c = record { command = c.command; first = c.area.piece; later = later_of chain c.area }

-- the CCWs of an area stand in the chain
pub record Stands (chain : List ℕ) (a : Area) : Type 0 where
  pub order : a.next ≤ a.end
  pub lent : a.end * ccw_size ≤ length chain
  pub small : a.piece.count < 65536

pub record Decodes (chain : List ℕ) (c : Decoded) : Type 0 where
  pub ccws : Stands chain c.area
  pub low : c.area.piece.address < 16777216
  pub count : c.count ≡ total (command_of chain c)
  pub few : c.count ≤ 2097120
  pub flags : c.flags ≡ (final (command_of chain c)).flags
