-- A command is a run of CCWs (02, ask 2: data chaining): what its pieces are, what is gathered from them, and how bytes are
-- scattered to them. The commands themselves do not know of pieces.
--     Command               the command's own byte, and its pieces: the first, and those that flag 80 adds; pieces   all of them
--     commands_in           the commands of a chain, in order; command_at   one of them, counted from 0
--     total, final          the sum of the counts; the last piece, whose flags 40 and 20 hold for the command
--     fetched, delivered    bytes from, and to, the command's data area in main storage
--     Spread, spread        some bytes over the pieces, in turn: the pieces that they fill, and what they leave of the next one's count
-- Assumes nothing.
use Rattle.std.specs.Prelude.{ℕ, zero, suc, ◌+◌, ◌-◌, ◌/◌, List, [], ◌∷◌, ◌++◌, length, get_or, take, drop}
use Rattle.numbers.specs.Choice.{◌<?◌, pick}
use Rattle.slices.specs.Parts.{part, put}
use Rattle.model.specs.declared.ccw.Piece.{Piece}
use Rattle.model.specs.Names.{chain_data}
use Rattle.model.specs.Lent.{ccw_size, code_at, piece_at, flag}

pub record Command : Type 0 where
  pub command : ℕ
  pub first : Piece
  pub later : List Piece

abbrev pub pieces : Command → List Piece
pieces c = c.first ∷ c.later

-- "Flag 80 on a CCW continues the same command with the next CCW's address, flags and count; its command byte is ignored"

abbrev pub begins : ℕ → Piece → List Command → List Command
begins code p rest = record { command = code; first = p; later = [] } ∷ rest

-- where no CCW follows, cause 5 refuses the chain
unfoldable pub continues : ℕ → Piece → List Command → List Command
continues code p [] = begins code p []
continues code p (c ∷ cs) = record { command = code; first = p; later = pieces c } ∷ cs

-- of the n CCWs from i on
unfoldable pub commands_from : List ℕ → ℕ → ℕ → List Command
commands_from chain zero i = []
commands_from chain (suc n) i =
    let rest = commands_from chain n (i + 1) in
    pick (flag (piece_at chain i) chain_data) (continues (code_at chain i) (piece_at chain i) rest) (begins (code_at chain i) (piece_at chain i) rest)

unfoldable pub commands_in : List ℕ → List Command
commands_in chain = commands_from chain (length chain / ccw_size) 0

unfoldable pub command_at : List ℕ → ℕ → Command
command_at chain i = get_or (commands_in chain) i (record { command = code_at [] 0; first = piece_at [] 0; later = [] })

-- "count rules take the sum"
unfoldable pub counts : List Piece → ℕ
counts [] = 0
counts (p ∷ ps) = p.count + counts ps

abbrev pub total : Command → ℕ
total c = counts (pieces c)

-- "Incorrect length goes by the last piece's flag 20; that piece's flag 40 chains"
unfoldable pub final_of : Piece → List Piece → Piece
final_of p [] = p
final_of p (q ∷ qs) = final_of q qs

abbrev pub final : Command → Piece
final c = final_of c.first c.later

-- Main storage: "A command's data area is its count of bytes from its address", piece after piece

unfoldable pub bytes_in : List Piece → List ℕ → List ℕ
bytes_in [] main = []
bytes_in (p ∷ ps) main = part main p.address p.count ++ bytes_in ps main

unfoldable pub fetched : Command → List ℕ → ℕ → List ℕ
fetched c main n = take n (bytes_in (pieces c) main)

-- in order: where pieces overlap, the later bytes stay
unfoldable pub scattered : List Piece → List ℕ → List ℕ → List ℕ
scattered [] main bytes = main
scattered (p ∷ ps) main bytes = scattered ps (put main p.address (take p.count bytes)) (drop p.count bytes)

unfoldable pub delivered : Command → List ℕ → List ℕ → List ℕ
delivered c main bytes = scattered (pieces c) main bytes

-- "A piece is reached if it is the first or bytes move there": the pieces reached before the last one, which the bytes fill, and
-- the residual of that one
pub record Spread : Type 0 where
  pub filled : ℕ
  pub residual : ℕ

unfoldable pub spread : Piece → List Piece → ℕ → Spread
spread p [] n = record { filled = 0; residual = p.count - n }
spread p (q ∷ qs) n =
    let rest = spread q qs (n - p.count) in
    pick (p.count <? n) (record { filled = 1 + rest.filled; residual = rest.residual }) (record { filled = 0; residual = p.count - n })
