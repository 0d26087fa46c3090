-- `read_window` meets its contract. Before each row, reading what is left makes the whole.
use Prim.Native.Nat.{ℕ, ◌+◌, ◌-◌}
use mathlib.Core.Path.{◌≡◌}
use mathlib.Core.List.{List}
use lib.ListN.{length, take}
use Rattle.std.specs.Slice.Iter.{chunk_by_rest}
use Rattle.model.specs.Lent.{blocks_from}
use Rattle.model.specs.Pieces.{scattered}
use Rattle.model.specs.Decoded.{area_of}
use Rattle.blocks.specs.Places.{PlacesOf}
use Rattle.blocks.proofs.Rows.{Behind, Left}
use Rattle.blocks.proofs.read_window.Given as goal

abbrev pub invariant-loop-row : goal.invariant-loop-row
invariant-loop-row l =
    let rest = chunk_by_rest l.row-iterator in
    let done = length l.at - length rest in
    Behind l.at rest × Left l.d.block l.chain l.initial.into l.n l.main l.into l.left (length rest)
    × ((map : List ℕ) (block : ℕ) → PlacesOf l.d map l.store block l.at → scattered (area_of l.chain l.into) l.main (take l.left (blocks_from l.d map l.store (block + done) (length rest)))
    ≡ scattered (area_of l.chain l.initial.into) l.initial.main (take l.n (blocks_from l.d map l.store block (length l.at))))
