-- `store_window` meets its contract. Before each row, storing what is left makes the whole.
use Prim.Native.Nat.{ℕ, ◌+◌, ◌-◌}
use mathlib.Core.Path.{◌≡◌}
use mathlib.Core.List.{List}
use lib.ListN.{length, take}
use Rattle.std.specs.Slice.Iter.{chunk_by_rest}
use Rattle.model.specs.Lent.{blocks_into}
use Rattle.model.specs.Pieces.{bytes_in}
use Rattle.model.specs.Decoded.{area_of}
use Rattle.blocks.specs.Places.{PlacesOf}
use Rattle.blocks.proofs.Rows.{Behind, Left}
use Rattle.blocks.proofs.store_window.Given as goal

abbrev pub invariant-loop-room : goal.invariant-loop-room
invariant-loop-room l =
    let rest = chunk_by_rest l.room-iterator in
    let done = length l.at - length rest in
    Behind l.at rest × Left l.d.block l.chain l.initial.from l.n l.main l.from l.left (length rest)
    × ((map : List ℕ) (block : ℕ) → PlacesOf l.d map l.initial.store block l.at → blocks_into l.d map l.store (block + done) (length rest) (take l.left (bytes_in (area_of l.chain l.from) l.main))
    ≡ blocks_into l.d map l.initial.store block (length l.at) (take l.n (bytes_in (area_of l.chain l.initial.from) l.main)))
