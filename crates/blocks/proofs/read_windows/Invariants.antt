-- `read_windows` meets its contract. Before each window, reading what is left makes the whole.
use Prim.Native.Nat.{◌+◌, ◌-◌, ◌≤◌}
use mathlib.Core.Path.{◌≡◌}
use lib.ListN.{take}
use Rattle.model.specs.Lent.{blocks_from}
use Rattle.model.specs.Pieces.{scattered}
use Rattle.model.specs.Decoded.{area_of}
use Rattle.blocks.proofs.Rows.{Left}
use Rattle.blocks.proofs.read_windows.Given as goal

abbrev pub invariant-loop-here : goal.invariant-loop-here
invariant-loop-here l =
    (l.here ≤ l.block + l.blocks) × Left l.d.block l.chain l.initial.into l.n l.main l.into l.left (l.block + l.blocks - l.here)
    × (scattered (area_of l.chain l.into) l.main (take l.left (blocks_from l.d l.map l.store l.here (l.block + l.blocks - l.here))) ≡ scattered (area_of l.chain l.initial.into) l.initial.main (take l.n (blocks_from l.d l.map l.store l.block l.blocks)))
