-- `store_mapped` meets its contract. Before each window, storing what is left makes the whole.
use Prim.Native.Nat.{◌-◌, ◌≤◌}
use mathlib.Core.Path.{◌≡◌}
use lib.ListN.{take}
use Rattle.model.specs.Lent.{blocks_into}
use Rattle.model.specs.Pieces.{bytes_in}
use Rattle.model.specs.Decoded.{area_of}
use Rattle.blocks.proofs.Rows.{Left}
use Rattle.blocks.proofs.store_mapped.Given as goal

abbrev pub invariant-loop-here : goal.invariant-loop-here
invariant-loop-here l =
    (l.here ≤ l.end) × Left l.d.block l.chain l.initial.from l.n l.main l.from l.left (l.end - l.here)
    × (blocks_into l.d l.map l.store l.here (l.end - l.here) (take l.left (bytes_in (area_of l.chain l.from) l.main)) ≡ blocks_into l.d l.map l.initial.store l.block l.blocks (take l.n (bytes_in (area_of l.chain l.initial.from) l.main)))
