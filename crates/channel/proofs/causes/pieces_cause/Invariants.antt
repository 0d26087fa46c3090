-- `pieces_cause` meets its contract: while the pieces before an area passed, its verdict is that of all. Assumes nothing.
use Prim.Native.Nat.{◌-◌}
use mathlib.Core.Path.{◌≡◌}
use Rattle.model.specs.Decoded.{Stands}
use Rattle.model.specs.Safe.{PieceFits}
use Rattle.channel.proofs.Tested.{cause}
use Rattle.channel.proofs.causes.pieces_cause.Given as goal

abbrev pub invariant-loop-area : goal.invariant-loop-area
invariant-loop-area l = Stands l.chain l.area × PieceFits l.area.piece × (cause l.chain l.command l.held l.area ≡ cause l.chain l.command l.held l.initial.area)

abbrev pub decreases-loop-area : goal.decreases-loop-area
decreases-loop-area l = l.area.end - l.area.next
