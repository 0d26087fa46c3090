-- `scatter` meets its contract. Before each piece, delivering what is left of the bytes makes the whole; the CCWs left fall. Assumes nothing.
use Prim.Native.Nat.{◌-◌}
use mathlib.Core.Path.{◌≡◌}
use lib.ListN.{length}
use Rattle.model.specs.Pieces.{scattered}
use Rattle.model.specs.Decoded.{area_of}
use Rattle.model.specs.Safe.{InArea}
use Rattle.storage.proofs.scatter.Given as goal

abbrev pub invariant-loop-into : goal.invariant-loop-into
invariant-loop-into l =
    InArea l.chain l.into l.main (length l.rest) × (scattered (area_of l.chain l.into) l.main l.rest ≡ scattered (area_of l.chain l.initial.into) l.initial.main l.initial.rest)

abbrev pub decreases-loop-into : goal.decreases-loop-into
decreases-loop-into l = l.into.end - l.into.next
