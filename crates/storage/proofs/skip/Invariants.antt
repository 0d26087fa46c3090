-- `skip` meets its contract. Before each piece, what is left behind the bytes still to skip is what is left of the whole; the CCWs left fall. Assumes nothing.
use Prim.Native.Nat.{◌-◌}
use Rattle.storage.proofs.Beyond.{Skipping}
use Rattle.storage.proofs.skip.Given as goal

abbrev pub invariant-loop-rest : goal.invariant-loop-rest
invariant-loop-rest l = Skipping l.chain l.initial.rest l.n l.rest l.left

abbrev pub decreases-loop-rest : goal.decreases-loop-rest
decreases-loop-rest l = l.rest.end - l.rest.next
