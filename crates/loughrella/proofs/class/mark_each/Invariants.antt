-- `class::mark_each` meets its contract: its turns are those of `Marking`. The measure: the bytes ahead. Assumes nothing.
use lib.ListN.{length}
use Rattle.loughrella.proofs.Marking.{Marking}
use Rattle.loughrella.proofs.class.mark_each.Given as goal

abbrev pub invariant-loop-chain : goal.invariant-loop-chain
invariant-loop-chain l =
    Marking l.d l.chains l.initial.storage l.initial.store l.initial.unit l.initial.results l.ahead l.storage l.store l.unit l.results l.used

abbrev pub decreases-loop-chain : goal.decreases-loop-chain
decreases-loop-chain l = length l.ahead
