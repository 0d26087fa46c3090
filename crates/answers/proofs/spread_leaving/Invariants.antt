-- `spread_leaving` meets its contract: its turns are those of `Unreached`. Assumes nothing.
use Rattle.answers.proofs.Spreading.{Unreached}
use Rattle.answers.proofs.spread_leaving.Given as goal

abbrev pub invariant-loop-i : goal.invariant-loop-i
invariant-loop-i l = Unreached l.chain l.a l.left l.i l.over
