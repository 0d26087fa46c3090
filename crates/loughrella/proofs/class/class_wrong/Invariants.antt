-- `class::class_wrong` meets its contract: the rule of what is ahead is that of the whole. The measure: the bytes ahead. Assumes nothing.
use mathlib.Core.Path.{◌≡◌}
use lib.ListN.{length}
use Rattle.model.specs.Class.{chains_in, bad_class}
use Rattle.loughrella.proofs.class.class_wrong.Given as goal

abbrev pub invariant-loop-ahead : goal.invariant-loop-ahead
invariant-loop-ahead l = bad_class (chains_in l.ahead) l.left ≡ bad_class (chains_in l.chains) l.lent

abbrev pub decreases-loop-ahead : goal.decreases-loop-ahead
decreases-loop-ahead l = length l.ahead
