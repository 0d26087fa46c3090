-- `be` meets its contract. The invariant: n is the number in the bytes so far.
use Rattle.std.proofs.Common.{◌≡◌}
use Rattle.numbers.specs.Big.{be}
use Rattle.numbers.proofs.be.Given as goal

abbrev pub invariant-loop-b : goal.invariant-loop-b
invariant-loop-b g l = l.n ≡ be l.b-index l.s l.at
