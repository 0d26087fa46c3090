-- `count_wrong` meets its contract. Assumes nothing.
use Rattle.command_locate.proofs.Tests.{count_last}
use borrow.Author.Tests.{eq-eqb, ne_eqb}
use Rattle.command_locate.proofs.count_wrong.Goals as goal

pub returns-then-l-eq0 : goal.returns-then-l-eq0
returns-then-l-eq0 c = simp (eq-eqb _ _ c.if-l-eq0.true)

pub returns-then-l-ne-FORMAT : goal.returns-then-l-ne-FORMAT
returns-then-l-ne-FORMAT c = simp (ne_eqb _ _ c.if-l-eq0.false, ne_eqb _ _ c.if-l-ne-FORMAT.true)

pub returns : goal.returns
returns c = count_last _ _ c.if-l-eq0.false c.if-l-ne-FORMAT.false
