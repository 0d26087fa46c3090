-- `write_inhibited` meets its contract. Assumes nothing.
use borrow.Author.Tests.{eq-eqb, ne_eqb}
use Rattle.command_locate.proofs.write_inhibited.Goals as goal

pub returns-then-read_only-eq0 : goal.returns-then-read_only-eq0
returns-then-read_only-eq0 c = simp (eq-eqb _ _ c.if-read_only-eq0.true)

pub returns-then-writes : goal.returns-then-writes
returns-then-writes c = simp (ne_eqb _ _ c.if-read_only-eq0.false, ← c.writes.ensures, c.if-writes.true)

pub returns : goal.returns
returns c = simp (ne_eqb _ _ c.if-read_only-eq0.false, ← c.writes.ensures, c.if-writes.false)
