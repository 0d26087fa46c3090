-- `replication_wrong` meets its contract. Assumes nothing.
use borrow.Author.Tests.{eq-eqb, ne_eqb, lt-ltb, le-ltb}
use Rattle.command_locate.proofs.replication_wrong.Goals as goal

pub returns-then-l-ne-READ_REPLICATED : goal.returns-then-l-ne-READ_REPLICATED
returns-then-l-ne-READ_REPLICATED c = simp (ne_eqb _ _ c.if-l-ne-READ_REPLICATED.true)

pub returns-then-replication-unit : goal.returns-then-replication-unit
returns-then-replication-unit c = simp (eq-eqb _ _ c.if-l-ne-READ_REPLICATED.false, lt-ltb _ _ c.if-replication-unit.true)

pub returns : goal.returns
returns c = simp (eq-eqb _ _ c.if-l-ne-READ_REPLICATED.false, le-ltb _ _ c.if-replication-unit.false)
