-- `outside_extent` meets its contract. Assumes nothing.
use borrow.Author.Tests.{lt-ltb, le-ltb}
use Rattle.model.specs.Parameters.{outside}
use borrow.Author.Rules.{rules}
use Rattle.command_locate.proofs.outside_extent.Goals as goal

pub returns-then-d-e : goal.returns-then-d-e
unfolding outside
returns-then-d-e c = simp (lt-ltb _ _ c.if-d-e.true)

pub overflow_cast-end : goal.overflow_cast-end
unfolding outside
overflow_cast-end c = search rules

pub overflow_add-end : goal.overflow_add-end
unfolding outside
overflow_add-end c = search rules

pub overflow_cast-past : goal.overflow_cast-past
unfolding outside
overflow_cast-past c = search rules

pub overflow_add-past : goal.overflow_add-past
unfolding outside
overflow_add-past c = search rules

pub returns : goal.returns
unfolding outside
returns c = simp (le-ltb _ _ c.if-d-e.false)
