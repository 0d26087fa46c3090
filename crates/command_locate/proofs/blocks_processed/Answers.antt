-- `blocks_processed` meets its contract. Assumes nothing.
use borrow.Author.Tests.{eq-eqb, ne_eqb}
use Rattle.numbers.specs.Choice.{pick}
use Rattle.model.specs.Parameters.{processed}
use borrow.Author.Rules.{rules}
use Rattle.command_locate.proofs.blocks_processed.Goals as goal

pub overflow_cast-result : goal.overflow_cast-result
unfolding processed pick
overflow_cast-result c = search rules

pub returns-then-l-eq-READ_REPLICATED : goal.returns-then-l-eq-READ_REPLICATED
unfolding processed pick
returns-then-l-eq-READ_REPLICATED c = simp (eq-eqb _ _ c.if-l-eq-READ_REPLICATED.true)

pub returns-else-l-eq-READ_REPLICATED : goal.returns-else-l-eq-READ_REPLICATED
unfolding processed pick
returns-else-l-eq-READ_REPLICATED c = simp (ne_eqb _ _ c.if-l-eq-READ_REPLICATED.false)
