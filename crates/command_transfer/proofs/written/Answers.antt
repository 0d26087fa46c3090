-- `written` meets its contract. Assumes nothing.
use mathlib.Core.Path.{sym, ◌∙◌}
use borrow.Author.Tests.{eq-eqb, ne_eqb}
use Rattle.numbers.proofs.Choice.{pick_true, pick_false}
use Rattle.command_transfer.specs.Transferred.{written_by}
use borrow.Author.Rules.{rules}
use Rattle.command_transfer.proofs.written.Goals as goal

pub written_counted-requires : goal.written_counted-requires
unfolding written_by
written_counted-requires c = search rules

pub returns-then-code-eq-WRITE_CHECK : goal.returns-then-code-eq-WRITE_CHECK
unfolding written_by
returns-then-code-eq-WRITE_CHECK c = c.written_counted.ensures ∙ sym (pick_true _ _ _ (eq-eqb _ _ c.if-code-eq-WRITE_CHECK.true))

pub returns : goal.returns
unfolding written_by
returns c = sym (pick_false _ _ _ (ne_eqb _ _ c.if-code-eq-WRITE_CHECK.false))
