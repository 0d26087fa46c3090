-- `mark` meets its contract. Assumes nothing.
use mathlib.Core.Path.{sym}
use Rattle.numbers.proofs.Choice.{pick_true, pick_false}
use Rattle.answers.proofs.mark.Goals as goal

pub returns-then-wrong : goal.returns-then-wrong
returns-then-wrong c = sym (pick_true _ _ _ c.if-wrong.true)

pub returns-else-wrong : goal.returns-else-wrong
returns-else-wrong c = sym (pick_false _ _ _ c.if-wrong.false)
