-- `put_sense` meets its contract. Assumes nothing.
-- a unit check: the sense of its cause
use mathlib.Core.Path.{◌∙◌, sym}
use borrow.Author.Tests.{not-true, not-false}
use Rattle.slices.specs.Parts.{zeros}
use Rattle.numbers.specs.Choice.{pick}
use Rattle.unit_state.specs.Standing.{sense_now}
use Rattle.record.proofs.Stores.{sense_made, sense_is}
use Rattle.record.proofs.put_sense.Goals as goal

pub returns-in-UnitCheck : goal.returns-in-UnitCheck
returns-in-UnitCheck c =
    λ u e. c.copy_from_slice.ensures.after ∙ c.bytes-sense.ensures ∙ sym (sense_made u c.args.l c.in-UnitCheck.is)

-- no unit check, and the sense that was found is no more
pub returns-then-not-l : goal.returns-then-not-l
unfolding sense_now pick zeros
returns-then-not-l c =
    λ u e. rw (sense_is u c.args.l c.in-Accepted.is, not-true c.args.l.state.kept c.if-not-l.true) (rw c.requires at (c.fill.ensures.after (λ y e. e)))

-- no unit check, and the sense is kept
pub returns-else-not-l : goal.returns-else-not-l
unfolding sense_now pick
returns-else-not-l c =
    λ u e. rw (sense_is u c.args.l c.in-Accepted.is, not-false c.args.l.state.kept c.if-not-l.false) (sym e)
