-- `sense_now` meets its contract. Assumes nothing.
use mathlib.Core.Path.{refl}
use Rattle.slices.specs.Parts.{zeros}
use Rattle.numbers.specs.Choice.{pick}
use Rattle.unit_state.specs.Standing.{sense_now}
use Rattle.unit_state.proofs.sense_now.Goals as goal

pub returns-then-kept : goal.returns-then-kept
unfolding sense_now pick
returns-then-kept c = rw c.if-kept.true refl

pub returns-else-kept : goal.returns-else-kept
unfolding sense_now pick zeros
returns-else-kept c = rw c.if-kept.false refl
