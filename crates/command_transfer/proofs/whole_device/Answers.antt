-- `whole_device` meets its contract. Assumes nothing.
use mathlib.Core.Path.{refl}
use Rattle.model.specs.Commands.{whole_device}
use borrow.Author.Rules.{rules}
use Rattle.command_transfer.proofs.whole_device.Goals as goal

pub overflow_sub-result : goal.overflow_sub-result
unfolding whole_device
overflow_sub-result c = search rules

pub overflow_cast-result : goal.overflow_cast-result
unfolding whole_device
overflow_cast-result c = search rules

pub returns : goal.returns
unfolding whole_device
returns c = refl
