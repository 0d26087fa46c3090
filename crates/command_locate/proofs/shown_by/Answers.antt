-- `shown_by` meets its contract. Assumes nothing.
use mathlib.Core.Path.{sym, ap}
use Rattle.numbers.specs.Choice.{◌=?◌}
use Rattle.numbers.proofs.Choice.{pick_true, pick_false}
use Rattle.slices.specs.Parts.{zeros}
use Rattle.model.specs.declared.cause.Cause.{Cause}
use Rattle.model.specs.declared.cause.Cause.TheVariants.{NoAlternate}
use Rattle.model.specs.Told.{cause_number}
use Rattle.model.specs.Sense.{shown}
use Rattle.model.proofs.Told.{apart}
use Rattle.command_locate.proofs.shown_by.Goals as goal

pub returns-in-NoAlternate : goal.returns-in-NoAlternate
unfolding shown
returns-in-NoAlternate c = sym (pick_true _ _ _ (ap (λ (x : Cause). cause_number x =? 39) c.in-NoAlternate.is))

pub returns-in_default : goal.returns-in_default
unfolding shown zeros
returns-in_default c = sym (pick_false _ _ _ (apart c.args.cause NoAlternate c.in_default.not-NoAlternate))
