-- `channel_cause` meets its contract: the first line of `channel_causes`, and then those of the piece that is tested. Assumes nothing.
use mathlib.Core.Path.{sym, ◌∙◌}
use Rattle.model.specs.Causes.{channel_causes}
use Rattle.model.proofs.Verdicts.{first_here, first_later}
use Rattle.channel.proofs.causes.channel_cause.Goals as goal

pub returns-then-no_command : goal.returns-then-no_command
unfolding channel_causes
returns-then-no_command c = sym (first_here _ _ (sym c.no_command.ensures ∙ c.if-no_command.true))

pub pieces_cause-requires : goal.pieces_cause-requires
pieces_cause-requires c = let told = c.requires in (told.ccws, record { count = told.ccws.small; address = told.low })

pub returns : goal.returns
unfolding channel_causes
returns c = c.pieces_cause.ensures ∙ sym (first_later _ _ (sym c.no_command.ensures ∙ c.if-no_command.false))
