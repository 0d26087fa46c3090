-- `step` meets its contract: the channel's table, then the unit's, then the command's own. Assumes nothing.
use mathlib.Core.Path.{sym, ◌∙◌}
use Rattle.unit.proofs.Performing.{by_channel, by_ready}
use Rattle.unit.proofs.step.Goals as goal

pub channel_cause-requires : goal.channel_cause-requires
channel_cause-requires c = c.requires.1

pub returns-in-Err : goal.returns-in-Err
returns-in-Err c =
    by_channel c.args.main.now c.requires.0 c.requires.1 c.in-Err.cause c.in-Err.ensures c.refuse.ensures

pub returns-then-not_ready : goal.returns-then-not_ready
returns-then-not_ready c =
    by_ready c.args.main.now c.requires.0 c.requires.1 (sym c.in_default.ensures) (sym c.not_ready.ensures ∙ c.if-not_ready.true) c.refuse-then-not_ready.ensures

pub perform-requires : goal.perform-requires
perform-requires c = (c.requires.0, c.requires.1, record { channel = sym c.in_default.ensures; ready = sym c.not_ready.ensures ∙ c.if-not_ready.false })

pub returns : goal.returns
returns c = c.perform.ensures
