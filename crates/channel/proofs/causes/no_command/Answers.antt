-- `no_command` meets its contract: the mask and the rule agree on all 256 bytes. Assumes nothing.
use mathlib.Core.Path.{refl}
use Rattle.numbers.proofs.Bits.{mask_off}
use Rattle.numbers.specs.Choice.{one_of}
use Rattle.model.specs.Causes.{no_command}
use borrow.Author.Rules.{rules}
use Rattle.channel.proofs.causes.no_command.Goals as goal

pub returns : goal.returns
unfolding one_of
returns c = mask_off _ no_command refl c.args.command (search rules)
