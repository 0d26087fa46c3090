-- `text_output::command_lines` meets its contract: the lines of one command more are added. Assumes nothing.
use Rattle.text_digits.proofs.Outputs.{wrote_nil, ◌then◌}
use Rattle.text_output.proofs.Commands.{no_commands, commands_more}
use Rattle.text_output.proofs.command_lines.Goals as goal

pub loop-i-init : goal.loop-i-init
loop-i-init c = (c.requires, rw no_commands wrote_nil)

pub loop-i-preserved : goal.loop-i-preserved
loop-i-preserved c = (c.requires, rw commands_more (c.loop-i.invariant.1 then c.status_lines.ensures then c.count_lines.ensures))
