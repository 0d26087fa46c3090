-- `text_output::status_lines` meets its contract: the three lines are added in turn. Assumes nothing.
use Rattle.text_digits.proofs.Outputs.{◌then◌}
use Rattle.text_output.specs.Printout.{status_lines}
use Rattle.text_output.proofs.status_lines.Goals as goal

pub returns : goal.returns
unfolding status_lines
returns c = c.number_line.ensures then c.bytes_line.ensures then c.bytes_line-2.ensures
