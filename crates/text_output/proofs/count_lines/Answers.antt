-- `text_output::count_lines` meets its contract: the three lines are added in turn, of the numbers that the answer holds. Assumes nothing.
use Rattle.text_digits.proofs.Outputs.{◌then◌}
use Rattle.text_output.specs.Printout.{count_lines}
use Rattle.text_output.proofs.count_lines.Goals as goal

pub returns : goal.returns
unfolding count_lines
returns c = rw (← c.be2.ensures.0, ← c.be2-2.ensures.0) (c.number_line.ensures then rw c.from.ensures at c.number_line-2.ensures then c.number_line-3.ensures)
