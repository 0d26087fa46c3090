-- `text_output::number_line` meets its contract: the key, the value and the line feed are added in turn. Assumes nothing.
use Rattle.text_digits.proofs.Outputs.{◌then◌}
use Rattle.text_output.specs.Printout.{line}
use Rattle.text_output.proofs.number_line.Goals as goal

pub returns : goal.returns
unfolding line
returns c = c.text.ensures then c.decimal.ensures then c.text-2.ensures
