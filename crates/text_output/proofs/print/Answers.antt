-- `text_output::print` meets its contract: the lines of the call, of its commands, and of what it left are added in turn. Assumes nothing.
use borrow.Author.Rules.{rules}
use Rattle.text_digits.proofs.Outputs.{◌then◌, wrote_front}
use Rattle.text_output.specs.Printout.{printout_of}
use Rattle.text_output.proofs.print.Goals as goal

pub returns : goal.returns
unfolding printout_of
returns c =
    wrote_front
    c.new-out.ensures.same_bytes
    c.new-out.ensures.front
    (c.number_line.ensures then c.number_line-2.ensures then c.command_lines.ensures then c.bytes_line.ensures then c.bytes_line-2.ensures)
    (search rules)
