-- `text_output::command_lines` meets its contract. The invariant: the lines of the first i commands are added.
use Prim.Native.Nat.{◌≤◌, ◌*◌}
use lib.ListN.{length}
use Rattle.model.specs.Answer.{answer_size}
use Rattle.text_digits.specs.Output.{Wrote}
use Rattle.text_output.specs.Printout.{command_lines}
use Rattle.text_output.proofs.command_lines.Given as goal

abbrev pub invariant-loop-i : goal.invariant-loop-i
invariant-loop-i l = (l.n * answer_size ≤ length l.answers) × Wrote l.initial.out (command_lines l.answers l.i) l.out
