-- Laws of the lines of commands, one more at a time. No contract cites this file.
use Prim.Native.Nat.{ℕ, ◌+◌}
use native.Mathlib.Numerals.{add-one}
use mathlib.Core.Path.{◌≡◌, refl}
use mathlib.Core.List.{List, [], ◌++◌}
use Rattle.text_output.specs.Printout.{status_lines, count_lines, command_lines}

pub no_commands : (answers : List ℕ) → command_lines answers 0 ≡ []
unfolding command_lines
no_commands answers = refl

pub commands_more : (answers : List ℕ) (n : ℕ) → command_lines answers (n + 1) ≡ command_lines answers n ++ status_lines answers n ++ count_lines answers n
unfolding command_lines
commands_more answers n = rw add-one
