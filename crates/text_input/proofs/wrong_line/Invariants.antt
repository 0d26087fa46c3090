-- `text_input::wrong_line` meets its contract. The invariant: the lines before n are right, so the first wrong line is the first from n on.
use Prim.Native.Nat.{◌+◌, ◌≤◌}
use mathlib.Core.Path.{◌≡◌}
use lib.ListN.{length, drop}
use Rattle.text_input.specs.Input.{lines, wrong_from, wrong_line}
use Rattle.text_input.proofs.wrong_line.Given as goal

abbrev pub invariant-loop-line : goal.invariant-loop-line
invariant-loop-line l = (l.n ≡ length l.yielded + 1) × (l.n ≤ 37) × (wrong_line l.input ≡ wrong_from l.n (drop (length l.yielded) (lines l.input)))
