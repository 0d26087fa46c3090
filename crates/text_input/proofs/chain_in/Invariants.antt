-- `text_input::chain_in` meets its contract. The invariant: the lines that are left are right, and what they say goes after what stands in `to`.
use Prim.Native.Nat.{◌+◌, ◌≤◌, ◌*◌}
use mathlib.Core.Path.{◌≡◌}
use lib.ListN.{length, drop}
use Rattle.model.specs.Lent.{ccw_size}
use Rattle.text_input.specs.Input.{lines, wrong_from, most_chain, chain_in, exercise_in}
use Rattle.text_input.proofs.Reading.{Goes}
use Rattle.text_input.proofs.chain_in.Given as goal

abbrev pub invariant-loop-line : goal.invariant-loop-line
invariant-loop-line l =
    (l.end ≡ length l.yielded * ccw_size) × (length l.yielded ≤ 32) × (length l.to ≡ most_chain) × (length l.initial.to ≡ most_chain)
    × (wrong_from (5 + length l.yielded) (drop (length l.yielded) (drop 4 (lines l.input))) ≡ 0)
    × Goes l.initial.to (exercise_in (lines l.input)).chain l.to l.end (chain_in (drop (length l.yielded) (drop 4 (lines l.input))))
