-- `text_exercise::number_blocks` meets its contract. The invariant: the first i blocks are those of the device.
use Prim.Native.Nat.{◌≤◌, ◌*◌}
use mathlib.Core.Path.{◌≡◌}
use lib.ListN.{length, take}
use Rattle.text_input.specs.Input.{most_blocks}
use Rattle.text_exercise.specs.Exercise.{device, new_store}
use Rattle.text_exercise.proofs.number_blocks.Given as goal

abbrev pub invariant-loop-i : goal.invariant-loop-i
invariant-loop-i l = (length l.store ≡ l.blocks * device.block) × (l.blocks ≤ most_blocks) × (take (l.i * device.block) l.store ≡ new_store l.i)
