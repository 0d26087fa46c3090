-- `text_input::settings_in` meets its contract: each field is the number in its line. Assumes nothing.
use native.Mathlib.Omega.{arith}
use mathlib.Core.List.{[]}
use lib.ListN.{get_or}
use Rattle.text_input.specs.Input.{lines, ready, readonly, exercise_in}
use Rattle.text_input.proofs.Values.{number_bounded}
use Rattle.text_input.proofs.settings_in.Goals as goal

pub overflow_cast-result : goal.overflow_cast-result
overflow_cast-result c = rw c.number_at-2.ensures (omega (arith, number_bounded ready.key (get_or (lines c.args.input.now) 1 []) 0 1 (omega arith)))

pub overflow_cast-result-2 : goal.overflow_cast-result-2
overflow_cast-result-2 c = rw c.number_at-3.ensures (omega (arith, number_bounded readonly.key (get_or (lines c.args.input.now) 2 []) 0 1 (omega arith)))

pub returns : goal.returns
unfolding exercise_in
returns c = λ i. record { blocks = c.number_at.ensures i; ready = c.number_at-2.ensures i; readonly = c.number_at-3.ensures i }
