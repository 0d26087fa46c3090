-- `text_exercise::run` meets its contract: the store is the device, the unit is new, and the run's one number is taken apart. Assumes nothing.
use native.Mathlib.Omega.{arith}
use mathlib.Core.Path.{◌∙◌}
use lib.Seq.{length-take-le}
use Rattle.text_exercise.proofs.Runs.{told, answered, exercised_is, zeros_lent}
use Rattle.text_exercise.proofs.run.Goals as goal

pub print-requires : goal.print-requires
print-requires c = answered c.run_lending-ran.ensures (c.run_lending-ran.auto.answers ∙ length-take-le _ _ (omega arith))

pub returns : goal.returns
returns c =
    let a = c.args in
    rw (exercised_is a.s a.chain.now a.main.now _ _ c.number_blocks.ensures c.new_unit.ensures, zeros_lent a.chain.now c.requires.1, ← (told c.run_lending-ran.ensures)) c.print.ensures
