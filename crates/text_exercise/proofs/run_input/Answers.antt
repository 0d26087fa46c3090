-- `text_exercise::run_input` meets its contract: settings, chain and main storage are what the input says. Assumes nothing.
use native.Mathlib.Omega.{arith}
use lib.ListN.{length-take}
use Rattle.text_input.proofs.Rights.{few_blocks}
use Rattle.text_exercise.proofs.Runs.{front_is}
use Rattle.text_exercise.proofs.run_input.Goals as goal

pub run-requires : goal.run-requires
run-requires c = (rw c.settings_in.ensures (few_blocks _ c.requires), simp length-take (omega (arith, c.chain_in-n.ensures.fits)))

pub returns : goal.returns
returns c = rw (c.settings_in.ensures, front_is c.storage_in-m.ensures, front_is c.chain_in-n.ensures) at c.run.ensures
