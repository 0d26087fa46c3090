-- `Sense::none` meets its contract. Assumes nothing.
use mathlib.Core.Path.{refl}
use Rattle.slices.specs.Parts.{zeros}
use Rattle.sense_table.proofs.Sense.none.Goals as goal

pub returns : goal.returns
unfolding zeros
returns c = refl
