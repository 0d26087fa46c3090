-- `text_exercise::new_unit` meets its contract: the record is new, and its map is zeros. Assumes nothing.
use mathlib.Core.Path.{refl}
use Rattle.slices.specs.Parts.{zeros}
use Rattle.text_exercise.proofs.new_unit.Goals as goal

pub returns : goal.returns
unfolding zeros
returns c = rw c.new_record.ensures refl
