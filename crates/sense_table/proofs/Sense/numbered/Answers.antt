-- `Sense::numbered` meets its contract: what is no cause's number has no row. Assumes nothing.
use mathlib.Core.Path.{refl}
use Rattle.slices.specs.Parts.{zeros}
use Rattle.sense_table.specs.Sensed.{sense_showing}
use Rattle.sense_table.proofs.Stores.{none_numbered}
use Rattle.sense_table.proofs.Sense.numbered.Goals as goal

pub returns-in-Err : goal.returns-in-Err
unfolding sense_showing zeros
returns-in-Err c = rw (none_numbered c.args.cause c.in-Err.ensures, c.none.ensures) refl
