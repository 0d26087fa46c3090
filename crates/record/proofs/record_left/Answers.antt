-- `record_left` meets its contract. Assumes nothing.
use mathlib.Core.Path.{refl}
use Rattle.model.specs.Log.{with_sense, with_counts}
use Rattle.buffered_log.specs.Counts.{counted}
use Rattle.record.proofs.Stores.{unit_left_lem}
use Rattle.record.proofs.record_left.Goals as goal

pub returns : goal.returns
unfolding counted with_counts with_sense
returns c =
    rw (c.put_sense.ensures c.args.u refl, unit_left_lem c.args.u c.args.l) refl
