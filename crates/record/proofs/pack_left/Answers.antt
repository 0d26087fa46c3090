-- `pack_left` meets its contract. Assumes nothing.
use mathlib.Core.Path.{refl, ◌∙◌}
use native.Mathlib.Omega.{arith}
use lib.Seq.{length-take-le}
use Rattle.slices.specs.Parts.{part}
use Rattle.model.specs.Lent.{record_of}
use Rattle.record.proofs.Stores.{left_stored}
use Rattle.record.proofs.pack_left.Goals as goal

pub returns : goal.returns
unfolding record_of part
returns c =
    c.put_counts.ensures ∙ left_stored c.args.l c.args.to.now _ c.requires (c.put_sense.auto.to ∙ length-take-le 24 c.args.to.now (omega arith)) (c.put_sense.ensures (record_of c.args.to.now) refl)
