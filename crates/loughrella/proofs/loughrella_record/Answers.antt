-- `loughrella::loughrella_record` meets its contract. Assumes nothing.
use mathlib.Core.Path.{sym, ◌∙◌}
use Rattle.slices.specs.Parts.{zeros}
use Rattle.model.proofs.Hosts.{set_up_record}
use Rattle.loughrella.proofs.Hosted.{front_taken, new_stored}
use Rattle.loughrella.proofs.loughrella_record.Goals as goal

pub returns : goal.returns
unfolding zeros
returns c =
    let args = c.args in
    let packed = c.pack in
    let whole = c.if-unit-ne-UNIT_RECORD.false in
    rw (new_stored args.unit.now _ _ whole (packed.auto.to ∙ front_taken args.unit.now whole) (c.fill.ensures.after (λ y e. e)), packed.ensures, c.new_record.ensures) (sym (set_up_record args.unit.now args.ready args.read_only whole))
