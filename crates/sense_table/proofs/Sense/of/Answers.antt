-- `Sense::of` meets its contract: the row's number is its three bytes, which go to their places. Assumes nothing.
use mathlib.Core.Path.{◌≡◌, refl, ap, ◌∙◌}
use Rattle.numbers.specs.Big.{bytes3}
use Rattle.sense_table.specs.declared.SenseRow.{SenseRow}
use Rattle.sense_table.specs.Sensed.{sense_showing}
use Rattle.sense_table.proofs.Stores.{row_bytes}
use Rattle.sense_table.proofs.Sense.of.Goals as goal

pub returns : goal.returns
unfolding sense_showing
returns c =
    let told : c.bytes3-bytes.result ≡ _ = c.bytes3-bytes.ensures ∙ ap (λ (r : SenseRow). bytes3 r.0) c.row_of-row.ensures ∙ row_bytes _ in
    rw told refl
