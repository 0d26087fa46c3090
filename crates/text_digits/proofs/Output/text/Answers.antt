-- `text_digits::Output::text` meets its contract: as much is added as fits, and nothing where there is no room. Assumes nothing.
use native.Mathlib.Omega.{arith}
use mathlib.Core.Path.{◌∙◌, refl, ap}
use Rattle.slices.specs.Parts.{put}
use Rattle.slices.proofs.Laws.{put_lent_whole}
use Rattle.text_digits.proofs.Outputs.{adds_none, adds_fits}
use Rattle.text_digits.proofs.Output.text.Goals as goal

pub returns-then-self : goal.returns-then-self
returns-then-self c =
    let o = c.args.self.now in
    let copied = c.copy_from_slice.ensures in
    record {
      same_reference = refl;
      added = adds_fits (omega arith) (put_lent_whole o.bytes.now _ o.at c.min-n.result copied.len (omega arith) ∙ ap (put o.bytes.now o.at) copied.after);
    }

pub returns-else-self : goal.returns-else-self
returns-else-self c = record { same_reference = refl; added = adds_none (omega arith) }
