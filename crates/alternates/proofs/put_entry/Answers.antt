-- `alternates::put_entry` meets its contract: the entry's 4 bytes are put where it stands. Assumes nothing.
use mathlib.Core.Path.{refl, ◌∙◌}
use Rattle.model.specs.Alternates.{with_entry}
use Rattle.alternates.proofs.put_entry.Goals as goal

pub returns : goal.returns
unfolding with_entry
returns c =
    let a = c.args in
    c.put_at.ensures ∙ rw (c.bytes4-bytes.ensures, c.number.ensures) refl
