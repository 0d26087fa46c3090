-- `fetch` meets its contract: the bytes are a part of the first piece, or they are gathered. Assumes nothing.
use mathlib.Core.Path.{◌∙◌}
use Rattle.slices.specs.Parts.{part}
use Rattle.slices.proofs.Laws.{rest_lent, put_all}
use Rattle.model.specs.Decoded.{later_of}
use Rattle.storage.proofs.Laws.{gathered_here, length_taken}
use Rattle.storage.proofs.fetch.Goals as goal

pub returns : goal.returns
unfolding part
returns c =
    let a = c.args in
    let area = c.requires in
    let here = gathered_here a.a.piece (later_of a.chain.now a.a) _ a.main.now area.inside.0 c.if-a-n.false in
    rw (rest_lent, ← here) at c.copy.ensures ∙ put_all _ _ (length_taken _ _ _ area.inside area.left)
