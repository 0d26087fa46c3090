-- `skip` meets its contract. Before each piece, what is left behind the bytes still to skip is what is left of the whole; the CCWs left fall. Assumes nothing.
use mathlib.Core.Path.{refl}
use Rattle.storage.proofs.Beyond.{skipping_more, skipping_next, skipping_end}
use Rattle.storage.proofs.skip.Goals as goal

pub next_piece-rest-requires : goal.next_piece-rest-requires
next_piece-rest-requires c =
    let h = c.loop-rest.invariant in
    (h.ccws, skipping_more _ _ _ _ _ h c.loop-rest-test.true)

pub loop-rest-preserved : goal.loop-rest-preserved
loop-rest-preserved c =
    let next = c.next_piece-rest.ensures in
    skipping_next _ _ _ _ _ c.loop-rest.invariant _ next.rest.0 next.rest.1 next.rest.2 next.behind.1 c.loop-rest-test.true

pub returns : goal.returns
returns c = skipping_end _ _ _ _ _ c.loop-rest.invariant _ refl c.loop-rest-test.false
