-- `scatter` meets its contract. Before each piece, delivering what is left of the bytes makes the whole; the CCWs left fall. Assumes nothing.
use mathlib.Core.Path.{sym, ◌∙◌}
use lib.ListN.{length, length-drop}
use lib.Seq.{take_all}
use native.Mathlib.Omega.{arith}
use Rattle.slices.proofs.Laws.{rest_lent}
use Rattle.storage.proofs.Laws.{scattered_here}
use Rattle.storage.proofs.Turns.{area_more, area_next, scattered_turn}
use Rattle.storage.proofs.scatter.Goals as goal

pub next_piece-into-requires : goal.next_piece-into-requires
next_piece-into-requires c =
    let l = c.loop-into in
    (l.invariant.0.ccws, area_more _ _ _ _ l.invariant.0 c.loop-into-test.true)

pub loop-into-preserved : goal.loop-into-preserved
loop-into-preserved c =
    let l = c.loop-into in
    let more = c.loop-into-test.true in
    let next = c.next_piece-into.ensures.rest in (
      rw (rest_lent, length-drop) (area_next _ _ _ _ l.invariant.0 more _ _ next.0 next.1 (omega arith)),
      rw rest_lent (scattered_turn l.into.piece _ _ l.main _ l.rest.now next.0 c.put_at.ensures ∙ l.invariant.1),
    )

pub returns : goal.returns
returns c =
    let l = c.loop-into in
    let all = take_all (length l.rest.now) l.rest.now (omega arith) in
    c.put_at-2.ensures ∙ rw all (sym (scattered_here l.into.piece _ l.main l.rest.now c.loop-into-test.false)) ∙ l.invariant.1
