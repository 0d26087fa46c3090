-- `gather` meets its contract. Before each piece, the bytes that are left to fetch, behind those that were, make the whole; the CCWs left fall. Assumes nothing.
use Prim.Native.Nat.{◌+◌, ◌-◌, ◌≤◌, ◌<◌}
use mathlib.Core.Path.{◌≡◌, refl, ◌∙◌}
use lib.ListN.{length}
use native.Mathlib.Nat.{sub-zero}
use native.Mathlib.Omega.{arith}
use Rattle.slices.proofs.Laws.{rest_lent, put_all}
use Rattle.storage.proofs.Laws.{length_taken}
use Rattle.storage.proofs.Turns.{area_more, area_next, gathered_turn, gathered_end}
use Rattle.storage.proofs.gather.Goals as goal

pub loop-from-init : goal.loop-from-init
loop-from-init c =
    let area = c.requires in
    (omega arith, rw sub-zero area, rw sub-zero (put_all _ _ (length_taken _ _ _ area.inside area.left)))

pub next_piece-from-requires : goal.next_piece-from-requires
next_piece-from-requires c =
    let l = c.loop-from in
    (l.invariant.1.ccws, area_more _ _ _ _ l.invariant.1 (rw l.auto.to at c.loop-from-test.true))

pub loop-from-preserved : goal.loop-from-preserved
loop-from-preserved c =
    let l = c.loop-from in
    let n = length c.args.to.now in
    let k = l.from.piece.count in
    let more : k < n - l.done = rw l.auto.to at c.loop-from-test.true in
    let less : n - (l.done + k) ≡ n - l.done - k = omega arith in
    let next = c.next_piece-from.ensures.rest in
    let back = rw rest_lent at c.put_at.ensures in (
      omega (arith, l.invariant.0, more),
      rw less (area_next _ _ _ _ l.invariant.1 more _ _ next.0 next.1 refl),
      gathered_turn l.from.piece _ c.args.main.now l.to _ n l.done l.invariant.1.inside.0 _ next.0 back more (omega (arith, l.auto.to)) ∙ l.invariant.2,
    )

pub returns : goal.returns
returns c =
    let l = c.loop-from in
    let n = length c.args.to.now in
    let last : n - l.done ≤ l.from.piece.count = rw l.auto.to at c.loop-from-test.false in
    let back = rw (rest_lent, l.auto.to) at c.put_at-2.ensures in
    gathered_end l.from.piece _ c.args.main.now l.to _ n l.done l.invariant.1.inside.0 back last ∙ l.invariant.2
