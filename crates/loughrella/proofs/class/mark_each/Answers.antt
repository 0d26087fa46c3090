-- `class::mark_each` meets its contract: its turns are those of `Marking`. Assumes nothing.
use Prim.Native.Nat.{◌+◌, ◌≤◌}
use mathlib.Core.Path.{ap, ◌∙◌}
use lib.ListN.{length}
use borrow.Author.Rules.{rules}
use Rattle.model.specs.Class.{result_size}
use Rattle.loughrella.proofs.Marking.{next_room, head_fits, marking_more, marked_all}
use Rattle.loughrella.proofs.class.mark_each.Goals as goal

pub overflow_add-end : goal.overflow_add-end
overflow_add-end c =
    let l = c.loop-chain in
    let room : l.used + c.result_size.result ≤ length l.results
    = rw (c.result_size.ensures, c.in-Some.ensures.length.0) (next_room _ _ _ _ _ _ _ _ _ _ _ _ l.invariant c.in-Some.ensures.cut) in
    search (rules, room)

pub slice_bounds-mark-end : goal.slice_bounds-mark-end
slice_bounds-mark-end c =
    rw (c.result_size.ensures, c.in-Some.ensures.length.0) (next_room _ _ _ _ _ _ _ _ _ _ _ _ c.loop-chain.invariant c.in-Some.ensures.cut)

pub mark-requires : goal.mark-requires
mark-requires c =
    (c.requires.0, head_fits _ _ _ _ _ _ _ _ _ _ _ _ c.loop-chain.invariant c.in-Some.ensures.cut _ (c.result_size.ensures ∙ ap result_size c.in-Some.ensures.length.0))

pub loop-chain-preserved : goal.loop-chain-preserved
loop-chain-preserved c =
    let first = c.in-Some.ensures in
    rw first.behind (
    marking_more _ _ _ _ _ _ _ _ _ _ _ _ c.loop-chain.invariant first.cut _ (c.result_size.ensures ∙ ap result_size first.length.0) _ _ _ _
    (rw first.chain at c.mark.ensures) c.mark.auto.to)

pub returns : goal.returns
returns c = marked_all _ _ _ _ _ _ _ _ _ _ _ _ c.loop-chain.invariant c.in_default.ensures.cut
