-- `text_exercise::number_blocks` meets its contract: one more block is filled. Assumes nothing.
use native.Mathlib.Omega.{arith}
use mathlib.Core.Path.{◌≡◌}
use borrow.Author.Rules.{rules}
use Rattle.text_exercise.proofs.NewStore.{new_store_none, new_store_more, new_store_whole}
use Rattle.text_exercise.proofs.number_blocks.Goals as goal

pub loop-i-init : goal.loop-i-init
loop-i-init c = (c.requires.0, c.requires.1, new_store_none c.args.store.now)

pub loop-i-preserved : goal.loop-i-preserved
loop-i-preserved c =
    let l = c.loop-i in
    (search rules, c.requires.1, new_store_more l.store _ l.i l.invariant.2 (c.fill.ensures.after (λ y h. h)) (omega arith))

pub returns : goal.returns
returns c =
    let l = c.loop-i in
    let done : l.i ≡ c.args.blocks = omega arith in
    new_store_whole l.store c.args.blocks (rw done at l.invariant.2) l.invariant.0
