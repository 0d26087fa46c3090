-- `alternates::put_place` meets its contract: the block that e names is one of the row, or it is none of it; or e names none.
-- Assumes nothing.
use native.Mathlib.Omega.{arith}
use Rattle.alternates.proofs.Placing.{put_none, put_here, says_name}
use Rattle.alternates.proofs.put_place.Goals as goal
use Rattle.alternates.proofs.put_place.Goals.{else-block-named-via-then-block-named+else-named-block, else-block-named-via-else-block-named}

pub returns-then-named-block : goal.returns-then-named-block
returns-then-named-block c = put_here c.args.to.now _ _ _ _ (c.in-Block.ensures.0) c.if-block-named.true c.if-named-block.true

pub returns-else-block-named : goal.returns-else-block-named
returns-else-block-named c =
    put_none c.args.to.now _ _ _ (λ j b z. elim c.else-block-named.branch [
      | else-block-named-via-then-block-named+else-named-block w ↦ omega (arith, c.in-Block.ensures.0)
      | else-block-named-via-else-block-named w ↦ omega (arith, c.in-Block.ensures.0)
    ])

pub returns-in_default : goal.returns-in_default
returns-in_default c = put_none c.args.to.now _ _ _ (λ j b z. c.in_default.not-Block _ (says_name _ _ _ c.from.ensures z (λ d. omega arith)))
