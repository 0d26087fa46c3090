-- `put_answers` meets its contract: the zeros of the pieces that are filled, then the last answer behind them. Assumes nothing.
use Prim.Native.Nat.{◌-◌}
use mathlib.Core.Path.{◌≡◌}
use native.Mathlib.Omega.{arith}
use Rattle.model.specs.Pieces.{counts}
use Rattle.model.specs.Decoded.{area_of}
use Rattle.answers.proofs.Putting.{put_given}
use Rattle.answers.proofs.put_answers.Goals as goal

pub returns-clause-put : goal.returns-clause-put
returns-clause-put c =
    let a = c.args in
    -- what is left of the counts, taken from their sum, is what was moved
    let moved_is : counts (area_of a.chain.now a.c.area) - (a.c.count - a.moved) ≡ a.moved = omega (arith, c.requires.0.count, c.requires.1) in
    let s = rw moved_is at c.spread_leaving-s.ensures in
    put_given _ _ _ _ _ _ _ _ _ _ _ s.over.0 s.over.1 c.clear_answers.ensures c.put_last.ensures.put (omega arith)
