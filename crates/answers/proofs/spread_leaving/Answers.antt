-- `spread_leaving` meets its contract: its turns are those of `Unreached`. Assumes nothing.
use Prim.Native.Nat.{◌+◌, ◌-◌}
use mathlib.Core.Path.{◌≡◌}
use native.Mathlib.Omega.{arith}
use Rattle.answers.proofs.Spreading.{unreached_none, unreached_more, last_there, first_there}
use Rattle.answers.proofs.spread_leaving.Goals as goal

pub loop-i-init : goal.loop-i-init
loop-i-init c = unreached_none _ _ _ c.requires.0 c.requires.1

pub returns-then-over-p : goal.returns-then-over-p
returns-then-over-p c =
    let i = c.loop-i.i in
    let here : i - 1 + 1 ≡ i = omega (arith, c.loop-i-test.true) in
    let all =
    last_there _ _ _ _ _ c.loop-i.invariant c.loop-i-test.true (rw (← c.piece_at-p.ensures.0) c.piece_at-p.ensures.1.count) (rw (← c.piece_at-p.ensures.0) c.if-over-p.true) in
    record {
      over = rw here all.0;
      small = rw here all.1;
    }

pub loop-i-preserved : goal.loop-i-preserved
loop-i-preserved c = rw c.piece_at-p.ensures.0 (unreached_more _ _ _ _ _ c.loop-i.invariant c.loop-i-test.true (rw (← c.piece_at-p.ensures.0) c.if-over-p.false))

pub returns : goal.returns
returns c =
    let all =
    first_there _ _ _ _ _ c.loop-i.invariant c.requires.0 c.loop-i-test.false in
    record {
      over = all.0;
      small = all.1;
    }
