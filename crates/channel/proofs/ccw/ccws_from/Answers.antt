-- `ccw::ccws_from` meets its contract: the CCWs read so far are a run with flag 80, and with the one that ends it they are one command
-- (`proofs/Runs.antt` of model). Assumes nothing.
-- CCWs i up to the one before `end` are read, and the chain ends with the last of these or behind it; the count of CCW i is `first`
use mathlib.Core.Path.{sym, ◌∙◌}
use native.Mathlib.Omega.{arith}
use Rattle.model.specs.Pieces.{counts}
use Rattle.channel.proofs.ccw.ccws_from.Invariants.{begun, in_chain, continues, chains, more, flags-last, all}
use Rattle.channel.proofs.ccw.ccws_from.Goals as goal

pub loop-flags-init : goal.loop-flags-init
loop-flags-init c =
    begun c.args.chain.now c.args.i c.args.first c.requires.2 c.requires.3.count c.requires.0

pub piece_at-p-requires : goal.piece_at-p-requires
piece_at-p-requires c = let k = (continues c.loop-flags.invariant (sym c.continued.ensures ∙ c.loop-flags-test.true)) in omega (arith, k.from, k.lent)

pub loop-flags-smaller : goal.loop-flags-smaller
loop-flags-smaller c = let k = (continues c.loop-flags.invariant (sym c.continued.ensures ∙ c.loop-flags-test.true)) in omega (arith, k.from, k.lent)

pub loop-flags-preserved : goal.loop-flags-preserved
loop-flags-preserved c =
    let p = c.piece_at-p in
    more c.loop-flags.invariant p.result (sym c.continued.ensures ∙ c.loop-flags-test.true) p.ensures.0 p.ensures.1.count

pub returns : goal.returns
unfolding counts
returns c =
    let r = c.loop-flags.invariant in
    record {
      stand = (r.some, in_chain r);
      sum = (r.sum, omega (arith, r.few, in_chain r, c.requires.1));
      last = flags-last r c.args.first c.requires.2;
      one = all r c.args.first c.requires.2 (sym c.continued.ensures ∙ c.loop-flags-test.false);
      on = chains r;
    }
