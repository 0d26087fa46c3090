-- `ccw::command_at` meets its contract: what piece_at and ccws_from hand on, and the first CCW's command byte. Assumes nothing.
use native.Mathlib.Omega.{arith}
use Rattle.model.specs.Lent.{code_at}
use Rattle.channel.proofs.ccw.command_at.Goals as goal

pub piece_at-first-requires : goal.piece_at-first-requires
piece_at-first-requires c = let k = c.requires.0 in omega (arith, k.from, k.lent)

pub ccws_from-ccws-requires : goal.ccws_from-ccws-requires
ccws_from-ccws-requires c =
    let p = c.piece_at-first.ensures in
    (c.requires.0, c.requires.1, p.0, p.1)

pub returns : goal.returns
unfolding code_at
returns c =
    let p = c.piece_at-first.ensures in
    let r = c.ccws_from-ccws.ensures in
    record {
      told = (
        record {
          ccws = record { order = omega arith; lent = r.stand.1; small = p.1.count };
          low = p.1.address;
          count = r.sum.0;
          few = r.sum.1;
          flags = r.last;
        },
        r.stand.0,
      );
      first = r.one;
      on = r.on;
    }
