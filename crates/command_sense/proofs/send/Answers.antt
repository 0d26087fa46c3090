-- `send` meets its contract. Assumes nothing.
use Rattle.model.specs.Pieces.{delivered}
use lib.ListN.{length-take}
use native.Mathlib.Omega.{arith}
use Rattle.command_sense.proofs.send.Goals as goal

pub deliver-requires : goal.deliver-requires
deliver-requires c =
    let n = c.min-n.ensures in
    let h = c.requires in
    record { ccws = h.told.ccws; inside = h.inside; left = omega (arith, n, h.told.count, length-take c.min-n.result c.args.bytes.now) }

pub returns : goal.returns
unfolding delivered
returns c =
    let n = c.min-n.ensures in
    record {
      sent = rw n at c.deliver.ensures;
      end = rw (c.after.ensures, n) at c.accept.ensures;
    }
