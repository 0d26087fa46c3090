-- `ccw::next_piece` meets its contract: the first of the pieces behind the first, and the rest of them. Assumes nothing.
use mathlib.Core.Path.{refl, sym}
use native.Mathlib.Omega.{arith}
use Rattle.model.proofs.Runs.{pieces_first}
use Rattle.channel.proofs.ccw.next_piece.Goals as goal

pub returns : goal.returns
returns c =
    let a = c.args.a in
    let chain = c.args.chain.now in
    let p = c.piece_at.ensures in
    record {
      rest = (rw p.0 (sym (pieces_first chain a.next a.end (omega arith))), record { order = omega arith; lent = omega arith; small = p.1.count }, p.1);
      behind = (refl, refl);
    }
