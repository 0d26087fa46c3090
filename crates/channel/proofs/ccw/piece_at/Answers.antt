-- `ccw::piece_at` meets its contract: each field is the bytes that the definition reads, and be2 and be3 hand on the bounds. Assumes nothing.
use Rattle.model.specs.Lent.{piece_at}
use Rattle.channel.proofs.ccw.piece_at.Goals as goal

pub returns : goal.returns
unfolding piece_at
returns c =
    let be2 = c.be2 in
    let be3 = c.be3 in
    (rw (be3.ensures.0, be2.ensures.0), record { count = be2.ensures.1; address = be3.ensures.1 })
