-- `deliver` meets its contract: the bytes go to the first piece, or they are scattered. Assumes nothing.
use mathlib.Core.Path.{sym, ◌∙◌}
use lib.ListN.{length}
use lib.Seq.{take_all}
use native.Mathlib.Omega.{arith}
use Rattle.model.specs.Decoded.{later_of}
use Rattle.storage.proofs.Laws.{scattered_here}
use Rattle.storage.proofs.deliver.Goals as goal

pub returns : goal.returns
returns c =
    let a = c.args in
    let all = take_all (length a.bytes.now) a.bytes.now (omega arith) in
    c.put_at.ensures ∙ rw all (sym (scattered_here a.a.piece (later_of a.chain.now a.a) a.main.now a.bytes.now (omega arith)))
