-- `copy` meets its contract: what is held begins with the bytes that were copied there. Assumes nothing.
use Rattle.std.proofs.Common.{◌≡◌, length, take}
use Rattle.std.proofs.Math.Seq.{length-take-le, take_at}
use Rattle.slices.proofs.Laws.{put_copied}
use Rattle.slices.proofs.copy.Goals as goal

pub returns : goal.returns
returns c =
    let a = c.args in
    let bytes = take a.n a.from.now in
    let long : length bytes ≡ a.n = length-take-le a.n a.from.now c.requires.0 in
    rw (c.copy_from_slice-2.ensures.after, c.copy_from_slice.ensures.after, take_at bytes _ a.n long) (rw long at (put_copied a.to.now bytes))
