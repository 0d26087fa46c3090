-- `put` meets its contract: bytes put at the front of the part from `at` on are put at `at`. Assumes nothing.
use Rattle.std.proofs.Common.{◌≡◌, ◌-◌, length, take, arith}
use Rattle.std.proofs.Math.Seq.{take_all}
use Rattle.slices.proofs.Laws.{put_lent_front}
use Rattle.slices.proofs.put.Goals as goal

pub returns : goal.returns
returns c =
    let a = c.args in
    let l = a.to.now in
    let bytes = a.bytes.now in
    let whole : take (length bytes) bytes ≡ bytes = take_all (length bytes) bytes (omega arith) in
    put_lent_front l bytes _ a.at (length l - a.at) (rw whole at c.copy.ensures) (omega arith) (omega arith)
