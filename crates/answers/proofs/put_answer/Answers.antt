-- `put_answer` meets its contract: its two numbers, one after the other, and the mark. Assumes nothing.
use Prim.Native.Nat.{◌*◌}
use native.Mathlib.Omega.{arith}
use Rattle.answers.proofs.Putting.{put_words, put_marked}
use Rattle.answers.proofs.put_answer.Goals as goal

pub returns : goal.returns
returns c =
    let a = c.args in
    let both = put_words a.answers.now _ _ _ _ (a.i * 8) a.a.front a.a.back c.bytes4-front.ensures c.bytes4-back.ensures c.put_at.ensures c.put_at-2.ensures (omega arith) in
    put_marked a.answers.now _ _ (a.i * 8) a.a.front a.a.back a.wrong both c.mark.ensures (omega arith)
