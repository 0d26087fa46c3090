-- `text_digits::decode` meets its contract: one byte more of the text is written, and at the end none is left. Assumes nothing.
use Prim.Native.Nat.{ℕ, ◌+◌, ◌*◌}
use native.Mathlib.Omega.{arith}
use mathlib.Core.Path.{◌≡◌}
use Rattle.text_digits.proofs.Numbers.{decoded, decoded_all}
use borrow.Author.Rules.{rules}
use Rattle.text_digits.proofs.decode.Goals as goal

ap2 : {a b v w : ℕ} → a ≡ v → b ≡ w → a * 16 + b ≡ v * 16 + w
ap2 e f = rw (e, f)

pub loop-i-preserved : goal.loop-i-preserved
loop-i-preserved c =
    let l = c.loop-i in
    (search rules, decoded c.args.text.now l.to l.i _ _ l.invariant.1 (search rules) (omega arith) (ap2 c.value_of.ensures.value c.value_of-in-loop-i.ensures.value))

pub returns : goal.returns
returns c =
    let l = c.loop-i in
    decoded_all c.args.text.now l.to l.i _ l.invariant.1 (omega arith) (omega arith)
