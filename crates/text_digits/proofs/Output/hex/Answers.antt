-- `text_digits::Output::hex` meets its contract: nothing is added, or the two digits of a byte more. Assumes nothing.
use Rattle.text_digits.proofs.Numbers.{hex_none, hex_one, hex_more}
use Rattle.text_digits.proofs.Outputs.{wrote_nil, ◌then◌}
use native.Mathlib.Omega.{arith}
use Rattle.text_digits.proofs.Output.hex.Goals as goal

pub loop-b-init : goal.loop-b-init
loop-b-init c = rw (hex_none c.args.bytes.now) wrote_nil

pub loop-b-preserved : goal.loop-b-preserved
loop-b-preserved c =
    let l = c.loop-b in
    rw (hex_more c.args.bytes.now l.b-index (omega arith), hex_one) (l.invariant then rw (c.digit.ensures, c.digit-in-loop-b.ensures) at c.text.ensures)
