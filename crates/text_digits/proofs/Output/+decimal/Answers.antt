-- `text_digits::Output::decimal` meets its contract: one digit, or the digits before the last and then the last. Assumes nothing.
use native.Mathlib.Omega.{arith}
use Rattle.text_digits.proofs.Numbers.{decimal_one, decimal_more}
use Rattle.text_digits.proofs.Outputs.{◌then◌}
use Rattle.text_digits.proofs.Output.+decimal.Goals as goal
use Rattle.text_digits.proofs.Output.+decimal.Goals.{then-n-gt-ONE_DIGIT, else-n-gt-ONE_DIGIT}

pub returns : goal.returns
returns t c =
    let last = rw c.digit.ensures at c.text.ensures in
    elim c.if-n-gt-ONE_DIGIT.branch [
      | then-n-gt-ONE_DIGIT w ↦ rw (decimal_more c.args.n (omega arith)) (rw (← w.self-is) at w.decimal.ensures then last)
      | else-n-gt-ONE_DIGIT w ↦ rw (decimal_one c.args.n (omega arith)) (rw w.self-is at last)
    ]
