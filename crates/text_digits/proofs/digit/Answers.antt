-- `text_digits::digit` meets its contract: the two tests are one. Assumes nothing.
use borrow.Author.Tests.{lt-ltb, le-ltb}
use Rattle.numbers.specs.Choice.{pick}
use Rattle.text_digits.specs.Digits.{digit}
use Rattle.text_digits.proofs.digit.Goals as goal

pub returns-then-n-lt10 : goal.returns-then-n-lt10
unfolding digit pick
returns-then-n-lt10 c = simp (lt-ltb _ _ c.if-n-lt10.true)

pub returns-else-n-lt10 : goal.returns-else-n-lt10
unfolding digit pick
returns-else-n-lt10 c = simp (le-ltb _ _ c.if-n-lt10.false)
