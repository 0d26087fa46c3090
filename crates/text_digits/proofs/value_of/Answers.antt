-- `text_digits::value_of` meets its contract: the two tests are one. Assumes nothing.
use borrow.Author.Tests.{lt-ltb, le-ltb}
use Rattle.numbers.specs.Choice.{pick}
use Rattle.text_digits.specs.Digits.{value_of}
use Rattle.text_digits.proofs.value_of.Goals as goal

pub returns-then-c-lt65-clause-value : goal.returns-then-c-lt65-clause-value
unfolding value_of pick
returns-then-c-lt65-clause-value c = simp (lt-ltb _ _ c.if-c-lt65.true)

pub returns-else-c-lt65-clause-value : goal.returns-else-c-lt65-clause-value
unfolding value_of pick
returns-else-c-lt65-clause-value c = simp (le-ltb _ _ c.if-c-lt65.false)
