-- `text_digits::is_hex` meets its contract: the two tests, in turn. Assumes nothing.
use borrow.Author.Tests.{eq-eqb, ne_eqb}
use Rattle.text_digits.specs.Digits.{is_hex}
use Rattle.text_digits.proofs.is_hex.Goals as goal

pub returns-then-text-eq0 : goal.returns-then-text-eq0
unfolding is_hex
returns-then-text-eq0 c = simp (eq-eqb _ _ c.if-text-eq0.true) c.all_digits.ensures

pub returns-else-text-eq0 : goal.returns-else-text-eq0
unfolding is_hex
returns-else-text-eq0 c = simp (ne_eqb _ _ c.if-text-eq0.false)
