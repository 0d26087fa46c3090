-- `size_wrong` meets its contract. Assumes nothing.
use borrow.Author.Tests.{eq-eqb, ne_eqb}
use mathlib.Core.Bool.{or-false}
use Rattle.numbers.specs.Choice.{one_of}
use Rattle.command_extent.proofs.size_wrong.Goals as goal

pub returns-then-size-eq0 : goal.returns-then-size-eq0
unfolding one_of
returns-then-size-eq0 c = simp (eq-eqb _ _ c.if-size-eq0.true)

pub returns : goal.returns
unfolding one_of
returns c = simp (ne_eqb _ _ c.if-size-eq0.false, or-false)
