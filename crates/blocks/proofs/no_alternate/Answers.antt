-- `no_alternate` meets its contract: a device without alternates has none in use. Assumes nothing.
use mathlib.Core.Path.{refl}
use borrow.Author.Tests.{eq-eqb, ne_eqb}
use Rattle.blocks.specs.Places.{no_alternate}
use Rattle.blocks.proofs.no_alternate.Goals as goal

pub returns-then-d-eq0 : goal.returns-then-d-eq0
unfolding no_alternate
returns-then-d-eq0 c = rw (eq-eqb _ _ c.if-d-eq0.true) refl

pub returns : goal.returns
unfolding no_alternate
returns c = rw (ne_eqb _ _ c.if-d-eq0.false) c.none_used.ensures
