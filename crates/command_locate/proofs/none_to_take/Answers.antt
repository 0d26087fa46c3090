-- `none_to_take` meets its contract: no alternate below their number is unused. Assumes nothing.
use borrow.Author.Tests.{eq-eqb, ne_eqb}
use Rattle.alternates.proofs.Found.{none_found}
use Rattle.command_locate.proofs.none_to_take.Goals as goal

pub returns-then-code-ne-FORMAT : goal.returns-then-code-ne-FORMAT
returns-then-code-ne-FORMAT c = simp (ne_eqb _ _ c.if-code-ne-FORMAT.true)

pub unused-requires : goal.unused-requires
unused-requires c = (c.requires.whole_map, c.requires.few_alternates)

pub returns : goal.returns
returns c =
    rw (eq-eqb _ _ c.if-code-ne-FORMAT.false) (none_found _ _ _ _ c.unused.ensures c.is_none.ensures)
