-- `piece_cause` meets its contract. Each test is one line of `piece_causes`, in its order. Assumes nothing.
use mathlib.Core.Path.{sym, ◌∙◌}
use borrow.Author.Tests.{eq-eqb, ne_eqb}
use Rattle.model.proofs.Verdicts.{first_here, first_later, first_none}
use Rattle.channel.proofs.causes.piece_cause.Goals as goal

pub returns-then-others : goal.returns-then-others
returns-then-others c = sym (first_here _ _ (sym c.others.ensures ∙ c.if-others.true))

pub returns-then-p-eq0 : goal.returns-then-p-eq0
returns-then-p-eq0 c = sym ((first_later _ _ (sym c.others.ensures ∙ c.if-others.false)) ∙ first_here _ _ (eq-eqb _ _ c.if-p-eq0.true))

pub returns-then-leaves_storage : goal.returns-then-leaves_storage
returns-then-leaves_storage c = sym (((first_later _ _ (sym c.others.ensures ∙ c.if-others.false)) ∙ first_later _ _ (ne_eqb _ _ c.if-p-eq0.false)) ∙ first_here _ _ (sym c.leaves_storage.ensures ∙ c.if-leaves_storage.true))

pub returns : goal.returns
returns c = sym (((first_later _ _ (sym c.others.ensures ∙ c.if-others.false)) ∙ first_later _ _ (ne_eqb _ _ c.if-p-eq0.false)) ∙ first_later _ _ (sym c.leaves_storage.ensures ∙ c.if-leaves_storage.false) ∙ first_none)
