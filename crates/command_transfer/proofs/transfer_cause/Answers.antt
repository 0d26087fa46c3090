-- `transfer_cause` meets its contract: a test for each line of the table, in its order. Assumes nothing.
use mathlib.Core.Path.{sym, ap, ◌∙◌}
use mathlib.Core.Bool.{not}
use Rattle.model.proofs.Verdicts.{first_here, first_later, first_none}
use Rattle.command_transfer.proofs.transfer_cause.Goals as goal

pub returns-then-not-after_locate : goal.returns-then-not-after_locate
returns-then-not-after_locate c = sym (first_here _ _ (ap not (sym c.after_locate.ensures) ∙ (ap not c.if-not-after_locate.true)))

pub returns-then-not-follows : goal.returns-then-not-follows
returns-then-not-follows c = sym (first_later _ _ (ap not (sym c.after_locate.ensures) ∙ (ap not c.if-not-after_locate.false)) ∙ first_here _ _ (ap not c.if-not-follows.true))

pub returns : goal.returns
returns c = sym (first_later _ _ (ap not (sym c.after_locate.ensures) ∙ (ap not c.if-not-after_locate.false)) ∙ first_later _ _ (ap not c.if-not-follows.false) ∙ first_none)
