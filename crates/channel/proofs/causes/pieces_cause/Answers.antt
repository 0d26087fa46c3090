-- `pieces_cause` meets its contract: while the pieces before an area passed, its verdict is that of all. Assumes nothing.
use mathlib.Core.Path.{◌≡◌, refl, sym, ◌∙◌}
use native.Mathlib.Omega.{arith}
use borrow.Author.Tests.{eqb-false}
use Rattle.std.proofs.lemmas.Grind.{common_steps}
use Rattle.model.specs.Told.{cause_number, told}
use Rattle.model.proofs.Told.{refused_told}
use Rattle.channel.proofs.Tested.{here, last, next}
use Rattle.channel.proofs.causes.pieces_cause.Goals as goal

pub loop-area-init : goal.loop-area-init
loop-area-init c = (c.requires.0, c.requires.1, refl)

pub returns-in_err-piece_cause : goal.returns-in_err-piece_cause
returns-in_err-piece_cause c =
    let refused = c.in_err-piece_cause in
    let e : told c.from_residual.result ≡ cause_number refused.field-0.0 = grind (arith, common_steps) in
    e ∙ refused.ensures ∙ sym (here _ _ _ _ (λ z. eqb-false _ _ (refused_told _) (refused.ensures ∙ z))) ∙ c.loop-area.invariant.2

pub returns-then-area : goal.returns-then-area
returns-then-area c = c.in_ok-piece_cause.ensures ∙ sym (last _ _ _ _ c.if-area.true) ∙ c.loop-area.invariant.2

pub loop-area-preserved : goal.loop-area-preserved
loop-area-preserved c =
    let r = c.next_piece-area.ensures.rest in
    (r.1, r.2, next _ _ _ _ _ r.0 (sym (c.in_ok-piece_cause.ensures)) ∙ c.loop-area.invariant.2)
