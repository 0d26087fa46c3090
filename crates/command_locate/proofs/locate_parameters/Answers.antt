-- `locate_parameters` meets its contract. Each test is one line of `location_causes`, read over the parts that the code took the bytes into (`location_lines`); `permit` answers the rest. Assumes nothing.
use Prim.Native.Nat.{ℕ}
use mathlib.Core.Path.{sym, ap, ◌∙◌}
use mathlib.Core.Bool.{not}
use borrow.Author.Rules.{rules}
use borrow.Author.Tests.{eqb-false}
use Rattle.model.specs.Rules.{first_of}
use Rattle.model.specs.Parameters.{modifiers_in, replication_in}
use Rattle.model.specs.Causes.{permission_causes}
use Rattle.numbers.proofs.Joined.{either_false}
use Rattle.model.proofs.Verdicts.{first_here, first_later}
use Rattle.unit_state.specs.Standing.{holding, state_of}
use Rattle.command_locate.proofs.Tests.{operation_low}
use Rattle.command_locate.proofs.Locations.{location_lines, processed_small}
use Rattle.command_locate.proofs.locate_parameters.Goals as goal

pub replication_wrong-requires : goal.replication_wrong-requires
replication_wrong-requires c = eqb-false _ _ (either_false _ _ (sym c.count_wrong.ensures ∙ c.if-count_wrong.false)).0

pub permit-requires : goal.permit-requires
permit-requires c = (
  operation_low _ (sym c.is_operation.ensures ∙ c.if-not-is_operation.false),
  processed_small c.located_in-l.result c.from-replication.result _ c.blocks_processed-n.ensures (search rules) c.located_in-l.ensures.2,
  c.requires,
)

pub returns-then-modifier_wrong : goal.returns-then-modifier_wrong
unfolding modifiers_in replication_in
returns-then-modifier_wrong c = sym (
    ap first_of (location_lines _ _ _ _ _ c.located_in-l.ensures.0 c.from-replication.ensures)
    ∙ first_here _ _ (sym c.modifier_wrong.ensures ∙ c.if-modifier_wrong.true))

pub returns-then-not-is_operation : goal.returns-then-not-is_operation
unfolding modifiers_in replication_in
returns-then-not-is_operation c = sym (
    ap first_of (location_lines _ _ _ _ _ c.located_in-l.ensures.0 c.from-replication.ensures)
    ∙ first_later _ _ (sym c.modifier_wrong.ensures ∙ c.if-modifier_wrong.false)
    ∙ first_here _ _ (ap not (sym c.is_operation.ensures ∙ c.if-not-is_operation.true)))

pub returns-then-count_wrong : goal.returns-then-count_wrong
unfolding modifiers_in replication_in
returns-then-count_wrong c = sym (
    ap first_of (location_lines _ _ _ _ _ c.located_in-l.ensures.0 c.from-replication.ensures)
    ∙ first_later _ _ (sym c.modifier_wrong.ensures ∙ c.if-modifier_wrong.false)
    ∙ first_later _ _ (ap not (sym c.is_operation.ensures ∙ c.if-not-is_operation.false))
    ∙ first_here _ _ (sym c.count_wrong.ensures ∙ c.if-count_wrong.true))

pub returns-then-replication_wrong : goal.returns-then-replication_wrong
unfolding modifiers_in replication_in
returns-then-replication_wrong c = sym (
    ap first_of (location_lines _ _ _ _ _ c.located_in-l.ensures.0 c.from-replication.ensures)
    ∙ first_later _ _ (sym c.modifier_wrong.ensures ∙ c.if-modifier_wrong.false)
    ∙ first_later _ _ (ap not (sym c.is_operation.ensures ∙ c.if-not-is_operation.false))
    ∙ first_later _ _ (sym c.count_wrong.ensures ∙ c.if-count_wrong.false)
    ∙ first_here _ _ (sym c.replication_wrong.ensures ∙ c.if-replication_wrong.true))

pub returns : goal.returns
unfolding modifiers_in replication_in
returns c =
    let a = c.args in
    let s = state_of (holding a.u a.map.now) a.s in
    c.permit.ensures ∙ ap (λ (n : ℕ). first_of (permission_causes a.d s c.located_in-l.result n)) c.blocks_processed-n.ensures
    ∙ sym (
    ap first_of (location_lines _ _ _ _ _ c.located_in-l.ensures.0 c.from-replication.ensures)
    ∙ first_later _ _ (sym c.modifier_wrong.ensures ∙ c.if-modifier_wrong.false)
    ∙ first_later _ _ (ap not (sym c.is_operation.ensures ∙ c.if-not-is_operation.false))
    ∙ first_later _ _ (sym c.count_wrong.ensures ∙ c.if-count_wrong.false)
    ∙ first_later _ _ (sym c.replication_wrong.ensures ∙ c.if-replication_wrong.false))
