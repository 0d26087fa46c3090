-- `permit` meets its contract. Each test is one line of `permission_causes`, in its order: a return takes the line whose test held, past those that did not. Assumes nothing.
use mathlib.Core.Path.{sym, ◌∙◌}
use Rattle.model.specs.Log.{with_sense, with_counts}
use Rattle.model.specs.Causes.{permission_causes}
use Rattle.model.proofs.Verdicts.{first_here, first_later, first_none}
use Rattle.buffered_log.specs.Counts.{counted}
use Rattle.unit_state.specs.Standing.{unit_of, state_of}
use Rattle.command_locate.proofs.permit.Goals as goal

pub returns-then-outside_extent : goal.returns-then-outside_extent
unfolding permission_causes state_of
returns-then-outside_extent c = sym (
    first_here _ _ (sym c.outside_extent.ensures ∙ c.if-outside_extent.true))

pub returns-then-mask_forbids : goal.returns-then-mask_forbids
unfolding permission_causes state_of
returns-then-mask_forbids c = sym (
    first_later _ _ (sym c.outside_extent.ensures ∙ c.if-outside_extent.false)
    ∙ first_here _ _ (sym c.mask_forbids.ensures ∙ c.if-mask_forbids.true))

pub returns-then-write_inhibited : goal.returns-then-write_inhibited
unfolding permission_causes state_of unit_of counted with_counts with_sense
returns-then-write_inhibited c = sym (
    first_later _ _ (sym c.outside_extent.ensures ∙ c.if-outside_extent.false)
    ∙ first_later _ _ (sym c.mask_forbids.ensures ∙ c.if-mask_forbids.false)
    ∙ first_here _ _ (sym c.write_inhibited.ensures ∙ c.if-write_inhibited.true))

pub returns-then-none_to_take : goal.returns-then-none_to_take
unfolding permission_causes state_of unit_of counted with_counts with_sense
returns-then-none_to_take c = sym (
    first_later _ _ (sym c.outside_extent.ensures ∙ c.if-outside_extent.false)
    ∙ first_later _ _ (sym c.mask_forbids.ensures ∙ c.if-mask_forbids.false)
    ∙ first_later _ _ (sym c.write_inhibited.ensures ∙ c.if-write_inhibited.false)
    ∙ first_here _ _ (sym c.none_to_take.ensures ∙ c.if-none_to_take.true))

pub returns : goal.returns
unfolding permission_causes state_of unit_of counted with_counts with_sense
returns c = sym (
    first_later _ _ (sym c.outside_extent.ensures ∙ c.if-outside_extent.false)
    ∙ first_later _ _ (sym c.mask_forbids.ensures ∙ c.if-mask_forbids.false)
    ∙ first_later _ _ (sym c.write_inhibited.ensures ∙ c.if-write_inhibited.false)
    ∙ first_later _ _ (sym c.none_to_take.ensures ∙ c.if-none_to_take.false)
    ∙ first_none)

pub outside_extent-requires : goal.outside_extent-requires
outside_extent-requires c = c.requires.1

pub mask_forbids-requires : goal.mask_forbids-requires
mask_forbids-requires c = c.requires.0

pub none_to_take-requires : goal.none_to_take-requires
none_to_take-requires c = c.requires.2
