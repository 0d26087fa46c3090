-- `define_parameters` meets its contract. Each test is one line of `extent_causes`, in its order: a return takes the line whose test held, past those that did not. Assumes nothing.
use Prim.Native.Nat.{ℕ}
use mathlib.Core.Path.{◌≡◌, sym, ◌∙◌}
use mathlib.Core.Bool.{Bool}
use mathlib.Core.List.{List}
use borrow.Author.Tests.{lt-ltb, le-ltb}
use Rattle.numbers.specs.Choice.{◌<?◌}
use Rattle.model.specs.declared.extent.Extent.{Extent}
use Rattle.model.specs.Parameters.{extent_in, reserved_in, size_in}
use Rattle.model.specs.Causes.{past_device, extent_causes}
use Rattle.model.proofs.Verdicts.{first_here, first_later, first_none}
use Rattle.command_extent.proofs.define_parameters.Goals as goal

-- the last two lines are of the extent that the caller took from these bytes
module _ (e : Extent) (p : List ℕ) (same : e ≡ extent_in p) where
  order_line : (b : Bool) → e.last.0 <? e.first.0 ≡ b → (extent_in p).last.0 <? (extent_in p).first.0 ≡ b
  order_line b h = rw same at h

  device_line : (blocks : ℕ) (b : Bool) → past_device e blocks ≡ b → past_device (extent_in p) blocks ≡ b
  device_line blocks b h = rw same at h

pub returns-then-mask_wrong : goal.returns-then-mask_wrong
unfolding extent_causes extent_in reserved_in
returns-then-mask_wrong c = sym (first_here _ _ (sym c.mask_wrong.ensures ∙ c.if-mask_wrong.true))

pub returns-then-maintenance : goal.returns-then-maintenance
unfolding extent_causes extent_in reserved_in
returns-then-maintenance c = sym (
    first_later _ _ (sym c.mask_wrong.ensures ∙ c.if-mask_wrong.false)
    ∙ first_here _ _ (sym c.maintenance.ensures ∙ c.if-maintenance.true))

pub returns-then-size_wrong : goal.returns-then-size_wrong
unfolding extent_causes extent_in reserved_in size_in
returns-then-size_wrong c = sym (
    first_later _ _ (sym c.mask_wrong.ensures ∙ c.if-mask_wrong.false)
    ∙ first_later _ _ (sym c.maintenance.ensures ∙ c.if-maintenance.false)
    ∙ first_here _ _ (rw (← c.be2.ensures.0) (sym c.size_wrong.ensures) ∙ c.if-size_wrong.true))

pub returns-then-e : goal.returns-then-e
unfolding extent_causes extent_in reserved_in size_in
returns-then-e c = sym (
    first_later _ _ (sym c.mask_wrong.ensures ∙ c.if-mask_wrong.false)
    ∙ first_later _ _ (sym c.maintenance.ensures ∙ c.if-maintenance.false)
    ∙ first_later _ _ (rw (← c.be2.ensures.0) (sym c.size_wrong.ensures) ∙ c.if-size_wrong.false)
    ∙ first_here _ _ (order_line c.args.e c.args.p.now c.requires _ (lt-ltb _ _ c.if-e.true)))

pub past_device-requires : goal.past_device-requires
past_device-requires c = c.if-e.false

pub returns-then-past_device : goal.returns-then-past_device
unfolding extent_causes extent_in reserved_in size_in
returns-then-past_device c = sym (
    first_later _ _ (sym c.mask_wrong.ensures ∙ c.if-mask_wrong.false)
    ∙ first_later _ _ (sym c.maintenance.ensures ∙ c.if-maintenance.false)
    ∙ first_later _ _ (rw (← c.be2.ensures.0) (sym c.size_wrong.ensures) ∙ c.if-size_wrong.false)
    ∙ first_later _ _ (order_line c.args.e c.args.p.now c.requires _ (le-ltb _ _ c.if-e.false))
    ∙ first_here _ _ (device_line c.args.e c.args.p.now c.requires _ _ (sym c.past_device.ensures ∙ c.if-past_device.true)))

pub returns : goal.returns
unfolding extent_causes extent_in reserved_in size_in
returns c = sym (
    first_later _ _ (sym c.mask_wrong.ensures ∙ c.if-mask_wrong.false)
    ∙ first_later _ _ (sym c.maintenance.ensures ∙ c.if-maintenance.false)
    ∙ first_later _ _ (rw (← c.be2.ensures.0) (sym c.size_wrong.ensures) ∙ c.if-size_wrong.false)
    ∙ first_later _ _ (order_line c.args.e c.args.p.now c.requires _ (le-ltb _ _ c.if-e.false))
    ∙ first_later _ _ (device_line c.args.e c.args.p.now c.requires _ _ (sym c.past_device.ensures ∙ c.if-past_device.false))
    ∙ first_none)
