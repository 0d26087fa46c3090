-- `mask_wrong` meets its contract. Shift and mask agree with the bits on all 256 bytes (`mask_ten`, `mask_some`). Assumes nothing.
-- one of mask bits 2, 3, 6, 7
use Prim.Native.Nat.{ℕ}
use mathlib.Core.Path.{refl}
use mathlib.Core.Bool.{Bool}
use mathlib.Core.List.{[], ◌∷◌}
use borrow.Author.Tests.{eq-eqb, ne_eqb}
use Rattle.numbers.specs.Bits.{bit, any_bit}
use Rattle.numbers.proofs.Bits.{mask_none, mask_some}
use Rattle.command_extent.proofs.Tests.{mask_ten}
use Rattle.command_extent.proofs.mask_wrong.Goals as goal

abbrev spare : ℕ → Bool
spare b = any_bit b (2 ∷ 3 ∷ 6 ∷ 7 ∷ [])

pub returns-then-kind-eq2 : goal.returns-then-kind-eq2
returns-then-kind-eq2 c =
    let byte = c.ranges.mask.fits in
    simp (mask_ten _ byte, eq-eqb _ _ c.if-kind-eq2.true)

pub returns-then-others-ne0 : goal.returns-then-others-ne0
unfolding bit any_bit
returns-then-others-ne0 c =
    let byte = c.ranges.mask.fits in
    let some = mask_some _ spare _ byte c.if-others-ne0.true refl in
    simp (mask_ten _ byte, some, ne_eqb _ _ c.if-kind-eq2.false)

pub returns : goal.returns
unfolding bit any_bit
returns c =
    let byte = c.ranges.mask.fits in
    let none = mask_none _ spare _ byte c.if-others-ne0.false refl in
    simp (mask_ten _ byte, none, ne_eqb _ _ c.if-kind-eq2.false)
