-- `maintenance` meets its contract: the mask and the bit agree on all 256 bytes. Assumes nothing.
use Prim.Native.Nat.{ℕ}
use mathlib.Core.Path.{refl}
use Rattle.numbers.specs.Bits.{bit}
use Rattle.numbers.proofs.Bits.{mask_on}
use Rattle.command_extent.proofs.maintenance.Goals as goal

pub returns : goal.returns
unfolding bit
returns c = mask_on _ (λ (b : ℕ). bit b 4) refl _ c.ranges.mask.fits
