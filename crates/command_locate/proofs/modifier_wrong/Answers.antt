-- `modifier_wrong` meets its contract: the mask and the bits agree on all 256 bytes. Assumes nothing.
use mathlib.Core.Path.{refl}
use Rattle.numbers.specs.Bits.{bit, any_bit}
use Rattle.numbers.proofs.Bits.{mask_on}
use Rattle.model.specs.Causes.{bad_modifiers}
use Rattle.command_locate.proofs.modifier_wrong.Goals as goal

pub returns : goal.returns
unfolding bit any_bit
returns c = mask_on _ bad_modifiers refl _ c.ranges.byte.fits
