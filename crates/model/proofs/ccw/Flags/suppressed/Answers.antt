-- `Flags::suppressed` meets its contract: the mask and the bits agree on all 256 bytes. Assumes nothing.
use Prim.Native.Nat.{ℕ}
use mathlib.Core.Path.{refl}
use borrow.Author.Rules.{rules}
use Rattle.numbers.specs.Bits.{bit, any_bit}
use Rattle.numbers.proofs.Bits.{mask_on}
use Rattle.model.proofs.ccw.Flags.suppressed.Goals as goal

pub returns : goal.returns
unfolding bit any_bit
returns c = mask_on _ (λ (b : ℕ). bit b 2) refl c.args.self.0 (search rules)
