-- What the code tests, and the rule's own words for it. No contract cites this file.
use Prim.Native.Nat.{ℕ, ◌/◌, ◌<◌}
use mathlib.Core.Path.{◌≡◌, refl}
use mathlib.Core.Bool.{not, ◌&&◌}
use lib.Dec.{eqb}
use Rattle.numbers.specs.Bits.{bit}
use Rattle.numbers.proofs.Bits.{same_on_bytes}

-- mask bits 0-1 are 10
pub mask_ten : (b : ℕ) → b < 256 → (bit b 0 && not (bit b 1)) ≡ eqb (b / 64) 2
unfolding bit
mask_ten b h = same_on_bytes (λ (m : ℕ). bit m 0 && not (bit m 1)) (λ (m : ℕ). eqb (m / 64) 2) refl b h
