-- Laws of a byte's bits, each by computing all 256 bytes. No contract cites this file.
--     same_on_bytes   two functions with the same 256 values agree at every byte
--     mask_off, mask_on, mask_none, mask_some
--                     a test by a mask, whatever mask it is, is the rule that has the same 256 values
--     sum_of_powers   a byte is the sum of its bits times powers of two
use Prim.Native.Nat.{ℕ, zero, suc, ◌+◌, ◌-◌, ◌*◌, ◌/◌, ◌%◌, ◌^◌, ◌<◌}
use mathlib.Core.Path.{◌≡◌, refl, sym, ap, ◌∙◌}
use mathlib.Core.Bool.{Bool, true, false, not}
use lib.Bits.{bit_and}
use lib.Dec.{eqb}
use borrow.Author.Tests.{eq-eqb, ne_eqb}
use Rattle.numbers.proofs.Tables.{values, same_upto}

-- use: `same_on_bytes f g refl b h`, where antt computes both lists and compares them
pub same_on_bytes : {A : Type 0} (f g : ℕ → A) → values f 0 256 ≡ values g 0 256 → (k : ℕ) → k < 256 → f k ≡ g k
same_on_bytes f g e k h = same_upto f g 256 e k h

-- use: `mask_on _ rule refl _ h`: the mask is the code's own, so that a wrong one fails where antt compares
pub mask_off : (mask : ℕ) (rule : ℕ → Bool) → values (λ (b : ℕ). eqb (bit_and b mask) 0) 0 256 ≡ values rule 0 256 → (b : ℕ) → b < 256 → eqb (bit_and b mask) 0 ≡ rule b
mask_off mask rule e b h = same_on_bytes (λ (b : ℕ). eqb (bit_and b mask) 0) rule e b h

pub mask_on : (mask : ℕ) (rule : ℕ → Bool) → values (λ (b : ℕ). not (eqb (bit_and b mask) 0)) 0 256 ≡ values rule 0 256 → (b : ℕ) → b < 256 → not (eqb (bit_and b mask) 0) ≡ rule b
mask_on mask rule e b h = same_on_bytes (λ (b : ℕ). not (eqb (bit_and b mask) 0)) rule e b h

-- the same where the code has tested: the mask is that of the test
pub mask_none : (mask : ℕ) (rule : ℕ → Bool) (b : ℕ) → b < 256 → bit_and b mask ≡ 0 → values (λ (b : ℕ). not (eqb (bit_and b mask) 0)) 0 256 ≡ values rule 0 256 → rule b ≡ false
mask_none mask rule b h t e = sym (mask_on mask rule e b h) ∙ ap not (eq-eqb _ _ t)

pub mask_some : (mask : ℕ) (rule : ℕ → Bool) (b : ℕ) → b < 256 → (bit_and b mask ≡ 0 → ⊥) → values (λ (b : ℕ). not (eqb (bit_and b mask) 0)) 0 256 ≡ values rule 0 256 → rule b ≡ true
mask_some mask rule b h t e = sym (mask_on mask rule e b h) ∙ ap not (ne_eqb _ _ t)

-- the bits from n on, each times its power of two, k of them
abbrev pub powers : ℕ → ℕ → ℕ → ℕ
powers b n zero = 0
powers b n (suc k) = b / 2 ^ (7 - n) % 2 * 2 ^ (7 - n) + powers b (suc n) k

pub sum_of_powers : (b : ℕ) → b < 256 → b ≡ powers b 0 8
sum_of_powers b h = same_on_bytes (λ (x : ℕ). x) (λ (x : ℕ). powers x 0 8) refl b h
