-- What the code tests, and the rule's own words for it. No contract cites this file.
use Prim.Native.Nat.{ℕ, ◌-◌, ◌/◌, ◌^◌, ◌<◌}
use mathlib.Core.Path.{◌≡◌, sym, ap, ◌∙◌}
use mathlib.Core.Bool.{Bool, true, not, ◌&&◌, ◌||◌}
use lib.Bits.{bit_and, and_mask}
use lib.Dec.{eqb}
use native.Mathlib.Omega.{arith}
use borrow.Author.Tests.{eq-eqb, ne_eqb}
use Rattle.numbers.specs.Bits.{bit}
use Rattle.numbers.specs.Choice.{one_of}
use Rattle.model.specs.Parameters.{operations}
use Rattle.model.proofs.Steps.{one_of_lem, none_of}

-- the code of an operation is below 7
pub operation_low : (o : ℕ) → one_of operations o ≡ true → o < 7
operation_low o e =
    one_of_lem (o < 7) _ _ o e (λ x. omega arith) (λ e.
    one_of_lem (o < 7) _ _ o e (λ x. omega arith) (λ e.
    one_of_lem (o < 7) _ _ o e (λ x. omega arith) (λ e.
    one_of_lem (o < 7) _ _ o e (λ x. omega arith) (λ e.
    one_of_lem (o < 7) _ _ o e (λ x. omega arith) (λ e. absurd (none_of o e))))))

-- cause 34, its last test
pub count_last : (o n : ℕ) → (n ≡ 0 → ⊥) → o ≡ 4 → not (eqb n 1) ≡ (eqb n 0 || (eqb o 4 && not (eqb n 1)))
count_last o n h e = rw (ne_eqb n 0 h, eq-eqb o 4 e)

-- bit n of the mask, by the test of it at the right end
pub shifted_bit : (mask n : ℕ) {b : Bool} → eqb (bit_and (mask / 2 ^ (7 - n)) 1) 1 ≡ b → bit mask n ≡ b
unfolding bit
shifted_bit mask n tested = sym (ap (λ (k : ℕ). eqb k 1) (and_mask (mask / 2 ^ (7 - n)) 1)) ∙ tested
