-- The rule of mask bits 0-1 (`forbids`), entry by entry: it is the table that stood in its place. No contract cites this file.
use Prim.Native.Nat.{ℕ, ◌/◌, ◌<◌}
use mathlib.Core.Path.{◌≡◌, refl}
use mathlib.Core.Bool.{Bool}
use mathlib.Core.List.{List, [], ◌∷◌}
use lib.ListN.{get_or}
use Rattle.numbers.specs.Bits.{bit}
use Rattle.numbers.specs.Choice.{one_of}
use Rattle.numbers.proofs.Tables.{values, same_upto}
use Rattle.model.specs.Names.{format, write_data, write_check}
use Rattle.model.specs.Parameters.{operations, forbids}

-- the operations that are forbidden, by mask bits 0-1
abbrev pub forbidden : List (List ℕ)
forbidden =
    (format ∷ [])  -- 00
    ∷ (format ∷ write_data ∷ write_check ∷ [])  -- 01
    ∷ operations  -- 10
    ∷ []  -- 11
    ∷ []

abbrev pub looked_up : ℕ → ℕ → Bool
looked_up mask operation = one_of (get_or forbidden (mask / 64) []) operation

-- of all 256 masks and all 16 codes that the four bits of an operation can say: antt computes both, and compares them
pub rule_is_table : (mask operation : ℕ) → mask < 256 → operation < 16 → forbids mask operation ≡ looked_up mask operation
unfolding forbids bit one_of
rule_is_table mask operation byte code =
    same_upto (forbids mask) (looked_up mask) 16 (same_upto (λ (m : ℕ). values (forbids m) 0 16) (λ (m : ℕ). values (looked_up m) 0 16) 256 refl mask byte) operation code
