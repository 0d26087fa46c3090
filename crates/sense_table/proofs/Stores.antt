-- The table's rows, and the sense that is made of one, are the definition's.
--     row_before, row_past       a cause below the table's, and one above them, has none
--     none_numbered              so has a number that is no cause's
--     row_bytes                  the three bytes of a row
--     sense_is                   the 24 bytes of what the code carries are the definition's
--     none_showing               an accepted command leaves the sense of cause 0
-- No contract cites this file.
use Prim.Native.Nat.{ℕ, ◌+◌, ◌*◌, ◌/◌, ◌%◌, ◌≤◌, ◌<◌}
use mathlib.Core.Path.{◌≡◌, refl, sym, ap, ◌∙◌}
use mathlib.Core.Bool.{Bool, true, false, ◌&&◌}
use mathlib.Core.List.{List, [], ◌∷◌}
use native.Mathlib.Omega.{arith}
use Rattle.std.proofs.lemmas.Bool.{true≢false}
use borrow.Author.Tests.{ltb-true, ne_eqb}
use Rattle.slices.specs.Parts.{zeros, put}
use Rattle.numbers.proofs.Tables.{same_upto}
use Rattle.numbers.specs.Choice.{◌<?◌, pick, one_of}
use Rattle.model.specs.Sense.{sense_table, row_in, sense_of}
use Rattle.model.specs.Sense as table
use Rattle.model.specs.Parameters.{locate_length}
use Rattle.model.specs.Told.{cause_numbers}
use Rattle.model.proofs.Fields.{sense_row}
use Rattle.numbers.specs.Big.{bytes3}
use Rattle.numbers.proofs.Joined.{both_true}
use Rattle.sense_table.specs.Sensed.{row_of, sense_showing, no_sense, sense_bytes}

pub row_before : (cause : ℕ) → cause < 20 → record { 0 = 0 } ≡ row_of cause
unfolding row_in pick
row_before cause h = same_upto (λ (k : ℕ). record { 0 = 0 }) row_of 20 refl cause h

-- each cause of these rows is below n
below : ℕ → List table.CauseRow → Bool
below n [] = true
below n (r ∷ rs) = r.cause <? n && below n rs

past : (rows : List table.CauseRow) (n cause : ℕ) → below n rows ≡ true → n ≤ cause → row_in rows cause ≡ record { cause = cause; byte0 = 0; byte1 = 0; byte7 = 0 }
unfolding row_in pick below
past [] n cause b h = refl
past (r ∷ rs) n cause b h =
    let each = both_true (r.cause <? n) (below n rs) b in
    let low : r.cause < n = ltb-true _ _ each.0 in
    rw (ne_eqb r.cause cause (λ e. omega (arith, e, low))) (past rs n cause each.1 h)

pub row_past : (cause : ℕ) → 44 < cause → record { 0 = 0 } ≡ row_of cause
unfolding below
row_past cause h = rw (past sense_table 45 cause refl h)

-- each row is a cause's
causes : List table.CauseRow → Bool
causes [] = true
causes (r ∷ rs) = one_of cause_numbers r.cause && causes rs

pub none_numbered : (cause : ℕ) → one_of cause_numbers cause ≡ false → row_in sense_table cause ≡ record { cause = cause; byte0 = 0; byte1 = 0; byte7 = 0 }
unfolding causes one_of row_in pick
none_numbered cause h = none sense_table refl
  where
    none : (rows : List table.CauseRow) → causes rows ≡ true → row_in rows cause ≡ record { cause = cause; byte0 = 0; byte1 = 0; byte7 = 0 }
    none [] b = refl
    none (r ∷ rs) b =
        let each = both_true (one_of cause_numbers r.cause) (causes rs) b in
        rw (ne_eqb r.cause cause (λ e. true≢false (sym each.0 ∙ ap (one_of cause_numbers) e ∙ h))) (none rs each.1)

-- a row's number is its three bytes
pub row_bytes : (cause : ℕ) → bytes3 (row_of cause).0 ≡ (let d = row_in sense_table cause in d.byte0 ∷ d.byte1 ∷ d.byte7 ∷ [])
row_bytes cause = let r = sense_row cause in three _ _ _ r.byte0 r.byte1 r.byte7
  where
    three : (a b c : ℕ) → a < 256 → b < 256 → c < 256 → bytes3 (a * 65536 + b * 256 + c) ≡ a ∷ b ∷ c ∷ []
    three a b c ha hb hc =
        let n : ℕ = a * 65536 + b * 256 + c in
        let e₀ : n / 65536 % 256 ≡ a = omega (arith, ha, hb, hc) in
        let e₁ : n / 256 % 256 ≡ b = omega (arith, ha, hb, hc) in
        let e₂ : n % 256 ≡ c = omega (arith, ha, hb, hc) in
        rw (e₀, e₁, e₂)

pub sense_is : (cause : ℕ) (parameters : List ℕ) → sense_bytes (sense_showing cause parameters) ≡ sense_of cause parameters
unfolding sense_bytes sense_showing sense_of put zeros
sense_is cause parameters = refl

-- cause 0 shows nothing, and has no row
pub none_showing : sense_showing 0 (zeros locate_length) ≡ no_sense
unfolding sense_showing row_in pick zeros
none_showing = refl
