-- The chains of a buffer are those that were written there.
--     chains_written   a buffer that was written holds its chains
--     written_chains   a buffer that holds chains is those, written
-- Assumes nothing.
use Prim.Native.Nat.{ℕ, zero, suc, ◌+◌, ◌/◌, ◌%◌, ◌≤◌, ◌<◌}
use native.Mathlib.Omega.{arith}
use mathlib.Core.Path.{◌≡◌, refl, sym, ap, ◌∙◌}
use mathlib.Core.Bool.{Bool, true, false}
use mathlib.Core.Option.{Option, none, some, map, some-injective, none-ne-some}
use mathlib.Core.List.{List, [], ◌∷◌, ◌++◌}
use lib.ListN.{length, drop, length-append, length-drop, take-append-drop}
use lib.Seq.{drop_at, drop-drop}
use borrow.Author.Tests.{eqb-true, eqb-false, ltb-true, ltb-false}
use Rattle.numbers.specs.Bytes.{AreBytes}
use Rattle.numbers.specs.Big.{bytes2}
use Rattle.numbers.specs.Choice.{◌<?◌, ◌=?◌}
use Rattle.numbers.proofs.Big.{bytes2_hold}
use Rattle.numbers.proofs.Bytes.{bytes_drop}
use Rattle.slices.specs.Parts.{part}
use Rattle.slices.proofs.Laws.{length_part, part_between}
use Rattle.model.specs.Class.{length_size, chains_in}
use Rattle.model.specs.Written.{written, Fit}
use Rattle.model.proofs.Class.{first_length, first_chain, first_taken, others, chains_none, chains_short, chains_next}

module _ (chain : List ℕ) (chains : List (List ℕ)) (fits : length chain < 65536) where
  abbrev all : List ℕ
  all = bytes2 (length chain) ++ (chain ++ written chains)

  long : length all ≡ 2 + (length chain + length (written chains))
  long = omega (arith, length-append chain (written chains))

  one_length : first_length all ≡ length chain
  one_length = bytes2_hold (length chain) fits

  one_chain : first_chain all ≡ chain
  one_chain = rw one_length (part_between (bytes2 (length chain)) chain (written chains) length_size (length chain) refl refl)

  those_behind : others all ≡ written chains
  those_behind = rw (one_length, ← (drop-drop (length chain) 2 all)) (drop_at chain (written chains) (length chain) refl)

  one_next : chains_in all ≡ map (λ more. chain ∷ more) (chains_in (written chains))
  one_next =
      let there : first_taken all ≤ length all = omega (arith, one_length, long) in
      chains_next all (omega arith) there ∙ rw (one_chain, those_behind)

pub chains_written : (chains : List (List ℕ)) → Fit chains → chains_in (written chains) ≡ some chains
unfolding written
chains_written [] fit = chains_none [] refl
chains_written (chain ∷ chains) fit =
    one_next chain chains (fit 0 (omega arith))
    ∙ ap (map (λ more. chain ∷ more)) (chains_written chains (λ i h. fit (suc i) (omega arith)))

-- a buffer is its first chain after its length, and those that follow
whole : (bytes : List ℕ) → AreBytes bytes → 0 < length bytes → first_taken bytes ≤ length bytes → bytes2 (length (first_chain bytes)) ++ (first_chain bytes ++ others bytes) ≡ bytes
unfolding part AreBytes
whole [] b some_left there = absurd (omega arith)
whole (x ∷ []) b some_left there = absurd (omega arith)
whole (x ∷ y ∷ more) b some_left there =
    let all : List ℕ = x ∷ y ∷ more in
    let n : ℕ = first_length all in
    let behind_it : others all ≡ drop n more = sym (drop-drop n 2 all) in
    let high : n / 256 % 256 ≡ x = omega (arith, b.0, b.1.0) in
    let low : n % 256 ≡ y = omega (arith, b.0, b.1.0) in
    rw (length_part all length_size n there, high, low, behind_it, take-append-drop)

some_of : (bytes : List ℕ) (chains found : List (List ℕ)) → chains_in bytes ≡ some found → chains_in bytes ≡ some chains → chains ≡ found
some_of bytes chains found e f = some-injective _ _ (sym f ∙ e)

written_none : (bytes : List ℕ) (chains : List (List ℕ)) → length bytes ≡ 0 → chains_in bytes ≡ some chains → written chains ≡ bytes
unfolding written
written_none [] chains h e = rw (some_of [] chains [] (chains_none [] refl) e)
written_none (x ∷ bytes) chains h e = absurd (omega arith)

written_next : (bytes : List ℕ) (chains : List (List ℕ)) → AreBytes bytes → 0 < length bytes → first_taken bytes ≤ length bytes
    → (o : Option (List (List ℕ))) → ((more : List (List ℕ)) → o ≡ some more → written more ≡ others bytes)
    → map (λ more. first_chain bytes ∷ more) o ≡ some chains → written chains ≡ bytes
unfolding written
written_next bytes chains b some_left there none h e = absurd (none-ne-some chains e)
written_next bytes chains b some_left there (some more) h e =
    rw (← (some-injective _ _ e), h more refl) (whole bytes b some_left there)

-- a buffer by the chains that follow its first
module _ (bytes : List ℕ) (chains : List (List ℕ)) (b : AreBytes bytes) (e : chains_in bytes ≡ some chains)
    (those : length (others bytes) < length bytes → (more : List (List ℕ)) → chains_in (others bytes) ≡ some more → written more ≡ others bytes) where
  by_length : 0 < length bytes → (short : Bool) → (length bytes <? first_taken bytes) ≡ short → written chains ≡ bytes
  by_length some_left true t = absurd (none-ne-some chains (sym (chains_short bytes some_left (ltb-true (length bytes) (first_taken bytes) t)) ∙ e))
  by_length some_left false t =
      let there : first_taken bytes ≤ length bytes = ltb-false (length bytes) (first_taken bytes) t in
      let fewer : length (others bytes) < length bytes = omega (arith, some_left, length-drop (first_taken bytes) bytes) in
      written_next bytes chains b some_left there (chains_in (others bytes)) (those fewer) (sym (chains_next bytes some_left there) ∙ e)

  by_end : (end : Bool) → (length bytes =? 0) ≡ end → written chains ≡ bytes
  by_end true t = written_none bytes chains (eqb-true (length bytes) 0 t) e
  by_end false t =
      let not_end : length bytes ≡ 0 → ⊥ = eqb-false (length bytes) 0 t in
      by_length (omega (arith, not_end)) (length bytes <? first_taken bytes) refl

written_within : (n : ℕ) (bytes : List ℕ) (chains : List (List ℕ)) → AreBytes bytes → length bytes ≤ n → chains_in bytes ≡ some chains → written chains ≡ bytes
written_within zero bytes chains b h e = written_none bytes chains (omega arith) e
written_within (suc n) bytes chains b h e =
    by_end bytes chains b e (λ fewer more. written_within n (others bytes) more (bytes_drop (first_taken bytes) bytes b) (omega (arith, h, fewer))) (length bytes =? 0) refl

pub written_chains : (bytes : List ℕ) (chains : List (List ℕ)) → AreBytes bytes → chains_in bytes ≡ some chains → written chains ≡ bytes
written_chains bytes chains b e = written_within (length bytes) bytes chains b (omega arith) e
