-- Laws of bytes that are read to the front of a buffer, at once or piece by piece. No contract cites this file.
--     Goes   of all bytes, those before n stand in `to`, and the rest are to follow
use Prim.Native.Nat.{ℕ, ◌+◌, ◌/◌, ◌≤◌}
use native.Mathlib.Nat.{zero-add}
use native.Mathlib.Omega.{arith}
use mathlib.Core.Path.{◌≡◌, refl, sym, ◌∙◌}
use mathlib.Core.List.{List, [], ◌∷◌, ◌++◌}
use lib.ListN.{length, drop, length-append}
use Rattle.slices.specs.Parts.{put}
use Rattle.slices.proofs.Laws.{put_nil, put_more}
use Rattle.text_digits.specs.Digits.{bytes_in}
use Rattle.text_input.specs.Reads.{ReadTo}

pub decoded_length : (text : List ℕ) → length (bytes_in text) ≡ length text / 2
unfolding bytes_in
decoded_length [] = refl
decoded_length (c ∷ []) = refl
decoded_length (h ∷ l ∷ text) = omega (arith, decoded_length text)

-- the front of a buffer was lent, and is back
pub read_front : {to back bytes : List ℕ} {n : ℕ} → back ≡ bytes → length back ≡ n → n ≤ length to → ReadTo to bytes n (back ++ drop n to)
unfolding put
read_front e h m = record { count = sym h ∙ rw e; fits = m; front = rw (← e, h, zero-add) }

pub record Goes (first all to : List ℕ) (n : ℕ) (rest : List ℕ) : Type 0 where
  pub count : length all ≡ n + length rest
  pub front : put first 0 all ≡ put to n rest

pub goes_start : {to all : List ℕ} → Goes to all to 0 all
goes_start = record { count = omega arith; front = refl }

pub goes_more : {first all to : List ℕ} {n : ℕ} {next : List ℕ} (bytes rest : List ℕ) → Goes first all to n (bytes ++ rest) → next ≡ put to n bytes → n ≤ length to
    → Goes first all next (n + length bytes) rest
goes_more {first} {all} {to} {n} bytes rest g e h = record {
  count = g.count ∙ rw length-append (omega arith);
  front = g.front ∙ rw e (sym (put_more to n bytes rest h));
}

pub goes_done : {first all to : List ℕ} {n : ℕ} → Goes first all to n [] → n ≤ length first → ReadTo first all n to
goes_done {first} {all} {to} {n} g h = record { count = omega (arith, g.count); fits = h; front = sym (g.front ∙ put_nil to n) }
