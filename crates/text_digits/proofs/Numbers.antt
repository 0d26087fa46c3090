-- Laws of numbers and bytes as text, one digit or one byte at a time. No contract cites this file.
use Prim.Native.Nat.{ℕ, zero, suc, ◌+◌, ◌*◌, ◌/◌, ◌%◌, ◌≤◌, ◌<◌}
use native.Mathlib.Numerals.{add-one}
use native.Mathlib.Decide.{dec_le}
use native.Mathlib.Omega.{arith}
use mathlib.Core.Path.{◌≡◌, refl, sym, ap, ◌∙◌}
use mathlib.Core.List.{List, [], ◌∷◌, ◌++◌, append_assoc, append-nil}
use lib.ListN.{length, get_or, take, drop, length-append, drop_of_length-le, set}
use lib.Seq.{take-suc, take-suc-set, take_all, drop-cons}
use borrow.Author.Tests.{lt-ltb, le-ltb}
use Rattle.std.proofs.Common.{rules, Decides}
use Rattle.std.proofs.lemmas.Slice.Eq.{compares_Decides}
use Rattle.numbers.specs.Choice.{pick}
use Rattle.text_digits.specs.Digits.{digit, decimal_of, decimal, hex, value_of, bytes_in, same}

-- decimal

decimal_fuel : (k j n : ℕ) → n ≤ k → n ≤ j → decimal_of k n ≡ decimal_of j n
unfolding decimal_of pick
decimal_fuel zero zero n h m = refl
decimal_fuel zero (suc j) n h m = simp (lt-ltb n 10 (omega arith))
decimal_fuel (suc k) zero n h m = simp (lt-ltb n 10 (omega arith))
decimal_fuel (suc k) (suc j) n h m = elim (dec_le 10 n) [
  | yes l ↦ simp (le-ltb n 10 l) (ap (λ (d : List ℕ). d ++ (digit (n % 10) ∷ [])) (decimal_fuel k j (n / 10) (omega (arith, l)) (omega (arith, l))))
  | no l ↦ simp (lt-ltb n 10 (omega (arith, l)))
]

pub decimal_one : (n : ℕ) → n < 10 → decimal n ≡ digit (n % 10) ∷ []
unfolding decimal decimal_of pick
decimal_one zero h = refl
decimal_one (suc n) h =
    let e : suc n % 10 ≡ suc n = omega arith in
    rw e (simp (lt-ltb (suc n) 10 h))

pub decimal_more : (n : ℕ) → 10 ≤ n → decimal n ≡ decimal (n / 10) ++ (digit (n % 10) ∷ [])
unfolding decimal decimal_of pick
decimal_more zero h = absurd (omega arith)
decimal_more (suc n) h = simp (le-ltb (suc n) 10 h) (ap (λ (d : List ℕ). d ++ (digit (suc n % 10) ∷ [])) (decimal_fuel n (suc n / 10) (suc n / 10) (omega arith) (omega arith)))

-- a number below a power of ten has as many digits at most
decimal_longer : (n k b : ℕ) → ((m : ℕ) → m < b → length (decimal m) ≤ k) → 10 ≤ b → n < b * 10 → length (decimal n) ≤ suc k
decimal_longer n k b f h m = elim (dec_le 10 n) [
  | yes l ↦ rw (decimal_more n l, length-append) (omega (arith, f (n / 10) (omega arith)))
  | no l ↦ rw (decimal_one n (omega (arith, l))) (omega arith)
]

pub decimal_short : (n : ℕ) → n < 100000 → length (decimal n) ≤ 5
decimal_short n h = decimal_longer n 4 10000 (λ m. decimal_longer m 3 1000 (λ i. decimal_longer i 2 100 (λ j. decimal_longer j 1 10 one (omega arith)) (omega arith)) (omega arith)) (omega arith) h
  where
    one : (m : ℕ) → m < 10 → length (decimal m) ≤ 1
    one m l = rw (decimal_one m l) (omega arith)

-- hexadecimal

hex_append : (a b : List ℕ) → hex (a ++ b) ≡ hex a ++ hex b
unfolding hex
hex_append [] b = refl
hex_append (x ∷ a) b = rw (hex_append a b)

pub hex_more : (bytes : List ℕ) (i : ℕ) → i < length bytes → hex (take (i + 1) bytes) ≡ hex (take i bytes) ++ hex (get_or bytes i 0 ∷ [])
hex_more bytes i h = rw (add-one, take-suc bytes i 0 h) (hex_append (take i bytes) (get_or bytes i 0 ∷ []))

pub hex_one : (b : ℕ) → hex (b ∷ []) ≡ digit (b / 16) ∷ digit (b % 16) ∷ []
unfolding hex
hex_one b = refl

pub hex_none : (bytes : List ℕ) → hex (take 0 bytes) ≡ []
unfolding hex
hex_none bytes = refl

pub bytes_from : (text : List ℕ) (i : ℕ) → i + 1 < length text → bytes_in (drop i text) ≡ (value_of (get_or text i 0) * 16 + value_of (get_or text (i + 1) 0)) ∷ bytes_in (drop (i + 2) text)
unfolding bytes_in
bytes_from text i h =
    let next : suc (i + 1) ≡ i + 2 = omega arith in
    let one : drop i text ≡ get_or text i 0 ∷ drop (i + 1) text = drop-cons text i 0 (omega arith) ∙ rw add-one in
    let two : drop (i + 1) text ≡ get_or text (i + 1) 0 ∷ drop (i + 2) text = drop-cons text (i + 1) 0 h ∙ ap (λ (n : ℕ). get_or text (i + 1) 0 ∷ drop n text) next in
    rw (one, two)

pub no_bytes : (text : List ℕ) → length text ≡ 0 → bytes_in text ≡ []
unfolding bytes_in
no_bytes [] h = refl
no_bytes (c ∷ text) h = absurd (omega arith)

-- one more byte is written
pub decoded : (text to : List ℕ) (i : ℕ) (all : List ℕ) (v : ℕ) → all ≡ take i to ++ bytes_in (drop (2 * i) text) → i < length to → 2 * i + 1 < length text
    → v ≡ value_of (get_or text (2 * i) 0) * 16 + value_of (get_or text (2 * i + 1) 0) → all ≡ take (i + 1) (set to i v) ++ bytes_in (drop (2 * (i + 1)) text)
decoded text to i all v e h k f =
    let twice : 2 * (i + 1) ≡ 2 * i + 2 = omega arith in
    e ∙ rw (bytes_from text (2 * i) k, ← f, twice, add-one, take-suc-set to i v h) (sym (append_assoc (take i to) (v ∷ []) _))

-- all bytes are written
pub decoded_all : (text to : List ℕ) (i : ℕ) (all : List ℕ) → all ≡ take i to ++ bytes_in (drop (2 * i) text) → length to ≤ i → length text ≡ length to + length to → to ≡ all
decoded_all text to i all e h k =
    let none : drop (2 * i) text ≡ [] = drop_of_length-le text {i = 2 * i} (omega arith) in
    sym (e ∙ rw (take_all i to h, none, no_bytes [] refl, append-nil))

-- equal lists

pub same_Decides : (l m : List ℕ) → Decides (same l m) (l ≡ m)
unfolding same
same_Decides = compares_Decides same (search rules)
