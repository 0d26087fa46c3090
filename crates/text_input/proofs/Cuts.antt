-- A right input is not long, and of a long input no more is needed than its beginning. No contract cites this file.
--     room         the most bytes that right lines from line n on have
--     right_short  an input with no wrong line has no more
--     cut_wrong    an input that is cut after more bytes has its first wrong line where it had it
use Prim.Native.Nat.{ℕ, zero, suc, ◌+◌, ◌-◌, ◌*◌, ◌≤◌, ◌<◌, min}
use native.Mathlib.Nat.{zero-min, min-zero, sub-zero, suc-sub-suc}
use native.Mathlib.Decide.{dec_le}
use native.Mathlib.Omega.{arith}
use mathlib.Core.Path.{◌≡◌, refl, sym, ◌∙◌}
use mathlib.Core.Bool.{true}
use mathlib.Core.List.{List, [], ◌∷◌}
use lib.Dec.{eqb, ltb}
use lib.ListN.{length, take, drop, length-drop}
use lib.Seq.{take_all, take-nil, take-take, length-take-le}
use borrow.Author.Tests.{ltb-true, le-ltb}
use Rattle.numbers.specs.Choice.{pick}
use Rattle.numbers.proofs.Choice.{pick_ind, pick_both}
use Rattle.text_digits.specs.Digits.{decimal, six_digits, same}
use Rattle.text_digits.proofs.Numbers.{decimal_short, same_Decides}
use Rattle.text_output.specs.Printout.{line_feed}
use Rattle.text_input.specs.Input.{Field, lines, blocks, ready, readonly, storage, ccw, keyed, value, number_in, number_of, number_line, right_line, wrong_from, wrong_line}
use Rattle.text_input.specs.Reads.{line_length}
use Rattle.text_input.proofs.Lines.{cons_lines, line_fits, some_line}
use Rattle.text_input.proofs.Values.{length_value, keyed_long}
use Rattle.text_input.proofs.Rights.{hex_is, all_right, ccw_right}

-- how long a right line is

number_length : (n low : ℕ) (text : List ℕ) → number_in n low text < low + n → low + n ≤ six_digits → length text ≤ 5
unfolding number_in
number_length zero low text h m = absurd (omega arith)
number_length (suc n) low text h m =
    pick_ind (λ (r : ℕ). r < low + suc n → length text ≤ 5) (same text (decimal low)) low (number_in n (low + 1) text)
    (λ e _. rw ((same_Decides text (decimal low)).0 e) (decimal_short low (omega arith)))
    (λ _ k. number_length n (low + 1) text (omega arith) (omega arith))
    h

number_line_length : (f : Field) (l : List ℕ) → number_line f l ≡ true → f.least ≤ f.most → f.most < six_digits → length l ≤ length f.key + 6
unfolding number_of
number_line_length f l e m k =
    pick_ind (λ (r : ℕ). r < f.most + 1 → length l ≤ length f.key + 6) (keyed f.key l) (number_in (f.most + 1 - f.least) f.least (value f.key l)) (f.most + 1)
    (λ t h.
    let long = keyed_long f.key l t in
    let short = number_length (f.most + 1 - f.least) f.least (value f.key l) (omega arith) (omega arith) in
    omega (arith, length_value f.key l long))
    (λ _ h. absurd (omega arith))
    (ltb-true _ _ e)

unfoldable pub room : ℕ → ℕ
room n = (37 - n) * 21 + pick (ltb n 5) 2036 0

-- a right line leaves room for those after it

by_number : (P : ℕ → Type 0) → P 1 → P 2 → P 3 → P 4 → ((k : ℕ) → P (5 + k)) → (n : ℕ) → 1 ≤ n → P n
by_number P a b c d f zero h = absurd (omega arith)
by_number P a b c d f (suc zero) h = a
by_number P a b c d f (suc (suc zero)) h = b
by_number P a b c d f (suc (suc (suc zero))) h = c
by_number P a b c d f (suc (suc (suc (suc zero)))) h = d
by_number P a b c d f (suc (suc (suc (suc (suc k))))) h =
    let five : 5 + k ≡ suc (suc (suc (suc (suc k)))) = omega arith in
    rw five at (f k)

right_length : (n : ℕ) (l : List ℕ) → 1 ≤ n → right_line n l ≡ true → length l + room (n + 1) ≤ room n
unfolding right_line room pick
right_length n l h e =
    by_number (λ (m : ℕ). right_line m l ≡ true → length l + room (m + 1) ≤ room m)
    (λ r. omega (arith, number_line_length blocks l r (omega arith) (omega arith)))
    (λ r. omega (arith, number_line_length ready l r (omega arith) (omega arith)))
    (λ r. omega (arith, number_line_length readonly l r (omega arith) (omega arith)))
    (λ r. omega (arith, hex_is storage l r))
    (λ k r.
    let right = ccw_right k l r in
    rw (le-ltb (5 + k) 5 (omega arith), le-ltb (5 + k + 1) 5 (omega arith)) (omega (arith, right.1, hex_is ccw l right.0)))
    n h e

-- a right input

pub right_short : (fuel n : ℕ) (x : List ℕ) → length x ≤ fuel → 1 ≤ n → wrong_from n (lines x) ≡ 0 → length x ≤ room n
right_short zero n x h m e = omega arith
right_short (suc fuel) n x h m e = elim (dec_le 1 (length x)) [
  | yes a ↦
      let k : ℕ = line_length x in
      let some = some_line x a in
      let fits = line_fits x in
      let right = all_right n (take k x) (lines (drop k x)) m (rw (cons_lines x a) at e) in
      let long : length (take k x) ≡ k = length-take-le k x fits in
      let here = right_length n (take k x) m right.0 in
      let later = right_short fuel (n + 1) (drop k x) (rw length-drop (omega (arith, some, h))) (omega (arith, m)) right.1 in
      omega (arith, here, long, later, length-drop k x)
  | no a ↦ omega (arith, a)
]

-- an input that is cut

cut_line : (c : ℕ) (x : List ℕ) → line_length (take c x) ≡ min c (line_length x)
unfolding line_length
cut_line zero x = rw zero-min
cut_line (suc c) [] = rw min-zero
cut_line (suc c) (d ∷ x) = pick_both (λ (m k : ℕ). m ≡ min (suc c) k) (eqb d line_feed) 1 _ 1 _ (λ _. omega arith) (λ _. omega (arith, cut_line c x))

drop_take : (k c : ℕ) (x : List ℕ) → k ≤ c → drop k (take c x) ≡ take (c - k) (drop k x)
drop_take zero c x h = rw sub-zero
drop_take (suc k) zero x h = absurd (omega arith)
drop_take (suc k) (suc c) [] h = sym (take-nil (suc c - suc k))
drop_take (suc k) (suc c) (d ∷ x) h = rw suc-sub-suc (drop_take k c x (omega arith))

-- a line that is too long is wrong

long_wrong : (n : ℕ) (l : List ℕ) (ls : List (List ℕ)) → 1 ≤ n → room n < length l → wrong_from n (l ∷ ls) ≡ n
unfolding wrong_from
long_wrong n l ls h m = pick_ind (λ (r : ℕ). r ≡ n) (right_line n l) (wrong_from (n + 1) ls) n (λ e. absurd (omega (arith, right_length n l h e, m))) (λ _. refl)

same_later : (n : ℕ) (l : List ℕ) (ls ms : List (List ℕ)) → (right_line n l ≡ true → wrong_from (n + 1) ls ≡ wrong_from (n + 1) ms) → wrong_from n (l ∷ ls) ≡ wrong_from n (l ∷ ms)
unfolding wrong_from
same_later n l ls ms f = pick_both (λ (a b : ℕ). a ≡ b) (right_line n l) _ n _ n f (λ _. refl)

-- the first line ends before the cut, or after it

pub cut_wrong : (fuel n c : ℕ) (x : List ℕ) → length x ≤ fuel → 1 ≤ n → room n < c → wrong_from n (lines (take c x)) ≡ wrong_from n (lines x)
cut_wrong zero n c x h m r = rw (take_all c x (omega arith))
cut_wrong (suc fuel) n c x h m r = elim (dec_le (length x) c) [
  | yes a ↦ rw (take_all c x a)
  | no a ↦
      let k : ℕ = line_length x in
      let long : length (take c x) ≡ c = length-take-le c x (omega (arith, a)) in
      let whole : lines x ≡ take k x ∷ lines (drop k x) = cons_lines x (omega (arith, a)) in
      let cut : lines (take c x) ≡ take (min c k) (take c x) ∷ lines (drop (min c k) (take c x)) = rw (cut_line c x) at (cons_lines (take c x) (omega (arith, long, r))) in
      elim (dec_le k c) [
        | yes b ↦
            let mk : min c k ≡ k = omega (arith, b) in
            let some = some_line x (omega (arith, a)) in
            let shown : lines (take c x) ≡ take k x ∷ lines (take (c - k) (drop k x)) = cut ∙ rw (mk, take-take k c x b, drop_take k c x b) in
            let kl : length (take k x) ≡ k = length-take-le k x (line_fits x) in
            rw (shown, whole)
            (same_later n (take k x) _ _
            (λ e. cut_wrong fuel (n + 1) (c - k) (drop k x) (rw length-drop (omega (arith, h, some))) (omega (arith, m)) (omega (arith, right_length n (take k x) m e, kl, r))))
        | no b ↦
            let mk : min c k ≡ c = omega (arith, b) in
            let kl : length (take k x) ≡ k = length-take-le k x (line_fits x) in
            let shown : lines (take c x) ≡ take c x ∷ lines (drop c (take c x)) = cut ∙ rw (mk, take-take c c x (omega arith)) in
            rw (shown, whole) (long_wrong n (take c x) _ m (omega (arith, long, r)) ∙ sym (long_wrong n (take k x) _ m (omega (arith, kl, b, r))))
      ]
]

-- the program reads 4,096 bytes

pub wrong_cut : (input : List ℕ) → wrong_line (take 4096 input) ≡ wrong_line input
unfolding wrong_line room pick
wrong_cut input = cut_wrong (length input) 1 4096 input (omega arith) (omega arith) (omega arith)

pub right_fits : (input : List ℕ) → wrong_line input ≡ 0 → length input ≤ 4096
unfolding wrong_line room pick
right_fits input e = omega (arith, right_short (length input) 1 input (omega arith) (omega arith) e)
