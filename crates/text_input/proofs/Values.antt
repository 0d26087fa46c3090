-- Laws of keys and values. No contract cites this file.
use Prim.Native.Nat.{ℕ, zero, suc, ◌+◌, ◌-◌, ◌/◌, ◌%◌, ◌≤◌, ◌<◌}
use native.Mathlib.Omega.{arith}
use mathlib.Core.Path.{◌≡◌, refl, sym, ap, ◌∙◌}
use mathlib.Core.Logic.{◌≢◌}
use Rattle.std.proofs.lemmas.Bool.{false_from_ne_true}
use Rattle.std.proofs.lemmas.List.{append_cancel_right}
use mathlib.Core.Bool.{Bool, true, false, cond}
use mathlib.Core.List.{List, [], ◌∷◌, ◌++◌, append_assoc}
use lib.ListN.{length, get_or, take, drop, take-append-drop, length-append, drop_of_length-le}
use lib.Seq.{drop-cons, drop-drop, take_at, drop_at, get_or-append-add}
use borrow.Author.Tests.{lt-ltb, le-ltb, ltb-true, ltb-false, eqb-true, eq-eqb, not-true}
use Rattle.std.proofs.Common.{Option, Some, None, Bor, MatchOption}
use Rattle.std.specs.List.{find, range_with_len}
use Rattle.std.specs.Option.{IsSome, is_some}
use lib.Dec.{ltb}
use Rattle.slices.specs.Parts.{part}
use Rattle.slices.proofs.Laws.{length_part}
use Rattle.numbers.specs.Choice.{pick}
use Rattle.numbers.proofs.Choice.{pick_ind}
use Rattle.text_digits.specs.Digits.{decimal, is_hex, same}
use Rattle.text_digits.proofs.Numbers.{same_Decides}
use Rattle.numbers.proofs.Joined.{both_true}
use Rattle.text_output.specs.Printout.{line_feed}
use Rattle.text_input.specs.Input.{Field, field, keyed, value, number_in, number_of, hex_line}
use Rattle.text_input.specs.Reads.{Tells}

-- a line that has a key is longer than it
pub keyed_long : (key l : List ℕ) → keyed key l ≡ true → length key < length l
unfolding keyed
keyed_long key l h = ltb-true _ _ (both_true _ _ (both_true _ _ h).0).0

-- it is the key, the value and a line feed

pub keyed_parts : (key l : List ℕ) → keyed key l ≡ true → l ≡ key ++ value key l ++ (line_feed ∷ [])
unfolding keyed value part
keyed_parts key l h =
    let k : ℕ = length key in
    let m : ℕ = length l - (k + 1) in
    let long = keyed_long key l h in
    let place : k + m ≡ length l - 1 = omega arith in
    let none : drop (suc (length l - 1)) l ≡ [] = drop_of_length-le l {i = suc (length l - 1)} (omega arith) in
    let there : length l - 1 < length l = omega arith in
    let ends : get_or l (length l - 1) 0 ≡ line_feed = eqb-true _ _ (both_true _ _ (both_true _ _ h).0).1 in
    let front : take k l ≡ key = (same_Decides (take k l) key).0 (both_true _ _ h).1 in
    let last : drop (k + m) l ≡ line_feed ∷ [] = rw (place, drop-cons l (length l - 1) 0 there, ends, none) refl in
    let rest : drop k l ≡ take m (drop k l) ++ (line_feed ∷ []) = sym (take-append-drop m (drop k l)) ∙ rw (drop-drop m k l, last) refl in
    sym (take-append-drop k l) ∙ ap (λ (x : List ℕ). x ++ drop k l) front ∙ ap (λ (x : List ℕ). key ++ x) rest ∙ sym (append_assoc key (take m (drop k l)) (line_feed ∷ []))

pub keyed_built : (key l v : List ℕ) → l ≡ key ++ v ++ (line_feed ∷ []) → (keyed key l ≡ true) × (v ≡ value key l)
unfolding keyed value part
keyed_built key l v e =
    let feed : List ℕ = line_feed ∷ [] in
    let long : length l ≡ length key + length v + 1 = ap length e ∙ rw (length-append, length-append) refl in
    let split : l ≡ key ++ (v ++ feed) = e ∙ append_assoc key v feed in
    let front : take (length key) l ≡ key = rw split (take_at key (v ++ feed) (length key) refl) in
    let back : drop (length key) l ≡ v ++ feed = rw split (drop_at key (v ++ feed) (length key) refl) in
    let place : length l - 1 ≡ length (key ++ v) + 0 = rw length-append (omega arith) in
    let ends : get_or l (length l - 1) 0 ≡ line_feed = rw (place, e) (get_or-append-add (key ++ v) feed 0 0) in
    let m : length l - (length key + 1) ≡ length v = omega arith in
    (rw (lt-ltb (length key) (length l) (omega arith), eq-eqb _ _ ends) ((same_Decides (take (length key) l) key).1 front), sym (rw (m, back) (take_at v feed (length v) refl)))

-- what is left without the line feed, and then without the key
pub stripped : (key l x : List ℕ) (r : Option (Bor (List ℕ))) → l ≡ x ++ (line_feed ∷ []) → MatchOption r ((rest : List ℕ) → x ≢ key ++ rest) (λ v. x ≡ key ++ v.now)
    → MatchOption r (keyed key l ≡ false) (λ v. (keyed key l ≡ true) × (v.now ≡ value key l))
stripped key l x None e m = false_from_ne_true (keyed key l) (λ t. m (value key l) (append_cancel_right x (key ++ value key l) (line_feed ∷ []) (sym e ∙ keyed_parts key l t)))
stripped key l x (Some v) e m = keyed_built key l v.now (e ∙ ap (λ y. y ++ (line_feed ∷ [])) m)

pub length_value : (key l : List ℕ) → length key < length l → length (value key l) ≡ length l - 1 - length key
unfolding value
length_value key l h = length_part l (length key) (length l - (length key + 1)) (omega arith) ∙ omega arith

pub some_value : (P : Bor (List ℕ) → Type 0) (r : Option (Bor (List ℕ))) (b : Bool) → MatchOption r (b ≡ false) P → b ≡ true → IsSome r
some_value P None b m h = sym m ∙ h
some_value P (Some v) b m h = refl

-- the first of the numbers that may be

number_turn : (b : Bool) (low none n : ℕ) (r : Option ℕ) → low < none → Tells none r n → Tells none (cond b (Some low) r) (pick b low n)
unfolding pick
number_turn true low none n r h t = (refl, λ e. omega (arith, h, e))
number_turn false low none n r h t = t

pub number_first : (text : List ℕ) (n low : ℕ) → Tells (low + n) (find (λ m. same text (decimal m)) (range_with_len low n)) (number_in n low text)
unfolding number_in
number_first text zero low = omega arith
number_first text (suc n) low =
    let next : low + 1 + n ≡ low + suc n = omega arith in
    number_turn (same text (decimal low)) low (low + suc n) (number_in n (low + 1) text) (find (λ m. same text (decimal m)) (range_with_len (low + 1) n)) (omega arith) (rw next at (number_first text n (low + 1)))

pub number_unkeyed : (f : Field) (l : List ℕ) → keyed f.key l ≡ false → number_of f l ≡ f.most + 1
unfolding number_of pick
number_unkeyed f l h = rw h

pub number_keyed : (f : Field) (l : List ℕ) → keyed f.key l ≡ true → number_of f l ≡ number_in (f.most + 1 - f.least) f.least (value f.key l)
unfolding number_of pick
number_keyed f l h = rw h

-- a line of bytes, test by test

module _ (f : Field) (l : List ℕ) where
  abbrev count : ℕ
  count = length (value f.key l) / 2

  pub hex_not_keyed : keyed f.key l ≡ false → false ≡ hex_line f l
  unfolding hex_line
  hex_not_keyed k = simp k

  pub hex_few : keyed f.key l ≡ true → count < f.least → false ≡ hex_line f l
  unfolding hex_line
  hex_few k h = simp (k, lt-ltb _ _ h)

  pub hex_many : keyed f.key l ≡ true → f.least ≤ count → f.most < count → false ≡ hex_line f l
  unfolding hex_line
  hex_many k h m = simp (k, le-ltb _ _ h, lt-ltb _ _ m)

  pub hex_some : keyed f.key l ≡ true → f.least ≤ count → count ≤ f.most → is_hex (value f.key l) ≡ hex_line f l
  unfolding hex_line
  hex_some k h m = simp (k, le-ltb _ _ h, le-ltb _ _ m)

  -- what holds of one that is right
  pub hex_right : hex_line f l ≡ true → (keyed f.key l ≡ true) × (length (value f.key l) % 2 ≡ 0) × (f.least ≤ count) × (count ≤ f.most)
  unfolding hex_line is_hex
  hex_right e =
      let parts = both_true _ _ e in
      let most = both_true _ _ parts.0 in
      let least = both_true _ _ most.0 in
      (least.0, eqb-true _ _ (both_true _ _ parts.1).0, ltb-false _ _ (not-true _ least.1), ltb-false _ _ (not-true _ most.1))

-- the bytes of one that is right are two digits each, and as many as may be
pub hex_value : (f : Field) (l v : List ℕ) → hex_line f l ≡ true → v ≡ value f.key l → (length v ≡ length v / 2 + length v / 2) × (f.least ≤ length v / 2) × (length v / 2 ≤ f.most)
hex_value f l v h e =
    let is = hex_right f l h in
    rw e (omega (arith, is), is.2, is.3)

-- a number is at most one past the most
number_below : (n low : ℕ) (text : List ℕ) → number_in n low text ≤ low + n
unfolding number_in
number_below zero low text = omega arith
number_below (suc n) low text =
    pick_ind (λ (m : ℕ). m ≤ low + suc n) (same text (decimal low)) low (number_in n (low + 1) text) (λ _. omega arith) (λ _. omega (arith, number_below n (low + 1) text))

pub number_bounded : (key l : List ℕ) (least most : ℕ) → least ≤ most → number_of (field key least most) l ≤ most + 1
unfolding number_of
number_bounded key l least most h =
    pick_ind (λ (m : ℕ). m ≤ most + 1) (keyed key l) (number_in (most + 1 - least) least (value key l)) (most + 1) (λ _. omega (arith, number_below (most + 1 - least) least (value key l))) (λ _. omega arith)

-- a number is there
pub told_some : (none : ℕ) (r : Option ℕ) (n : ℕ) → Tells none r n → n ≤ none → is_some r ≡ ltb n none
told_some none None n t h = sym (le-ltb n none (omega (arith, t)))
told_some none (Some m) n t h =
    let apart = t.1 in
    sym (lt-ltb n none (omega arith))

-- a number, or none, that is told so is only one
pub tells_unique : (none n : ℕ) (r s : Option ℕ) → Tells none r n → Tells none s n → r ≡ s
tells_unique none n None None e f = refl
tells_unique none n None (Some j) e f = absurd (f.1 e)
tells_unique none n (Some i) None e f = absurd (e.1 f)
tells_unique none n (Some i) (Some j) e f = let z : i ≡ j = e.0 ∙ sym f.0 in ap Some z
