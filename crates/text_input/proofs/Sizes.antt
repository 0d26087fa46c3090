-- What is read from an input is bytes, and no more than fits. No contract cites this file.
use Prim.Native.Nat.{ℕ, ◌+◌, ◌*◌, ◌≤◌, ◌<◌}
use native.Mathlib.Omega.{arith}
use mathlib.Core.Path.{◌≡◌}
use mathlib.Core.List.{List, [], ◌∷◌}
use lib.ListN.{length, get_or, drop}
use Rattle.numbers.specs.Bytes.{AreBytes}
use Rattle.numbers.proofs.Bytes.{bytes_nil, bytes_cons, bytes_append}
use Rattle.numbers.proofs.Choice.{pick_ind}
use Rattle.text_digits.specs.Digits.{value_of, bytes_in}
use Rattle.text_input.specs.Input.{lines, most_storage, ready, readonly, storage, bytes_of, wrong_from, wrong_line, chain_in, exercise_in}
use Rattle.text_input.proofs.Values.{length_value, number_bounded}
use Rattle.text_input.proofs.Reading.{decoded_length}
use Rattle.text_input.proofs.Rights.{storage_line, right_number, hex_is}

value_below : (c : ℕ) → value_of c < 16
unfolding value_of
value_below c = pick_ind (λ (n : ℕ). n < 16) _ _ _ (λ _. omega arith) (λ _. omega arith)

decoded_bytes : (text : List ℕ) → AreBytes (bytes_in text)
unfolding bytes_in
decoded_bytes [] = bytes_nil
decoded_bytes (c ∷ []) = bytes_nil
decoded_bytes (h ∷ l ∷ text) = bytes_cons (value_of h * 16 + value_of l) (bytes_in text) (omega (arith, value_below h, value_below l)) (decoded_bytes text)

chain_are_bytes : (ls : List (List ℕ)) → AreBytes (chain_in ls)
unfolding chain_in bytes_of
chain_are_bytes [] = bytes_nil
chain_are_bytes (l ∷ ls) = bytes_append _ (chain_in ls) (decoded_bytes _) (chain_are_bytes ls)

pub chain_bytes : (input : List ℕ) → AreBytes (exercise_in (lines input)).chain
unfolding exercise_in
chain_bytes input = chain_are_bytes (drop 4 (lines input))

pub storage_bytes : (input : List ℕ) → AreBytes (exercise_in (lines input)).storage
unfolding exercise_in bytes_of
storage_bytes input = decoded_bytes _

pub storage_few : (input : List ℕ) → wrong_line input ≡ 0 → length (exercise_in (lines input)).storage ≤ most_storage
unfolding exercise_in bytes_of
storage_few input e =
    let l : List ℕ = get_or (lines input) 3 [] in
    let is = hex_is storage l (storage_line input e) in
    rw decoded_length (omega (arith, is, length_value storage.key l (omega (arith, is))))

pub settings_few : (input : List ℕ) → ((exercise_in (lines input)).settings.ready < 256) × ((exercise_in (lines input)).settings.readonly < 256)
unfolding exercise_in
settings_few input =
    let yes-ready = number_bounded ready.key (get_or (lines input) 1 []) 0 1 (omega arith) in
    let yes-only = number_bounded readonly.key (get_or (lines input) 2 []) 0 1 (omega arith) in
    (omega (arith, yes-ready), omega (arith, yes-only))

-- the number of a wrong line

wrong_number : (n : ℕ) (ls : List (List ℕ)) → n ≤ 37 → wrong_from n ls ≤ 37
unfolding wrong_from
wrong_number n [] h = pick_ind (λ (m : ℕ). m ≤ 37) _ _ _ (λ _. omega arith) (λ _. h)
wrong_number n (l ∷ ls) h = pick_ind (λ (m : ℕ). m ≤ 37) _ _ _ (λ e. wrong_number (n + 1) ls (omega (arith, right_number n l e))) (λ _. h)

pub wrong_few : (input : List ℕ) → wrong_line input ≤ 37
unfolding wrong_line
wrong_few input = wrong_number 1 (lines input) (omega arith)
