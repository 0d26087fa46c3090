-- How long a printout is at most. No contract cites this file.
--     Within        a text has no more than n bytes
--     most_printed  the bytes of the longest printout
use Prim.Native.Nat.{ℕ, zero, suc, ◌+◌, ◌*◌, ◌≤◌, ◌<◌}
use native.Mathlib.Omega.{arith}
use mathlib.Core.Path.{◌≡◌, refl}
use mathlib.Core.List.{List, [], ◌∷◌, ◌++◌}
use lib.ListN.{length, length-append}
use Rattle.numbers.specs.Bytes.{AreBytes}
use Rattle.numbers.specs.Big.{be2}
use Rattle.numbers.proofs.Bytes.{byte_at}
use Rattle.model.specs.Answer.{answer_size}
use Rattle.model.specs.Names.{residual_at, cause_at, blocks_at}
use Rattle.text_digits.specs.Digits.{ascii, decimal, six_digits, hex}
use Rattle.text_digits.proofs.Numbers.{decimal_short}
use Rattle.text_output.specs.Printout.{line, refused_line, status_lines, count_lines, command_lines, printout_of}

pub record Within (text : List ℕ) (n : ℕ) : Type 0 where
  pub is : length text ≤ n

infixl 20 ◌with◌
◌with◌ : {a b : List ℕ} {i j : ℕ} → Within a i → Within b j → Within (a ++ b) (i + j)
◌with◌ {a} {b} p q = record { is = rw (length-append a b) (omega (arith, p.is, q.is)) }

line_within : (key value : List ℕ) (n : ℕ) → length value ≤ n → Within (line key value) (length key + n + 1)
unfolding line
line_within key value n h = record { is = rw (length-append, length-append) (omega arith) }

number_within : (key : List ℕ) (n : ℕ) → n < six_digits → Within (line key (decimal n)) (length key + 5 + 1)
number_within key n h = line_within key (decimal n) 5 (decimal_short n h)

hex_length : (bytes : List ℕ) → length (hex bytes) ≡ length bytes + length bytes
unfolding hex
hex_length [] = refl
hex_length (b ∷ bytes) = omega (arith, hex_length bytes)

bytes_within : (key bytes : List ℕ) (n : ℕ) → length bytes ≤ n → Within (line key (hex bytes)) (length key + (n + n) + 1)
bytes_within key bytes n h = line_within key (hex bytes) (n + n) (rw hex_length (omega arith))

status_within : (answers : List ℕ) (i : ℕ) → i < 32 → Within (status_lines answers i) 35
unfolding status_lines
status_within answers i h =
    number_within (ascii "command=") (i + 1) (omega arith)
    with bytes_within (ascii "status=") _ 1 (omega arith)
    with bytes_within (ascii "channel=") _ 1 (omega arith)

be2_below : (l : List ℕ) (at : ℕ) → AreBytes l → be2 l at < six_digits
be2_below l at b = omega (arith, byte_at l at b, byte_at l (at + 1) b)

count_within : (answers : List ℕ) (i : ℕ) → AreBytes answers → Within (count_lines answers i) 38
unfolding count_lines
count_within answers i b =
    let at : ℕ = i * answer_size in
    number_within (ascii "residual=") _ (be2_below answers (at + residual_at) b)
    with number_within (ascii "why=") _ (omega (arith, byte_at answers (at + cause_at) b))
    with number_within (ascii "blocks=") _ (be2_below answers (at + blocks_at) b)

commands_within : (answers : List ℕ) (n : ℕ) → n ≤ 32 → AreBytes answers → Within (command_lines answers n) (n * 73)
unfolding command_lines
commands_within answers zero h b = record { is = omega arith }
commands_within answers (suc n) h b =
    let more = commands_within answers n (omega arith) b with status_within answers n (omega arith) with count_within answers n b in
    record { is = omega (arith, more.is) }

abbrev pub most_printed : ℕ
most_printed = 4474

pub printout_within : (cause reached : ℕ) (answers main sense : List ℕ) → cause < six_digits → reached ≤ 32 → AreBytes answers → length main ≤ 1024 → length sense ≡ 24
    → length (printout_of cause reached answers main sense) ≤ most_printed
unfolding printout_of
printout_within cause reached answers main sense c r b m s =
    let whole =
    number_within (ascii "cause=") cause c
    with number_within (ascii "reached=") reached (omega arith)
    with commands_within answers reached r b
    with bytes_within (ascii "storage=") main 1024 m
    with bytes_within (ascii "sense=") sense 24 (omega arith)
    in
    omega (arith, whole.is, r)

pub refused_within : (n : ℕ) → n < six_digits → length (refused_line n) ≤ 14
refused_within n h = (number_within (ascii "refused=") n h).is
