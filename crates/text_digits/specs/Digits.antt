-- Text as bytes, and numbers and bytes as text (01, Each side of the lines: "Decimal has no leading zero, hex is upper case").
--     ascii       the bytes of a text that is written out here
--     digit       the character of a digit: 0 to 9, then A to F
--     decimal     a number in decimal
--     six_digits  the least number with more than five
--     hex         bytes in hexadecimal, two digits each
--     value_of    the digit that a character stands for; of a character that is no digit, some digit
--     is_digit    a character stands for a digit exactly where it is that digit's character
--     is_hex      bytes could be written so: an even number of digits, and nothing else
--     bytes_in    the bytes that were written so
--     same        two lists of bytes are equal
-- Assumes nothing.
use Rattle.std.specs.Prelude.{ℕ, zero, suc, ◌+◌, ◌*◌, ◌/◌, ◌%◌, Bool, true, false, ◌&&◌, List, [], ◌∷◌, ◌++◌, length}
use Prim.Native.Char.{code}
use Prim.Native.String.{String, [] as empty, ◌∷◌ as ◌then◌}
use Rattle.numbers.specs.Choice.{◌<?◌, ◌=?◌, pick}

abbrev pub ascii : String → List ℕ
ascii empty = []
ascii (c then s) = code c ∷ ascii s

unfoldable pub digit : ℕ → ℕ
digit n = pick (n <? 10) (48 + n) (55 + n)

-- no more digits are there than the number has units: `fuel` is the number itself
unfoldable pub decimal_of : ℕ → ℕ → List ℕ
decimal_of zero n = digit n ∷ []
decimal_of (suc fuel) n = pick (n <? 10) (digit n ∷ []) (decimal_of fuel (n / 10) ++ (digit (n % 10) ∷ []))

unfoldable pub decimal : ℕ → List ℕ
decimal n = decimal_of n n

abbrev pub six_digits : ℕ
six_digits = 100000

unfoldable pub hex : List ℕ → List ℕ
hex [] = []
hex (b ∷ bytes) = digit (b / 16) ∷ digit (b % 16) ∷ hex bytes

-- 30 to 39 are 0 to 9, and 41 to 46 are A to F
unfoldable pub value_of : ℕ → ℕ
value_of c = pick (c <? 65) (c % 16) ((c % 16 + 9) % 16)

unfoldable pub is_digit : ℕ → Bool
is_digit c = digit (value_of c) =? c

unfoldable pub all_digits : List ℕ → Bool
all_digits [] = true
all_digits (c ∷ text) = is_digit c && all_digits text

unfoldable pub is_hex : List ℕ → Bool
is_hex text = length text % 2 =? 0 && all_digits text

unfoldable pub bytes_in : List ℕ → List ℕ
bytes_in [] = []
bytes_in (_ ∷ []) = []
bytes_in (h ∷ l ∷ text) = (value_of h * 16 + value_of l) ∷ bytes_in text

unfoldable pub same : List ℕ → List ℕ → Bool
same [] [] = true
same [] (_ ∷ _) = false
same (_ ∷ _) [] = false
same (a ∷ l) (b ∷ m) = a =? b && same l m
