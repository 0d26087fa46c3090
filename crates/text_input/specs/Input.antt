-- The input (01, Each side of the lines): "exactly these keys in this order, then 1 to 32 ccw lines, each line ended by a line feed".
--     lines          the input's lines, each with the line feed that ends it; the last may have none, and is then wrong
--     Field          a key, and the least and the most that its value may be; the five fields are the format
--     keyed          a line is a key, a value and a line feed
--     number_of      the number in a line, or one past the most
--     bytes_of       the bytes in a line, of one that is right
--     right_line     line n is what it must be
--     wrong_line     the number of the first wrong or missing line, or 0
--     most_blocks, most_storage, most_chain  the most blocks of a device, bytes of main storage and bytes of a chain
--     exercise_in    what an input with no wrong line says
-- Lines are numbered from 1. Assumes nothing.
use Rattle.std.specs.Prelude.{ℕ, zero, suc, ◌+◌, ◌-◌, ◌*◌, ◌/◌, Bool, false, not, ◌&&◌, List, [], ◌∷◌, ◌++◌, length, get_or, take, drop}
use Rattle.slices.specs.Parts.{part}
use Rattle.numbers.specs.Choice.{◌<?◌, ◌=?◌, pick}
use Rattle.model.specs.Lent.{ccw_size}
use Rattle.text_digits.specs.Digits.{ascii, decimal, is_hex, bytes_in, same}
use Rattle.text_output.specs.Printout.{line_feed}
use Rattle.text_input.specs.declared.Settings.{Settings}

-- lines

abbrev pub onto : ℕ → List (List ℕ) → List (List ℕ)
onto c [] = (c ∷ []) ∷ []
onto c (l ∷ ls) = (c ∷ l) ∷ ls

unfoldable pub lines : List ℕ → List (List ℕ)
lines [] = []
lines (c ∷ input) = pick (c =? line_feed) ((c ∷ []) ∷ lines input) (onto c (lines input))

-- fields: "blocks (1 to 64), ready and readonly (0 or 1), storage (hex, 0 to 1,024 bytes). A ccw value is 16 hex digits."

abbrev pub most_blocks : ℕ
most_blocks = 64

abbrev pub most_storage : ℕ
most_storage = 1024

pub record Field : Type 0 where
  pub key : List ℕ
  pub least : ℕ
  pub most : ℕ

abbrev pub field : List ℕ → ℕ → ℕ → Field
field key least most = record { key = key; least = least; most = most }

abbrev pub blocks : Field
blocks = field (ascii "blocks=") 1 most_blocks

abbrev pub ready : Field
ready = field (ascii "ready=") 0 1

abbrev pub readonly : Field
readonly = field (ascii "readonly=") 0 1

abbrev pub storage : Field
storage = field (ascii "storage=") 0 most_storage

abbrev pub ccw : Field
ccw = field (ascii "ccw=") ccw_size ccw_size

-- values

unfoldable pub keyed : List ℕ → List ℕ → Bool
keyed key l = length key <? length l && get_or l (length l - 1) 0 =? line_feed && same (take (length key) l) key

unfoldable pub value : List ℕ → List ℕ → List ℕ
value key l = part l (length key) (length l - (length key + 1))

-- the first of n numbers, from one on, whose decimal a text is; the number after them where it is none's
unfoldable pub number_in : ℕ → ℕ → List ℕ → ℕ
number_in zero low text = low
number_in (suc n) low text = pick (same text (decimal low)) low (number_in n (low + 1) text)

unfoldable pub number_of : Field → List ℕ → ℕ
number_of f l = pick (keyed f.key l) (number_in (f.most + 1 - f.least) f.least (value f.key l)) (f.most + 1)

abbrev pub number_line : Field → List ℕ → Bool
number_line f l = number_of f l <? f.most + 1

unfoldable pub bytes_of : Field → List ℕ → List ℕ
bytes_of f l = bytes_in (value f.key l)

unfoldable pub hex_line : Field → List ℕ → Bool
hex_line f l =
    let n = length (value f.key l) / 2 in
    keyed f.key l && not (n <? f.least) && not (f.most <? n) && is_hex (value f.key l)

-- the whole input

abbrev pub first_ccw : ℕ
first_ccw = 5

abbrev pub last_ccw : ℕ
last_ccw = 36

abbrev pub most_chain : ℕ
most_chain = (last_ccw + 1 - first_ccw) * ccw_size

unfoldable pub right_line : ℕ → List ℕ → Bool
right_line n l =
    pick (n =? 1) (number_line blocks l)
    (pick (n =? 2) (number_line ready l)
    (pick (n =? 3) (number_line readonly l)
    (pick (n =? 4) (hex_line storage l)
    (pick (last_ccw <? n) false (hex_line ccw l)))))

-- from line n on, these lines being left
unfoldable pub wrong_from : ℕ → List (List ℕ) → ℕ
wrong_from n [] = pick (first_ccw <? n) 0 n
wrong_from n (l ∷ ls) = pick (right_line n l) (wrong_from (n + 1) ls) n

unfoldable pub wrong_line : List ℕ → ℕ
wrong_line input = wrong_from 1 (lines input)

pub record Exercise : Type 0 where
  pub settings : Settings
  pub storage : List ℕ
  pub chain : List ℕ

unfoldable pub chain_in : List (List ℕ) → List ℕ
chain_in [] = []
chain_in (l ∷ ls) = bytes_of ccw l ++ chain_in ls

unfoldable pub exercise_in : List (List ℕ) → Exercise
exercise_in ls = record {
  settings = record { blocks = number_of blocks (get_or ls 0 []); ready = number_of ready (get_or ls 1 []); readonly = number_of readonly (get_or ls 2 []) };
  storage = bytes_of storage (get_or ls 3 []);
  chain = chain_in (drop 4 ls);
}
