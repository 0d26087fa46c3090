-- How an input is read, line by line, for the functions that do it. Assumes nothing.
--     ends_line    a character ends a line
--     line_length  the bytes of the first line: up to the first line feed, with it; all of them where there is none
--     held         the bytes that a line holds in hexadecimal, after a key of that length and before its line feed
--     format       a field of the code, as the format has it
--     Tells        the code has an Option where the format has a number, of which one stands for none
--     ReadTo       bytes go to the front of `to`, where they fit and which then is `back`; n is their number
use Rattle.std.specs.Prelude.{ℕ, suc, ◌+◌, ◌-◌, ◌/◌, ◌≤◌, ◌≡◌, ◌≢◌, Bool, List, [], ◌∷◌, length, Option, MatchOption}
use Rattle.slices.specs.Parts.{put}
use Rattle.numbers.specs.Choice.{◌=?◌, pick}
use Rattle.text_output.specs.Printout.{line_feed}
use Rattle.text_input.specs.declared.Field.{Field as Coded}
use Rattle.text_input.specs.Input.{Field, field}

abbrev pub ends_line : ℕ → Bool
ends_line c = c =? line_feed

unfoldable pub line_length : List ℕ → ℕ
line_length [] = 0
line_length (c ∷ input) = pick (ends_line c) 1 (suc (line_length input))

abbrev pub held : List ℕ → ℕ → ℕ
held line key = (length line - (key + 1)) / 2

abbrev pub format : Coded → Field
format f = field f.key.now f.least f.most

abbrev pub Tells : ℕ → Option ℕ → ℕ → Type 0
Tells none r n = MatchOption r (n ≡ none) (λ m. (m ≡ n) × (n ≢ none))

pub record ReadTo (to bytes : List ℕ) (n : ℕ) (back : List ℕ) : Type 0 where
  pub count : n ≡ length bytes
  pub fits : n ≤ length to
  pub front : back ≡ put to 0 bytes
