-- The sense bytes of each cause (01, Causes; 002, 5.1 to 5.3). docs/SENSE.md says why each is what it is.
--     sense_table   bytes 0, 1 and 7 of each unit check: one table
--     shown         the parameters that a cause shows
--     sense_of      the 24 bytes of a refusal that shows these
-- Assumes nothing.
use Rattle.std.specs.Prelude.{ℕ, List, [], ◌∷◌}
use Rattle.slices.specs.Parts.{zeros, put}
use Rattle.model.specs.Names.{format_message_at, parameters_at, sense_size}
use Rattle.numbers.specs.Choice.{◌=?◌, pick}
use Rattle.model.specs.Parameters.{locate_length}

pub record CauseRow : Type 0 where
  pub cause : ℕ
  pub byte0 : ℕ
  pub byte1 : ℕ
  pub byte7 : ℕ

abbrev row : ℕ → ℕ → ℕ → ℕ → CauseRow
row cause byte0 byte1 byte7 = record { cause = cause; byte0 = byte0; byte1 = byte1; byte7 = byte7 }

-- cause, byte 0, byte 1, byte 7 (format and message). 002 overrules 01 at 37 (5.1) and at 39 (5.1, 5.2)
abbrev pub sense_table : List CauseRow
sense_table =
    row 20 0x80 0x00 0x03
    ∷ row 21 0x80 0x00 0x02
    ∷ row 22 0x80 0x00 0x04
    ∷ row 23 0x80 0x00 0x04
    ∷ row 24 0x80 0x40 0x04
    ∷ row 25 0x80 0x00 0x04
    ∷ row 26 0x80 0x00 0x04
    ∷ row 30 0x80 0x00 0x02
    ∷ row 31 0x80 0x00 0x03
    ∷ row 32 0x80 0x00 0x04
    ∷ row 33 0x80 0x00 0x04
    ∷ row 34 0x80 0x00 0x04
    ∷ row 35 0x80 0x00 0x04
    ∷ row 36 0x80 0x04 0x04
    ∷ row 37 0x80 0x00 0x04
    ∷ row 38 0x80 0x02 0x00
    ∷ row 39 0x80 0x01 0x0C
    ∷ row 40 0x80 0x00 0x02
    ∷ row 41 0x80 0x00 0x02
    ∷ row 42 0x80 0x00 0x02
    ∷ row 43 0x80 0x00 0x01
    ∷ row 44 0x40 0x00 0x10
    ∷ []

-- the row of a cause; zeros for a cause that has none
unfoldable pub row_in : List CauseRow → ℕ → CauseRow
row_in [] cause = row cause 0 0 0
row_in (r ∷ rs) cause = pick (r.cause =? cause) r (row_in rs cause)

-- 002, 5.2: the LOCATE's eight bytes with 39, and with no other cause
unfoldable pub shown : ℕ → List ℕ → List ℕ
shown cause parameters = pick (cause =? 39) parameters (zeros locate_length)

-- Bytes 0, 1 and 7 by the table; 8-15 what the cause shows; all others zero
unfoldable pub sense_of : ℕ → List ℕ → List ℕ
sense_of cause parameters =
    let r = row_in sense_table cause in
    let headed = put (put (zeros sense_size) 0 (r.byte0 ∷ r.byte1 ∷ [])) format_message_at (r.byte7 ∷ []) in
    put headed parameters_at parameters
