-- The sense that a command leaves, as the code carries it.
--     row_of          a row of the definition's table, as the code's has it: its three bytes side by side in one number
--     head_of         bytes 0 to 7, by a row of the table
--     sense_showing   the sense of a cause that shows these parameters
--     no_sense        that of a command that is accepted
--     sense_bytes     its 24 bytes: the definition's, `sense_is` in proofs/Stores.antt
-- Assumes nothing.
use Rattle.std.specs.Prelude.{ℕ, ◌+◌, ◌*◌, List, [], ◌∷◌}
use Rattle.slices.specs.Parts.{zeros, put}
use Rattle.model.specs.Names.{parameters_at, sense_size}
use Rattle.model.specs.Parameters.{locate_length}
use Rattle.model.specs.Sense.{CauseRow, sense_table, row_in}
use Rattle.sense_table.specs.declared.SenseRow.{SenseRow}
use Rattle.sense_table.specs.declared.Sense.{Sense}

abbrev pub row_of : ℕ → SenseRow
row_of cause = let d = row_in sense_table cause in record { 0 = d.byte0 * 65536 + d.byte1 * 256 + d.byte7 }

abbrev pub head_of : CauseRow → List ℕ
head_of r = r.byte0 ∷ r.byte1 ∷ 0 ∷ 0 ∷ 0 ∷ 0 ∷ 0 ∷ r.byte7 ∷ []

unfoldable pub sense_showing : ℕ → List ℕ → Sense
sense_showing cause parameters = record { head = head_of (row_in sense_table cause); parameters = parameters }

abbrev pub no_sense : Sense
no_sense = record { head = zeros parameters_at; parameters = zeros locate_length }

unfoldable pub sense_bytes : Sense → List ℕ
sense_bytes s = put (put (zeros sense_size) 0 s.head) parameters_at s.parameters
