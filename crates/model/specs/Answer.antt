-- The answers to one command (01, What is lent: Answers; 02, ask 2), and whether the chain goes on after it.
--     unit_status, channel_status  the two statuses, by how the command ended; channel_by   with the length right or wrong
--     wrong_length                 the sum of the counts is not what the command can move
--     residual, filled             what is left of the count of the last piece reached, and the pieces reached before it
--     answer_of, answer_size       the bytes of that piece's answer, and how many they are
--     answers_of, answered         the answers of all pieces reached, and how many they are
--     goes_on                      the chain goes on after it
-- Assumes nothing.
use Rattle.std.specs.Prelude.{ℕ, ◌+◌, ◌*◌, Bool, true, false, not, ◌&&◌, List, [], ◌∷◌, ◌++◌}
use Rattle.numbers.specs.Big.{bytes2}
use Rattle.model.specs.declared.kind.Kind.{Kind}
use Rattle.model.specs.declared.kind.Kind.TheVariants.{Accepted, ProgramCheck, UnitCheck}
use Rattle.model.specs.State.{Done}
use Rattle.model.specs.Names.{NO_OPERATION, chain_command, suppress_length, ENDED, UNIT_CHECKED, PROGRAM_CHECK, INCORRECT_LENGTH}
use Rattle.numbers.specs.Choice.{◌=?◌}
use Rattle.slices.specs.Parts.{zeros}
use Rattle.model.specs.Lent.{flag}
use Rattle.model.specs.Pieces.{Command, total, final, spread}
use Rattle.model.specs.Causes.{kind_of}

abbrev pub unit_status : Kind → ℕ
unit_status Accepted = ENDED
unit_status ProgramCheck = 0
unit_status UnitCheck = UNIT_CHECKED

-- "40 (incorrect length) if flag 20 is off and the count differs from the bytes the command can move"
unfoldable pub wrong_length : Command → ℕ → Bool
wrong_length c can = not (c.command =? NO_OPERATION) && not (flag (final c) suppress_length) && not (total c =? can)

abbrev pub channel_by : Kind → Bool → ℕ
channel_by Accepted true = INCORRECT_LENGTH
channel_by Accepted false = 0
channel_by ProgramCheck wrong = PROGRAM_CHECK
channel_by UnitCheck wrong = 0

unfoldable pub channel_status : Command → Done → ℕ
channel_status c d = channel_by (kind_of d.cause) (wrong_length c d.can)

-- "Residual is count minus bytes moved", of each piece its own
unfoldable pub residual : Command → Done → ℕ
residual c d = (spread c.first c.later d.moved).residual

unfoldable pub filled : Command → Done → ℕ
filled c d = (spread c.first c.later d.moved).filled

-- unit status, channel status, residual count (2), cause, zero, blocks moved (2); where each stands has a name (Names)
abbrev pub answer_size : ℕ
answer_size = 8

unfoldable pub answer_of : Command → Done → List ℕ
answer_of c d = (unit_status (kind_of d.cause) ∷ channel_status c d ∷ []) ++ bytes2 (residual c d) ++ (d.cause ∷ 0 ∷ []) ++ bytes2 d.blocks

-- "Each reached piece in turn has an answer .. statuses, cause and blocks moved stand in the last one reached, and earlier ones show
-- zero there"; so does their residual, for they are filled
unfoldable pub answers_of : Command → Done → List ℕ
answers_of c d = zeros (filled c d * answer_size) ++ answer_of c d

unfoldable pub answered : Command → Done → ℕ
answered c d = filled c d + 1

-- "A refusal ends the chain", "40 ends the chain", and so does a last piece without flag 40
unfoldable pub goes_on : Command → Done → Bool
goes_on c d = d.cause =? 0 && channel_status c d =? 0 && flag (final c) chain_command
