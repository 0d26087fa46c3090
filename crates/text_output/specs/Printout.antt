-- What is printed (01, Each side of the lines: "Output, whole").
--     line            a key, its value and a line feed
--     refused_line    of an input with a wrong line: that line's number, and nothing else
--     status_lines    of a command: "its number, both statuses (hex)"
--     count_lines     of a command: "residual, cause, blocks moved"
--     command_lines   of each command reached, in order; an output line more for each command has its place in one of the two above
--     printout        of a call, whole: "the call's cause and commands reached", those of its commands, "then main storage and sense"
-- Assumes nothing.
use Rattle.std.specs.Prelude.{ℕ, zero, suc, ◌+◌, ◌*◌, List, [], ◌∷◌, ◌++◌, get_or}
use Rattle.numbers.specs.Big.{be2}
use Rattle.model.specs.Answer.{answer_size}
use Rattle.model.specs.Names.{channel_status_at, residual_at, cause_at, blocks_at}
use Rattle.model.specs.Chain.{Called}
use Rattle.text_digits.specs.Digits.{ascii, decimal, hex}

abbrev pub line_feed : ℕ
line_feed = 0x0A

unfoldable pub line : List ℕ → List ℕ → List ℕ
line key value = key ++ value ++ (line_feed ∷ [])

abbrev pub refused_line : ℕ → List ℕ
refused_line n = line (ascii "refused=") (decimal n)

-- the answers hold unit status, channel status, residual count (2), cause, zero, blocks moved (2) of each command

unfoldable pub status_lines : List ℕ → ℕ → List ℕ
status_lines answers i =
    let at = i * answer_size in
    line (ascii "command=") (decimal (i + 1))
    ++ line (ascii "status=") (hex (get_or answers at 0 ∷ []))
    ++ line (ascii "channel=") (hex (get_or answers (at + channel_status_at) 0 ∷ []))

unfoldable pub count_lines : List ℕ → ℕ → List ℕ
count_lines answers i =
    let at = i * answer_size in
    line (ascii "residual=") (decimal (be2 answers (at + residual_at)))
    ++ line (ascii "why=") (decimal (get_or answers (at + cause_at) 0))
    ++ line (ascii "blocks=") (decimal (be2 answers (at + blocks_at)))

unfoldable pub command_lines : List ℕ → ℕ → List ℕ
command_lines answers zero = []
command_lines answers (suc n) = command_lines answers n ++ status_lines answers n ++ count_lines answers n

unfoldable pub printout_of : ℕ → ℕ → List ℕ → List ℕ → List ℕ → List ℕ
printout_of cause reached answers main sense =
    line (ascii "cause=") (decimal cause)
    ++ line (ascii "reached=") (decimal reached)
    ++ command_lines answers reached
    ++ line (ascii "storage=") (hex main)
    ++ line (ascii "sense=") (hex sense)

abbrev pub printout : Called → List ℕ
printout c = printout_of c.cause c.reached c.answers c.main c.unit.sense
