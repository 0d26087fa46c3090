-- Document 01's own input and output, byte for byte, and the corners of the format; antt computes each from the definition.
--     worked       each input in one table, with what is printed for it
--     ccws_limit   both sides of the number of ccw lines
-- Assumes nothing.
use Prim.Native.Nat.{ℕ, zero, suc}
use Prim.Native.String.{String}
use mathlib.Core.Path.{◌≡◌, refl}
use mathlib.Core.List.{List, [], ◌∷◌, ◌++◌, map}
use Rattle.model.proofs.Opened.{opened}
use Rattle.text_digits.specs.Digits.{ascii, digit, decimal_of, decimal, hex, value_of, is_digit, all_digits, is_hex, bytes_in, same}
use Rattle.text_output.specs.Printout.{line, status_lines, count_lines, command_lines, printout_of}
use Rattle.text_input.specs.Input.{lines, keyed, value, number_in, number_of, bytes_of, hex_line, right_line, wrong_from, wrong_line, chain_in, exercise_in}
use Rattle.text_exercise.specs.Exercise.{new_store, exercised, exercise}

pub record Example : Type 0 where
  pub input : String
  pub printed : String

abbrev gives : String → String → Example
gives input printed = record { input = input; printed = printed }

abbrev pub examples : List Example
examples =
    gives
    "blocks=8\nready=1\nreadonly=0\nstorage=C0000000000000020000000000000003\nccw=6300000040000010\nccw=0300000020000001\n"
    "cause=0\nreached=2\ncommand=1\nstatus=0C\nchannel=00\nresidual=0\nwhy=0\nblocks=0\ncommand=2\nstatus=0C\nchannel=00\nresidual=1\nwhy=0\nblocks=0\nstorage=C0000000000000020000000000000003\nsense=000000000000000000000000000000000000000000000000\n"
    -- every CCW with flag 40, and no storage
    ∷ gives "blocks=1\nready=0\nreadonly=1\nstorage=\nccw=0300000040000001\n" "cause=5\nreached=0\nstorage=\nsense=000000000000000000000000000000000000000000000000\n"
    -- nothing, a leading zero, one block too many, a carriage return, no line feed
    ∷ gives "" "refused=1\n"
    ∷ gives "blocks=08\nready=1\n" "refused=1\n"
    ∷ gives "blocks=65\nready=1\n" "refused=1\n"
    ∷ gives "blocks=8\r\nready=1\n" "refused=1\n"
    ∷ gives "blocks=8" "refused=1\n"
    -- a missing line, keys in another order
    ∷ gives "blocks=8\n" "refused=2\n"
    ∷ gives "blocks=8\nreadonly=0\nready=1\n" "refused=2\n"
    -- lower case, an odd number of digits
    ∷ gives "blocks=8\nready=1\nreadonly=0\nstorage=c0\nccw=0300000020000001\n" "refused=4\n"
    ∷ gives "blocks=8\nready=1\nreadonly=0\nstorage=C00\nccw=0300000020000001\n" "refused=4\n"
    -- no ccw; something after the last
    ∷ gives "blocks=8\nready=1\nreadonly=0\nstorage=\n" "refused=5\n"
    ∷ gives "blocks=8\nready=1\nreadonly=0\nstorage=\nccw=0300000020000001\n\n" "refused=6\n"
    -- a data set is written and read back (exercises/02-data-set.md); it is moved; its LOCATE is for one block
    ∷ gives
    "blocks=8\nready=1\nreadonly=0\nstorage=C0000000000000020000000A0000000B010000020000000A060000010000000A060000010000000B4C4F554748524541FFFFFFFFFFFFFFFFFFFFFFFFFFFFFFFF\nccw=6300000040000010\nccw=4300001040000008\nccw=4100002860000008\nccw=4300001840000008\nccw=4200003060000008\nccw=4300002040000008\nccw=4200003820000008\n"
    "cause=0\nreached=7\ncommand=1\nstatus=0C\nchannel=00\nresidual=0\nwhy=0\nblocks=0\ncommand=2\nstatus=0C\nchannel=00\nresidual=0\nwhy=0\nblocks=0\ncommand=3\nstatus=0C\nchannel=00\nresidual=0\nwhy=0\nblocks=1\ncommand=4\nstatus=0C\nchannel=00\nresidual=0\nwhy=0\nblocks=0\ncommand=5\nstatus=0C\nchannel=00\nresidual=0\nwhy=0\nblocks=1\ncommand=6\nstatus=0C\nchannel=00\nresidual=0\nwhy=0\nblocks=0\ncommand=7\nstatus=0C\nchannel=00\nresidual=0\nwhy=0\nblocks=1\nstorage=C0000000000000020000000A0000000B010000020000000A060000010000000A060000010000000B4C4F5547485245414C4F5547485245410000000000000000\nsense=000000000000000000000000000000000000000000000000\n"
    ∷ gives
    "blocks=8\nready=1\nreadonly=0\nstorage=C0000000000000050000000A0000000B010000020000000A060000010000000A060000010000000B4C4F554748524541FFFFFFFFFFFFFFFFFFFFFFFFFFFFFFFF\nccw=6300000040000010\nccw=4300001040000008\nccw=4100002860000008\nccw=4300001840000008\nccw=4200003060000008\nccw=4300002040000008\nccw=4200003820000008\n"
    "cause=0\nreached=7\ncommand=1\nstatus=0C\nchannel=00\nresidual=0\nwhy=0\nblocks=0\ncommand=2\nstatus=0C\nchannel=00\nresidual=0\nwhy=0\nblocks=0\ncommand=3\nstatus=0C\nchannel=00\nresidual=0\nwhy=0\nblocks=1\ncommand=4\nstatus=0C\nchannel=00\nresidual=0\nwhy=0\nblocks=0\ncommand=5\nstatus=0C\nchannel=00\nresidual=0\nwhy=0\nblocks=1\ncommand=6\nstatus=0C\nchannel=00\nresidual=0\nwhy=0\nblocks=0\ncommand=7\nstatus=0C\nchannel=00\nresidual=0\nwhy=0\nblocks=1\nstorage=C0000000000000050000000A0000000B010000020000000A060000010000000A060000010000000B4C4F5547485245414C4F5547485245410000000000000000\nsense=000000000000000000000000000000000000000000000000\n"
    ∷ gives
    "blocks=8\nready=1\nreadonly=0\nstorage=C0000000000000020000000A0000000B010000010000000A060000010000000A060000010000000B4C4F554748524541FFFFFFFFFFFFFFFFFFFFFFFFFFFFFFFF\nccw=6300000040000010\nccw=4300001040000008\nccw=4100002860000008\nccw=4300001840000008\nccw=4200003060000008\nccw=4300002040000008\nccw=4200003820000008\n"
    "cause=0\nreached=7\ncommand=1\nstatus=0C\nchannel=00\nresidual=0\nwhy=0\nblocks=0\ncommand=2\nstatus=0C\nchannel=00\nresidual=0\nwhy=0\nblocks=0\ncommand=3\nstatus=0C\nchannel=00\nresidual=0\nwhy=0\nblocks=1\ncommand=4\nstatus=0C\nchannel=00\nresidual=0\nwhy=0\nblocks=0\ncommand=5\nstatus=0C\nchannel=00\nresidual=0\nwhy=0\nblocks=1\ncommand=6\nstatus=0C\nchannel=00\nresidual=0\nwhy=0\nblocks=0\ncommand=7\nstatus=0C\nchannel=00\nresidual=0\nwhy=0\nblocks=1\nstorage=C0000000000000020000000A0000000B010000010000000A060000010000000A060000010000000B4C4F5547485245414C4F5547485245410303030303030303\nsense=000000000000000000000000000000000000000000000000\n"
    ∷ []

pub worked : map (λ (e : Example). exercise (ascii e.input)) examples ≡ map (λ (e : Example). ascii e.printed) examples
unfolding opened digit decimal_of decimal hex value_of is_digit all_digits is_hex bytes_in same line status_lines count_lines command_lines printout_of lines keyed value number_in number_of bytes_of hex_line right_line wrong_from wrong_line chain_in exercise_in new_store exercised exercise
worked = refl

-- 32 ccws are taken, and a 33rd is refused at its line
abbrev pub ccws : ℕ → List ℕ
ccws zero = []
ccws (suc n) = ascii "ccw=0300000020000001\n" ++ ccws n

pub ccws_limit : (wrong_line (ascii "blocks=8\nready=1\nreadonly=0\nstorage=\n" ++ ccws 32) ≡ 0)
    × (wrong_line (ascii "blocks=8\nready=1\nreadonly=0\nstorage=\n" ++ ccws 33) ≡ 37)
unfolding opened digit decimal_of decimal value_of is_digit all_digits is_hex same lines keyed value number_in number_of hex_line right_line wrong_from wrong_line
ccws_limit = (refl, refl)
