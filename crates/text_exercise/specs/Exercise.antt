-- The program `exercise` as a function of its input (01, Each side of the lines).
--     device      its blocks are of 512 bytes, and it has no alternates
--     new_store   "Block i starts filled with byte i"
--     most_store  the bytes of the largest store
--     new_unit    the record of the unit, as the settings have it
--     exercised   the call that an exercise asks for, on a new unit; its answers start as zeros
--     exercise    what is printed, for every input
-- Assumes nothing.
use Rattle.std.specs.Prelude.{ℕ, zero, suc, ◌*◌, List, [], ◌++◌, length, replicate}
use Rattle.slices.specs.Parts.{zeros}
use Rattle.numbers.specs.Choice.{◌=?◌, pick}
use Rattle.model.specs.declared.device.Device.{Device}
use Rattle.model.specs.declared.record.UnitRecord.{UnitRecord}
use Rattle.model.specs.Lent.{new_record, new_map}
use Rattle.model.specs.Chain.{Called, call_of, class_a}
use Rattle.text_input.specs.declared.Settings.{Settings}
use Rattle.text_input.specs.Input.{most_blocks, lines, wrong_line, Exercise, exercise_in}
use Rattle.text_output.specs.Printout.{refused_line, printout}

abbrev pub device : Device
device = class_a 0

unfoldable pub new_store : ℕ → List ℕ
new_store zero = []
new_store (suc n) = new_store n ++ replicate device.block n

abbrev pub most_store : ℕ
most_store = most_blocks * device.block

abbrev pub new_unit : Settings → UnitRecord
new_unit s = record { unit = new_record s.ready s.readonly; map = new_map }

unfoldable pub exercised : Exercise → Called
exercised e =
    let s = e.settings in
    let u = new_unit s in
    call_of device e.chain e.storage (new_store s.blocks) u.unit u.map (zeros (length e.chain))

unfoldable pub exercise : List ℕ → List ℕ
exercise input =
    let wrong = wrong_line input in
    pick (wrong =? 0) (printout (exercised (exercise_in (lines input)))) (refused_line wrong)
