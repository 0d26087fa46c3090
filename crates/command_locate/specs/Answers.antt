-- What the code answers to the parameters of a LOCATE.
--     located_by        the command by its eight bytes: refused, or accepted with what they locate
--     map_left          the map that it leaves: if it is refused, the one that it found
-- Assumes nothing.
use Rattle.std.specs.Prelude.{ℕ, List}
use Rattle.numbers.specs.Choice.{◌=?◌, pick}
use Rattle.model.specs.declared.decoded.Decoded.{Decoded}
use Rattle.model.specs.declared.device.Device.{Device}
use Rattle.model.specs.declared.record.UnitRecord.{UnitRecord}
use Rattle.model.specs.Rules.{first_of}
use Rattle.model.specs.Told.{outcome_of}
use Rattle.model.specs.Parameters.{locate_length, located_in}
use Rattle.model.specs.Causes.{location_causes}
use Rattle.model.specs.Commands.{map_after}
use Rattle.model.specs.Sense.{shown}
use Rattle.buffered_log.specs.Counts.{with_movement}
use Rattle.unit_state.specs.declared.Running.{Running}
use Rattle.unit_state.specs.Standing.{with_locate, state_of}
use Rattle.endings.specs.declared.Ended.{Ended}
use Rattle.endings.specs.Ending.{accepted_end, parameters_refused}

unfoldable pub located_by : Device → UnitRecord → Decoded → Running → List ℕ → Ended
located_by dev u c s p =
    let cause = first_of (location_causes dev (state_of u s) p) in
    pick (cause =? 0) (accepted_end c (with_locate s (with_movement s.counts) (located_in p)) locate_length locate_length 0) (parameters_refused s (outcome_of cause) locate_length (shown cause p))

unfoldable pub map_left : Device → UnitRecord → Running → List ℕ → List ℕ
map_left dev u s p =
    let cause = first_of (location_causes dev (state_of u s) p) in
    pick (cause =? 0) (map_after dev u.map s.extent (located_in p)) u.map
