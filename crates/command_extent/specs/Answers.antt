-- What the code answers to the parameters of a DEFINE EXTENT.
--     defined_by       the command by its sixteen bytes, on a device of so many blocks: refused, or accepted with the extent that they say
-- Assumes nothing.
use Rattle.std.specs.Prelude.{ℕ, List}
use Rattle.numbers.specs.Choice.{◌=?◌, pick}
use Rattle.slices.specs.Parts.{zeros}
use Rattle.model.specs.declared.decoded.Decoded.{Decoded}
use Rattle.model.specs.declared.device.Device.{Device}
use Rattle.model.specs.declared.state.Before.TheVariants.{Other}
use Rattle.model.specs.Rules.{first_of}
use Rattle.model.specs.Told.{outcome_of}
use Rattle.model.specs.Parameters.{extent_length, extent_in, locate_length}
use Rattle.model.specs.Causes.{extent_causes}
use Rattle.unit_state.specs.declared.Running.{Running}
use Rattle.unit_state.specs.Standing.{with_extent}
use Rattle.endings.specs.declared.Ended.{Ended}
use Rattle.endings.specs.Ending.{accepted_end, parameters_refused}

unfoldable pub defined_by : Device → ℕ → Decoded → Running → List ℕ → Ended
defined_by dev blocks c s p =
    let cause = first_of (extent_causes dev blocks p) in
    pick (cause =? 0) (accepted_end c (with_extent s s.counts (extent_in p) Other) extent_length extent_length 0) (parameters_refused s (outcome_of cause) extent_length (zeros locate_length))
