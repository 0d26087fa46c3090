-- How the code's commands that send bytes of the unit end.
--     sent_end   one that can move so many bytes, and leaves these counts
-- Assumes nothing.
use Rattle.std.specs.Prelude.{ℕ, min}
use Rattle.model.specs.declared.decoded.Decoded.{Decoded}
use Rattle.model.specs.declared.record.Counts.{Counts}
use Rattle.model.specs.declared.state.Before.TheVariants.{Other}
use Rattle.unit_state.specs.declared.Running.{Running}
use Rattle.unit_state.specs.Standing.{went_on}
use Rattle.endings.specs.declared.Ended.{Ended}
use Rattle.endings.specs.Ending.{accepted_end}

abbrev pub sent_end : Decoded → Running → ℕ → Counts → Ended
sent_end c s can k = accepted_end c (went_on s k Other) (min c.count can) can 0
