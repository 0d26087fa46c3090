-- The causes of a call from C that go by lengths, 1 to 6: they are tested first, and where none holds there are 290 bytes of record to look at the map in.
-- Assumes nothing.
use Rattle.std.specs.Prelude.{ℕ, List, ◌++◌}
use Rattle.model.specs.declared.device.Device.{Device}
use Rattle.model.specs.Rules.{Rule}
use Rattle.model.specs.Causes.{lent_causes, record_causes}

abbrev pub sized_causes : Device → List ℕ → List ℕ → List ℕ → List ℕ → List ℕ → List Rule
sized_causes dev chain main store unit answers = lent_causes dev chain main store answers ++ record_causes unit
