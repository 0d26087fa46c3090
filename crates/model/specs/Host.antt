-- The call as C makes it: the unit record comes and goes as bytes, and the result is one number.
--     host_call_of  refused as a whole by 1 to 6 or 8, or the call
--     result_of     "256 times the cause plus" the commands reached
--     set_up        the bytes of a new unit's record, where there are 290 of them
-- Assumes nothing.
use Rattle.std.specs.Prelude.{ℕ, ◌+◌, ◌*◌, List, length}
use Rattle.model.specs.declared.device.Device.{Device}
use Rattle.numbers.specs.Choice.{◌=?◌, pick}
use Rattle.model.specs.Rules.{first_of}
use Rattle.model.specs.Lent.{record_size, record_bytes, record_of, map_of, new_record, new_map}
use Rattle.model.specs.Causes.{host_causes}
use Rattle.model.specs.Chain.{Called, call_of, class_a}

-- the result, and every byte that was lent to be written, afterwards
pub record Hosted : Type 0 where
  pub result : ℕ
  pub main : List ℕ
  pub store : List ℕ
  pub unit : List ℕ
  pub answers : List ℕ

unfoldable pub result_of : ℕ → ℕ → ℕ
result_of cause reached = 256 * cause + reached

abbrev pub hosted : Called → Hosted
hosted r = record { result = result_of r.cause r.reached; main = r.main; store = r.store; unit = record_bytes r.unit r.map; answers = r.answers }

unfoldable pub host_call_of : Device → List ℕ → List ℕ → List ℕ → List ℕ → List ℕ → Hosted
host_call_of dev chain main store unit answers =
    let cause = first_of (host_causes dev chain main store unit answers) in
    pick (cause =? 0) (hosted (call_of dev chain main store (record_of unit) (map_of unit) answers))
    (record { result = result_of cause 0; main = main; store = store; unit = unit; answers = answers })

abbrev pub host_call : ℕ → List ℕ → List ℕ → List ℕ → List ℕ → List ℕ → Hosted
host_call alternates = host_call_of (class_a alternates)

-- the other call: a record is set up, or left as it is with cause 6
pub record SetUp : Type 0 where
  pub result : ℕ
  pub unit : List ℕ

unfoldable pub set_up : List ℕ → ℕ → ℕ → SetUp
set_up unit ready read_only =
    pick (length unit =? record_size) (record { result = result_of 0 0; unit = record_bytes (new_record ready read_only) new_map })
    (record { result = result_of 6 0; unit = unit })
