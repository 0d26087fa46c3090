-- An alternate is given back (02, ask 6): the tool, as C calls it.
--     brought_home   the store after it: the block's data at its own place, and zeros where it lay
--     give_back_of   refused by 2, 6, 8, 50 or 51, or done, on a device; GivenBack   its result, and what is left of store and record
--     give_back      the same on the device of every call of ours
-- What it makes of the map is `unmapped` in Alternates.antt, its causes are in Causes.antt. It is no command: of the record it looks at
-- the map alone, whether or not the unit is ready or read-only, and sense and counts stay. Assumes nothing.
use Rattle.std.specs.Prelude.{ℕ, ◌*◌, List}
use Rattle.numbers.specs.Choice.{◌=?◌, pick}
use Rattle.slices.specs.Parts.{put, zeros}
use Rattle.model.specs.declared.device.Device.{Device}
use Rattle.model.specs.Rules.{first_of}
use Rattle.model.specs.Alternates.{unmapped}
use Rattle.model.specs.Lent.{block_start, block_at, record_bytes, record_of, map_of}
use Rattle.model.specs.Causes.{give_back_causes}
use Rattle.model.specs.Chain.{class_a}
use Rattle.model.specs.Host.{result_of}

-- "first copying the alternate's data to the primary, and zeroes the freed alternate"
unfoldable pub brought_home : Device → List ℕ → List ℕ → ℕ → List ℕ
brought_home dev map store block =
    let copied = put store (block * dev.block) (block_at dev map store block) in
    put copied (block_start dev map store block) (zeros dev.block)

pub record GivenBack : Type 0 where
  pub result : ℕ
  pub store : List ℕ
  pub unit : List ℕ

-- "in that order, with nothing changed"
unfoldable pub give_back_of : Device → List ℕ → List ℕ → ℕ → GivenBack
give_back_of dev store unit block =
    let cause = first_of (give_back_causes dev store unit block) in
    let map = map_of unit in
    pick (cause =? 0) (record { result = result_of 0 0; store = brought_home dev map store block; unit = record_bytes (record_of unit) (unmapped map dev.alternates block) })
    (record { result = result_of cause 0; store = store; unit = unit })

abbrev pub give_back : ℕ → List ℕ → List ℕ → ℕ → GivenBack
give_back alternates = give_back_of (class_a alternates)
