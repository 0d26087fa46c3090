-- What the code carries while a chain runs, beside the record that the chain found, and what it stands for in the definition. The map is
-- not carried: it stays where it is lent. Below, u is the record that the chain found, with the map as it is now (`holding`).
--     started, went_on, with_extent, with_locate, passed_on
--                                   what is carried: at the start, after a command that zeroed the sense, with another extent, with
--                                   another LOCATE, after a command that changed nothing
--     holding                       a record with this map
--     sense_now, unit_of, state_of  the pending sense, the unit record and the state that a `Running` stands for
--     state_left                    the state that a `Left` stands for: how a command of its kind leaves the one that is carried; unit_left   its record
--     Sound                         a device that a chain may run on, with its store and map, and a state that is safe on it, whatever record the chain found
--     Handed                        a command of this chain that the channel passed on: each of its pieces is in main storage
-- The run, the unit and the commands ask each other for `Sound` and `Handed`. Assumes nothing.
use Rattle.std.specs.Prelude.{ℕ, Bool, true, false, List, []}
use Rattle.numbers.specs.Choice.{pick}
use Rattle.slices.specs.Parts.{zeros}
use Rattle.model.specs.declared.decoded.Decoded.{Decoded}
use Rattle.model.specs.declared.device.Device.{Device}
use Rattle.model.specs.declared.extent.Extent.{Extent}
use Rattle.model.specs.declared.extent.Located.{Located}
use Rattle.model.specs.declared.record.Counts.{Counts}
use Rattle.model.specs.declared.record.Record.{Record}
use Rattle.model.specs.declared.record.UnitRecord.{UnitRecord}
use Rattle.model.specs.declared.state.Before.{Before}
use Rattle.model.specs.declared.state.Before.TheVariants.{Nothing, Locate, Other}
use Rattle.model.specs.State.{State}
use Rattle.model.specs.Lent.{block_count}
use Rattle.model.specs.Log.{with_sense}
use Rattle.model.specs.Commands.{leaves}
use Rattle.model.specs.Decoded.{area_of, Decodes}
use Rattle.model.specs.Safe.{Mounted, Inside, Safe}
use Rattle.model.specs.Names.{sense_size}
use Rattle.buffered_log.specs.Counts.{counts_of, counted}
use Rattle.sense_table.specs.Sensed.{sense_bytes}
use Rattle.unit_state.specs.declared.Running.{Running}
use Rattle.unit_state.specs.declared.Left.{Left}

abbrev pub started : Record → Running
started u = record {
  kept = true;
  defined = false;
  before = Nothing;
  counts = counts_of u;
  extent = record { mask = 0; offset = record { 0 = 0 }; first = record { 0 = 0 }; last = record { 0 = 0 } };
  located = record { operation = 0; displacement = record { 0 = 0 }; blocks = 0 };
}

abbrev pub went_on : Running → Counts → Before → Running
went_on s k before = record { kept = false; defined = s.defined; before = before; counts = k; extent = s.extent; located = s.located }

abbrev pub with_extent : Running → Counts → Extent → Before → Running
with_extent s k e before = record { kept = false; defined = true; before = before; counts = k; extent = e; located = s.located }

abbrev pub with_locate : Running → Counts → Located → Running
with_locate s k l = record { kept = false; defined = s.defined; before = Locate; counts = k; extent = s.extent; located = l }

abbrev pub passed_on : Running → Running
passed_on s = record { kept = s.kept; defined = s.defined; before = Other; counts = s.counts; extent = s.extent; located = s.located }

unfoldable pub sense_now : List ℕ → Bool → List ℕ
sense_now found kept = pick kept found (zeros sense_size)

abbrev pub holding : Record → List ℕ → UnitRecord
holding u map = record { unit = u; map = map }

unfoldable pub unit_of : Record → Running → Record
unit_of u s = counted (with_sense u (sense_now u.sense s.kept)) s.counts

unfoldable pub state_of : UnitRecord → Running → State
state_of u s = record { unit = unit_of u.unit s; map = u.map; defined = s.defined; extent = s.extent; before = s.before; located = s.located }

abbrev pub state_left : UnitRecord → Left → State
state_left u l = leaves l.kind (state_of u l.state) (sense_bytes l.sense)

-- the record that it leaves, all but its map: that does not go by the map
abbrev pub unit_left : Record → Left → Record
unit_left u l = (state_left (holding u []) l).unit

pub record Sound (dev : Device) (s : Running) (store map : List ℕ) : Type 0 where
  pub mounted : Mounted dev store map
  pub safe : (u : UnitRecord) → Safe (state_of u s) (block_count dev store)

pub record Handed (chain : List ℕ) (c : Decoded) (main : List ℕ) : Type 0 where
  pub told : Decodes chain c
  pub inside : Inside (area_of chain c.area) main
