-- Laws of what is carried: the state of the definition that it stands for. No contract cites this file.
--     started_state, went_on_lem, with_extent_lem, with_locate_lem, passed_on_lem  of each way to go on
--     same_counts                           the counts that are carried are the record's
--     empty                                 some record
--     left_any, left_map                    what is left of a record but its map does not go by the map, and the map is left
--     safe_any                              a state that is safe in a chain that found one record is so in any
use Prim.Native.Nat.{ℕ}
use mathlib.Core.Path.{◌≡◌, refl}
use mathlib.Core.List.{List, []}
use Rattle.numbers.specs.Choice.{pick}
use Rattle.model.specs.declared.extent.Extent.{Extent}
use Rattle.model.specs.declared.extent.Located.{Located}
use Rattle.model.specs.declared.record.Counts.{Counts}
use Rattle.model.specs.declared.record.Record.{Record}
use Rattle.model.specs.declared.record.UnitRecord.{UnitRecord}
use Rattle.model.specs.State.{State}
use Rattle.model.specs.Causes.{kind_of}
use Rattle.model.proofs.Leaving.{leaves_ind, leaves_both}
use Rattle.sense_table.specs.Sensed.{sense_bytes}
use Rattle.model.specs.declared.state.Before.{Before}
use Rattle.model.specs.declared.state.Before.TheVariants.{Other}
use Rattle.model.specs.Log.{with_sense, with_counts}
use Rattle.model.specs.Commands.{after, extent_set, locate_set, cleared}
use Rattle.model.specs.Chain.{start}
use Rattle.model.specs.Safe.{Safe}
use Rattle.buffered_log.specs.Counts.{counted}
use Rattle.unit_state.specs.declared.Running.{Running}
use Rattle.unit_state.specs.declared.Left.{Left}
use Rattle.unit_state.specs.Standing.{started, went_on, with_extent, with_locate, passed_on, holding, sense_now, unit_of, state_of, state_left, unit_left}

-- a state is sound whatever record the chain found; this one will do
pub empty : UnitRecord
empty = record { unit = record { sense = []; blocks_read = []; blocks_written = []; movements = []; ready = 0; read_only = 0 }; map = [] }

pub left_any : (u : Record) (map : List ℕ) (l : Left) → (state_left (holding u map) l).unit ≡ unit_left u l
unfolding state_of after
left_any u map l = leaves_both (λ (s t : State). s.unit ≡ t.unit) l.kind (state_of (holding u map) l.state) (state_of (holding u []) l.state) (sense_bytes l.sense) (sense_bytes l.sense) refl refl refl

pub left_map : (u : Record) (map : List ℕ) (l : Left) → (state_left (holding u map) l).map ≡ map
unfolding state_of after
left_map u map l = leaves_ind (λ (s : State). s.map ≡ map) l.kind (state_of (holding u map) l.state) (sense_bytes l.sense) refl refl refl

module _ (u : UnitRecord) where
  pub started_state : state_of u (started u.unit) ≡ start u.unit u.map
  unfolding state_of unit_of sense_now counted with_counts with_sense pick start
  started_state = refl

  module _ (s : Running) where
    -- each command but NO-OPERATION goes on from the state with no sense
    pub same_counts : counted (cleared (state_of u s)).unit s.counts ≡ (cleared (state_of u s)).unit
    unfolding counted with_sense with_counts cleared after state_of unit_of
    same_counts = refl

    pub went_on_lem : (k : Counts) (before : Before) → state_of u (went_on s k before) ≡ after (cleared (state_of u s)) (counted (cleared (state_of u s)).unit k) before
    unfolding state_of unit_of sense_now counted with_counts with_sense pick after cleared
    went_on_lem k before = refl

    pub with_extent_lem : (k : Counts) (e : Extent) (before : Before) → state_of u (with_extent s k e before) ≡ extent_set (cleared (state_of u s)) (counted (cleared (state_of u s)).unit k) e before
    unfolding state_of unit_of sense_now counted with_counts with_sense pick after extent_set cleared
    with_extent_lem k e before = refl

    -- a LOCATE may leave another map
    pub with_locate_lem : (k : Counts) (map : List ℕ) (l : Located) → state_of (holding u.unit map) (with_locate s k l) ≡ locate_set (cleared (state_of u s)) (counted (cleared (state_of u s)).unit k) map l
    unfolding state_of unit_of sense_now counted with_counts with_sense pick after locate_set cleared
    with_locate_lem k map l = refl

    pub passed_on_lem : state_of u (passed_on s) ≡ after (state_of u s) (unit_of u.unit s) Other
    unfolding state_of after unit_of
    passed_on_lem = refl

    pub safe_any : (v : UnitRecord) (blocks : ℕ) → Safe (state_of v s) blocks → Safe (state_of u s) blocks
    unfolding state_of
    safe_any v blocks h = record { extent = h.extent; located = h.located }
