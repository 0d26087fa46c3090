-- What the code carries from command to command, and what a run and a call leave, beside the definition's words for it.
--     is_accepted             no cause refused a command of this kind
--     carried_of              what is carried of a state: all but the sense, which stands as the chain found it or is zeros
--     left_of, left_at        what a command leaves that found s carried, and what command i leaves in a system
--     left_from               what the run leaves, the chain from command i on, n commands at most: it goes on where `run` does
--     system_of, system_left  the systems that a `Running` and a `Left` stand for, with what is lent
--     run_of, left_by         the system after the whole chain, and what it leaves; left_call   what a call leaves
--     Begins                  command i of the chain begins with a CCW
--     InRun                   what a turn asks for: the chain ends with its CCW or behind it, the state is sound, and there is room for an answer to each CCW left
--     Turned                  one turn is the definition's: the promise of `one_turn`
--     Walks, Allowed          so is a run, and a call that no cause refuses
--     called_with             what a call gives, with what was lent
-- Assumes nothing.
use Rattle.std.specs.Prelude.{ℕ, zero, suc, ◌+◌, ◌-◌, ◌*◌, ◌/◌, ◌≤◌, ◌<◌, ◌≡◌, Bool, true, false, ◌&&◌, List, length, drop, Result, Ok, Err}
use Rattle.numbers.specs.Choice.{◌=?◌, pick}
use Rattle.model.specs.declared.cause.Cause.{Cause}
use Rattle.model.specs.declared.device.Device.{Device}
use Rattle.model.specs.declared.kind.Kind.{Kind}
use Rattle.model.specs.declared.kind.Kind.TheVariants.{Accepted, ProgramCheck, UnitCheck}
use Rattle.model.specs.declared.record.Record.{Record}
use Rattle.model.specs.declared.record.UnitRecord.{UnitRecord}
use Rattle.model.specs.State.{State}
use Rattle.model.specs.Names.{NO_OPERATION}
use Rattle.model.specs.Lent.{ccw_size}
use Rattle.model.specs.Pieces.{Command, commands_from, commands_in, command_at, fetched}
use Rattle.model.specs.Answer.{answer_size}
use Rattle.model.specs.Parameters.{locate_length}
use Rattle.model.specs.Sense.{shown}
use Rattle.model.specs.Causes.{kind_of}
use Rattle.model.specs.Commands.{Out}
use Rattle.model.specs.Chain.{System, system, step_at, next, more, run, start, Called, called, call_of}
use Rattle.model.specs.Safe.{Closes}
use Rattle.model.specs.Told.{cause_number}
use Rattle.buffered_log.specs.Counts.{counts_of}
use Rattle.sense_table.specs.Sensed.{sense_showing, no_sense}
use Rattle.unit_state.specs.declared.Running.{Running}
use Rattle.unit_state.specs.declared.Left.{Left}
use Rattle.unit_state.specs.Standing.{holding, started, state_of, state_left, Sound}
use Rattle.chain.specs.declared.run.Turn.{Turn}
use Rattle.chain.specs.declared.run.Walked.{Walked}
use Rattle.chain.specs.declared.call.Returned.{Returned}

-- of a command that no cause refused
abbrev pub is_accepted : Kind → Bool
is_accepted Accepted = true
is_accepted ProgramCheck = false
is_accepted UnitCheck = false

abbrev pub carried_of : Bool → State → Running
carried_of kept s = record {
  kept = kept;
  defined = s.defined;
  before = s.before;
  counts = counts_of s.unit;
  extent = s.extent;
  located = s.located;
}

-- a refused command leaves what it found
unfoldable pub left_of : Command → Running → Out → Left
left_of c s o = record {
  state = pick (o.done.cause =? 0) (carried_of (s.kept && c.command =? NO_OPERATION) o.done.state) s;
  sense = sense_showing o.done.cause (shown o.done.cause (fetched c o.main locate_length));
  kind = kind_of o.done.cause;
}

module _ (dev : Device) (chain : List ℕ) where
  abbrev pub left_at : ℕ → Running → System → Left
  left_at i s y = left_of (command_at chain i) s (step_at dev chain i y)

  unfoldable pub left_from : ℕ → ℕ → Running → System → Left
  left_from zero i s y = record { state = s; sense = no_sense; kind = Accepted }
  left_from (suc n) i s y = pick (more dev chain i y) (left_from n (i + 1) (left_at i s y).state (next dev chain i y)) (left_at i s y)

  abbrev pub run_of : System → System
  run_of y = run dev chain (length (commands_in chain)) 0 y

  abbrev pub left_by : Running → System → Left
  left_by s y = left_from (length (commands_in chain)) 0 s y

-- u is the record that the chain found, with the map as it is then
module _ (u : UnitRecord) where
  abbrev pub system_of : Running → List ℕ → List ℕ → List ℕ → ℕ → System
  system_of s = system (state_of u s)

  abbrev pub system_left : Left → List ℕ → List ℕ → List ℕ → ℕ → System
  system_left l = system (state_left u l)

abbrev pub left_call : Device → List ℕ → List ℕ → List ℕ → UnitRecord → List ℕ → Left
left_call dev chain main store u answers = left_by dev chain (started u.unit) (system (start u.unit u.map) main store answers 0)

-- the CCWs of a chain
abbrev pub ccws_of : List ℕ → ℕ
ccws_of chain = length chain / ccw_size

-- the commands from i on are those of the CCWs from one on
abbrev pub Begins : List ℕ → ℕ → ℕ → Type 0
Begins chain i at = drop i (commands_in chain) ≡ commands_from chain (ccws_of chain - at) at

-- `reached` answers were given before
pub record InRun (dev : Device) (chain : List ℕ) (at reached : ℕ) (s : Running) (store map answers : List ℕ) : Type 0 where
  pub sound : Sound dev s store map
  pub short : length chain ≤ 256
  pub closes : Closes chain at
  pub room : (reached + (ccws_of chain - at)) * answer_size ≤ length answers

-- in a chain that found record u, which has the map that is left, of a turn or a run that found s carried, which stands for system y, and
-- leaves these buffers

pub record Turned (dev : Device) (chain : List ℕ) (u : UnitRecord) (s : Running) (y : System) (at i : ℕ) (t : Turn) (main store answers : List ℕ) : Type 0 where
  pub after : system_left u t.left main store answers t.reached ≡ next dev chain i y
  pub go : t.go ≡ more dev chain i y
  pub left : t.left ≡ left_at dev chain i s y
  pub behind : Begins chain (i + 1) t.end
  pub on : at < t.end
  pub closes : t.go ≡ true → Closes chain t.end

pub record Walks (dev : Device) (chain : List ℕ) (u : UnitRecord) (s : Running) (y : System) (w : Walked) (main store answers : List ℕ) : Type 0 where
  pub after : system_left u w.left main store answers w.reached ≡ run_of dev chain y
  pub left : w.left ≡ left_by dev chain s y

-- of a call that was lent a record's map, main storage, store and answers, and leaves them primed
pub record Allowed (dev : Device) (u : Record) (chain main store map answers : List ℕ) (w : Walked) (main' store' map' answers' : List ℕ) : Type 0 where
  pub after : called 0 (system_left (holding u map') w.left main' store' answers' w.reached) ≡ call_of dev chain main store u map answers
  pub left : w.left ≡ left_call dev chain main store (holding u map) answers

-- of a call that was lent record u, which a refused one leaves
abbrev pub called_with : Record → Result Returned Cause → List ℕ → List ℕ → List ℕ → List ℕ → Called
called_with u (Ok r) main store map answers = record { cause = 0; reached = r.reached; unit = r.unit; map = map; main = main; store = store; answers = answers }
called_with u (Err cause) main store map answers = record { cause = cause_number cause; reached = 0; unit = u; map = map; main = main; store = store; answers = answers }
