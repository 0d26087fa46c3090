-- The chain, and the call.
--     System   all that a chain works on: the state, main storage, the store, the answers, how many of them were given
--     next     the system after command i;  more   whether the chain goes on after it
--     run      the chain from command i on, n commands at most
--     start    the state at a chain's beginning
--     call_of  01, What is lent and Causes: refused as a whole by 1 to 5 or 8, or the chain run, on a device; Called   what it gives
--     class_a  the device of every call of ours, by its alternates;  call   the call on it
-- Assumes nothing.
use Rattle.std.specs.Prelude.{ℕ, zero, suc, ◌+◌, ◌*◌, Bool, false, List, length}
use Rattle.slices.specs.Parts.{put}
use Rattle.model.specs.declared.record.Record.{Record}
use Rattle.model.specs.declared.state.Before.TheVariants.{Nothing}
use Rattle.model.specs.declared.device.Device.{Device}
use Rattle.model.specs.State.{State}
use Rattle.numbers.specs.Choice.{◌=?◌, pick}
use Rattle.model.specs.Rules.{first_of}
use Rattle.model.specs.Pieces.{commands_in, command_at}
use Rattle.model.specs.Causes.{call_causes}
use Rattle.model.specs.Commands.{Out, step}
use Rattle.model.specs.Answer.{answer_size, answers_of, answered, goes_on}

pub record System : Type 0 where
  pub state : State
  pub main : List ℕ
  pub store : List ℕ
  pub answers : List ℕ
  pub reached : ℕ

abbrev pub system : State → List ℕ → List ℕ → List ℕ → ℕ → System
system s main store answers reached = record { state = s; main = main; store = store; answers = answers; reached = reached }

module _ (dev : Device) (chain : List ℕ) where
  -- what command i gives
  unfoldable pub step_at : ℕ → System → Out
  step_at i y = step dev (command_at chain i) y.state y.main y.store

  -- its answers follow those that were given before
  unfoldable pub next : ℕ → System → System
  next i y =
      let o = step_at i y in
      let c = command_at chain i in
      system o.done.state o.main o.store (put y.answers (y.reached * answer_size) (answers_of c o.done)) (y.reached + answered c o.done)

  unfoldable pub more : ℕ → System → Bool
  more i y = goes_on (command_at chain i) (step_at i y).done

  unfoldable pub run : ℕ → ℕ → System → System
  run zero i y = y
  run (suc n) i y = pick (more i y) (run n (i + 1) (next i y)) (next i y)

-- no extent and no command before: "Keeping an extent from one chain to the next" is an error
unfoldable pub start : Record → List ℕ → State
start u map = record {
  unit = u;
  map = map;
  defined = false;
  extent = record { mask = 0; offset = record { 0 = 0 }; first = record { 0 = 0 }; last = record { 0 = 0 } };
  before = Nothing;
  located = record { operation = 0; blocks = 0; displacement = record { 0 = 0 } };
}

-- what a call gives: cause and commands reached, and all that was lent as it then is
pub record Called : Type 0 where
  pub cause : ℕ
  pub reached : ℕ
  pub unit : Record
  pub map : List ℕ
  pub main : List ℕ
  pub store : List ℕ
  pub answers : List ℕ

abbrev pub called : ℕ → System → Called
called cause y = record { cause = cause; reached = y.reached; unit = y.state.unit; map = y.state.map; main = y.main; store = y.store; answers = y.answers }

-- "Causes 1 to 6 come before any command and write nothing at all", and so does 8
unfoldable pub call_of : Device → List ℕ → List ℕ → List ℕ → Record → List ℕ → List ℕ → Called
call_of dev chain main store u map answers =
    let cause = first_of (call_causes dev chain main store map answers) in
    let y = system (start u map) main store answers 0 in
    called cause (pick (cause =? 0) (run dev chain (length (commands_in chain)) 0 y) y)

-- Class A: blocks of 512 bytes
abbrev pub class_a : ℕ → Device
class_a alternates = record { block = 512; alternates = alternates }

abbrev pub call : ℕ → List ℕ → List ℕ → List ℕ → Record → List ℕ → List ℕ → Called
call alternates = call_of (class_a alternates)
