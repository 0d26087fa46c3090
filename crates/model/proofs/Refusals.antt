-- Demand 1, of refusals.
--     call_refused      a call with cause 1 to 5 or 8 leaves all that it was lent as it was
--     call_ran          a call with cause 0 is the run of its chain
--     host_refused      so does a call from C, with cause 1 to 6 or 8
--     step_untouched    a refused command leaves store, main storage and map as they were, moves no block, and has read of its
--                       parameters what its cause says; of the record it changes the sense alone, and as a program check nothing
-- Assumes nothing.
use Prim.Native.Nat.{ℕ}
use mathlib.Core.Path.{◌≡◌, refl, ◌∙◌}
use mathlib.Core.List.{List}
use lib.ListN.{length}
use borrow.Author.Tests.{ne_eqb}
use Rattle.model.specs.declared.record.Record.{Record}
use Rattle.model.specs.declared.kind.Kind.TheVariants.{ProgramCheck}
use Rattle.model.specs.declared.device.Device.{Device}
use Rattle.model.specs.State.{State}
use Rattle.numbers.specs.Choice.{pick}
use Rattle.model.specs.Rules.{first_of}
use Rattle.model.specs.Pieces.{commands_in}
use Rattle.model.specs.Pieces.{Command}
use Rattle.model.specs.Causes.{call_causes, host_causes, kind_of, bytes_read, verdict}
use Rattle.model.specs.Log.{with_sense}
use Rattle.model.specs.Commands.{Out, after, sense_given, refused, step}
use Rattle.model.specs.Chain.{called, call_of, start, system, run}
use Rattle.model.specs.Host.{result_of, host_call_of}
use Rattle.model.proofs.Leaving.{leaves_ind}
use Rattle.model.proofs.Steps.{step_cause, step_refused}

-- the call

pub call_refused : (dev : Device) (chain main store : List ℕ) (u : Record) (map answers : List ℕ) (w : ℕ)
    → first_of (call_causes dev chain main store map answers) ≡ w → (w ≡ 0 → ⊥)
    → call_of dev chain main store u map answers ≡ record { cause = w; reached = 0; unit = u; map = map; main = main; store = store; answers = answers }
unfolding call_of start pick
call_refused dev chain main store u map answers w e n = rw (e, ne_eqb w 0 n)

pub call_ran : (dev : Device) (chain main store : List ℕ) (u : Record) (map answers : List ℕ) → first_of (call_causes dev chain main store map answers) ≡ 0
    → call_of dev chain main store u map answers ≡ called 0 (run dev chain (length (commands_in chain)) 0 (system (start u map) main store answers 0))
unfolding call_of pick
call_ran dev chain main store u map answers e = rw e

pub host_refused : (dev : Device) (chain main store unit answers : List ℕ) (w : ℕ)
    → first_of (host_causes dev chain main store unit answers) ≡ w → (w ≡ 0 → ⊥)
    → host_call_of dev chain main store unit answers ≡ record { result = result_of w 0; main = main; store = store; unit = unit; answers = answers }
unfolding host_call_of pick
host_refused dev chain main store unit answers w e n = rw (e, ne_eqb w 0 n)

-- a command

-- two records that differ in their sense at most
pub record SameButSense (u v : Record) : Type 0 where
  pub blocks_read : v.blocks_read ≡ u.blocks_read
  pub blocks_written : v.blocks_written ≡ u.blocks_written
  pub movements : v.movements ≡ u.movements
  pub ready : v.ready ≡ u.ready
  pub read_only : v.read_only ≡ u.read_only

-- what a command leaves alone where it is refused
pub record Untouched (s : State) (main store : List ℕ) (o : Out) : Type 0 where
  pub main_same : o.main ≡ main
  pub store_same : o.store ≡ store
  pub parameters_read : o.done.moved ≡ bytes_read o.done.cause
  pub no_block : o.done.blocks ≡ 0
  pub map_same : o.done.state.map ≡ s.map
  pub unit_check : SameButSense s.unit o.done.state.unit
  pub program_check : kind_of o.done.cause ≡ ProgramCheck → o.done.state.unit ≡ s.unit

refused_untouched : (c : Command) (s : State) (main store : List ℕ) (w : ℕ) → Untouched s main store (refused c s main store w)
unfolding refused after with_sense
refused_untouched c s main store w =
    let same : SameButSense s.unit s.unit = record { blocks_read = refl; blocks_written = refl; movements = refl; ready = refl; read_only = refl } in
    record {
      main_same = refl;
      store_same = refl;
      parameters_read = refl;
      no_block = refl;
      map_same = leaves_ind (λ (t : State). t.map ≡ s.map) (kind_of w) s (sense_given w c main) refl refl refl;
      unit_check = leaves_ind (λ (t : State). SameButSense s.unit t.unit) (kind_of w) s (sense_given w c main) same same
          (record { blocks_read = refl; blocks_written = refl; movements = refl; ready = refl; read_only = refl });
      program_check = λ e. rw e;
    }

pub step_untouched : (dev : Device) (c : Command) (s : State) (main store : List ℕ) → ((step dev c s main store).done.cause ≡ 0 → ⊥) → Untouched s main store (step dev c s main store)
step_untouched dev c s main store n =
    rw (step_refused dev c s main store (λ v. n (step_cause dev c s main store ∙ v))) (refused_untouched c s main store (verdict dev c s main store))
