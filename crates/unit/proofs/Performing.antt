-- From the channel's tests and the unit's to the command's own. No contract cites this file.
--     by_channel, by_ready, by_list   refused by the channel, by a unit that is not ready, as no command of its list
--     by_own                          passed on: what the command itself says is the step
--     no_operation_ends               NO-OPERATION
--     has_map, extent_below           what a sound state has for LOCATE
use Prim.Native.Nat.{ℕ}
use mathlib.Core.Path.{◌≡◌, refl, sym, ap, ◌∙◌}
use mathlib.Core.Bool.{true, false, not, ◌&&◌, and-true}
use mathlib.Core.List.{List, [], ◌∷◌, ◌++◌}
use native.Mathlib.Omega.{arith}
use borrow.Author.Tests.{eqb-false}
use Rattle.numbers.specs.Choice.{◌=?◌, one_of, pick}
use Rattle.model.specs.declared.decoded.Decoded.{Decoded}
use Rattle.model.specs.declared.device.Device.{Device}
use Rattle.model.specs.declared.record.Record.{Record}
use Rattle.model.specs.declared.record.UnitRecord.{UnitRecord}
use Rattle.model.specs.Names.{NO_OPERATION, SENSE, SENSE_TYPE}
use Rattle.model.specs.Rules.{first_of}
use Rattle.model.specs.Causes.{bytes_read, commands, channel_causes, unit_causes}
use Rattle.model.specs.Decoded.{command_of, Decodes}
use Rattle.model.specs.Log.{with_sense, with_counts}
use Rattle.model.specs.Commands.{out, ended, no_operation, performed, step}
use Rattle.model.proofs.Verdicts.{first_here, first_later, first_none}
use Rattle.model.specs.Safe.{Mounted, HasMap, OnDevice}
use Rattle.model.proofs.Blocks.{mounted_primaries}
use Rattle.model.proofs.Read.{table_reads}
use Rattle.model.proofs.Steps.{early_channel, early_unit, step_early, step_performed, performed_as, channel_room}
use Rattle.std.specs.Prelude.{Err}
use Rattle.model.specs.declared.cause.Cause.{Cause}
use Rattle.model.specs.declared.cause.Cause.TheVariants.{NotListed, NotReady}
use Rattle.model.specs.declared.command.Command.{Command}
use Rattle.model.specs.Told.{cause_number, code_of}
use Rattle.model.proofs.Told.{refused_told}
use Rattle.buffered_log.specs.Counts.{counted}
use Rattle.unit_state.specs.declared.Running.{Running}
use Rattle.unit_state.specs.Standing.{holding, passed_on, unit_of, state_of, Sound, Handed}
use Rattle.unit_state.proofs.Units.{empty, passed_on_lem}
use Rattle.endings.specs.declared.Ended.{Ended}
use Rattle.endings.specs.Ending.{accepted_end, refused_end, Ends}
use Rattle.endings.proofs.Ends.{unread_ends, accepted_ends}
use Rattle.unit.specs.Received.{Received}

-- what LOCATE asks for, of a sound state

pub has_map : (dev : Device) (store map : List ℕ) → Mounted dev store map → HasMap dev map
has_map dev store map m = record { few_alternates = m.few_alternates; whole_map = m.whole_map }

pub extent_below : {dev : Device} {s : Running} {store map : List ℕ} → Sound dev s store map → s.defined ≡ true → OnDevice s.extent 131072
unfolding state_of
extent_below {dev} {s} {store} {map} h d =
    let e = (h.safe empty).extent d in
    record { order = e.order; inside = omega (arith, e.inside, mounted_primaries dev store map h.mounted) }

-- what the commands ask for, of one that is listed by its name, and is not NO-OPERATION

pub coded : {code : ℕ} {command name : Command} → code ≡ code_of command → command ≡ name → code ≡ code_of name
coded e f = e ∙ ap code_of f

pub handed : {dev : Device} {u : Record} {chain : List ℕ} {c : Decoded} {s : Running} {main store map : List ℕ} {k : ℕ} → Sound dev s store map → Decodes chain c → Received (command_of chain c) u main
    → c.command ≡ k → k =? NO_OPERATION ≡ false → Handed chain c main
handed {dev} {u} {chain} {c} {s} {main} {store} {map} {k} sound decodes seen e n = record {
  told = decodes;
  inside = channel_room dev (command_of chain c) (state_of (holding u map) s) main store seen.channel (λ z. eqb-false k NO_OPERATION n (sym e ∙ z));
}

-- a command that changed nothing but what the next one has before it
passed_out : (u : UnitRecord) (s : Running) (main store : List ℕ) → no_operation (state_of u s) main store ≡ out (ended (state_of u (passed_on s)) 0 0 0) main store
unfolding no_operation state_of
passed_out u s main store = rw (passed_on_lem u s) refl

-- the state is sound: that names the device, the store and the map
module _ {dev : Device} {u : Record} {chain : List ℕ} {c : Decoded} {s : Running} (main : List ℕ) {store map : List ℕ} {r : Ended} (sound : Sound dev s store map) (told : Decodes chain c) where
  -- refused before its own table is read, by a cause that has read nothing
  stopped : (why : Cause) → first_of (channel_causes (command_of chain c) main ++ unit_causes (command_of chain c) (state_of (holding u map) s)) ≡ cause_number why → bytes_read (cause_number why) ≡ 0 → r ≡ refused_end s (Err why)
      → Ends (holding u map) (command_of chain c) s r main store (step dev (command_of chain c) (state_of (holding u map) s) main store)
  stopped why e k f =
      let n = eqb-false _ _ (refused_told why) in
      rw (step_early dev (command_of chain c) (state_of (holding u map) s) main store (cause_number why) e n) (unread_ends (holding u map) chain c told s main store (Err why) r f k n)

  pub by_channel : (why : Cause) → cause_number why ≡ first_of (channel_causes (command_of chain c) main) → r ≡ refused_end s (Err why) → Ends (holding u map) (command_of chain c) s r main store (step dev (command_of chain c) (state_of (holding u map) s) main store)
  unfolding channel_causes bytes_read one_of pick
  by_channel why e =
      stopped why (early_channel dev (command_of chain c) (state_of (holding u map) s) main store (cause_number why) (sym e) (eqb-false _ _ (refused_told why)))
      (rw (sym e) at (table_reads 0 (channel_causes (command_of chain c) main) refl (rw (sym e) (refused_told why))))

  pub by_ready : first_of (channel_causes (command_of chain c) main) ≡ 0 → u.ready =? 0 && not (one_of (SENSE ∷ SENSE_TYPE ∷ []) c.command) ≡ true → r ≡ refused_end s (Err NotReady)
      → Ends (holding u map) (command_of chain c) s r main store (step dev (command_of chain c) (state_of (holding u map) s) main store)
  unfolding unit_causes state_of unit_of counted with_counts with_sense bytes_read one_of pick
  by_ready e b = stopped NotReady (early_unit dev (command_of chain c) (state_of (holding u map) s) main store 44 e (first_here _ _ b)) refl

  module _ (seen : Received (command_of chain c) u main) where
    pub by_list : one_of commands c.command ≡ false → r ≡ refused_end s (Err NotListed) → Ends (holding u map) (command_of chain c) s r main store (step dev (command_of chain c) (state_of (holding u map) s) main store)
    unfolding unit_causes state_of unit_of counted with_counts with_sense bytes_read one_of pick
    by_list b = stopped NotListed (early_unit dev (command_of chain c) (state_of (holding u map) s) main store 43 seen.channel (first_later _ _ seen.ready ∙ first_here _ _ (ap not b))) refl

    -- the command may leave another map
    pub by_own : {k : ℕ} {map' main' store' : List ℕ} → c.command ≡ k → one_of commands k ≡ true → Ends (holding u map') (command_of chain c) s r main' store' (performed dev (command_of chain c) (state_of (holding u map) s) main store)
        → Ends (holding u map') (command_of chain c) s r main' store' (step dev (command_of chain c) (state_of (holding u map) s) main store)
    unfolding unit_causes state_of unit_of counted with_counts with_sense
    by_own e l h =
        rw (step_performed dev (command_of chain c) (state_of (holding u map) s) main store (early_unit dev (command_of chain c) (state_of (holding u map) s) main store 0 seen.channel (first_later _ _ seen.ready ∙ first_later _ _ (rw (e, l) refl) ∙ first_none))) h

    pub no_operation_ends : c.command ≡ NO_OPERATION → r ≡ accepted_end c (passed_on s) 0 0 0 → Ends (holding u map) (command_of chain c) s r main store (step dev (command_of chain c) (state_of (holding u map) s) main store)
    unfolding one_of
    no_operation_ends e f =
        by_own e refl
        (rw ((performed_as dev (command_of chain c) (state_of (holding u map) s) main store).no_operation_lem e, passed_out (holding u map) s main store) (accepted_ends (holding u map) chain c told s main store (passed_on s) 0 0 0 r main store _ f (rw e (sym (and-true s.kept))) refl refl refl))
