-- What was sent, and the ending, are the command. No contract cites this file.
--     sense_ends, type_ends, log_ends
use Prim.Native.Nat.{ℕ, min}
use mathlib.Core.Path.{◌≡◌, refl, sym, ap, ◌∙◌}
use mathlib.Core.Bool.{false, and-false}
use mathlib.Core.List.{List, [], ◌∷◌}
use lib.ListN.{length, take}
use Rattle.slices.specs.Parts.{zeros}
use Rattle.model.specs.declared.decoded.Decoded.{Decoded}
use Rattle.model.specs.declared.device.Device.{Device}
use Rattle.model.specs.declared.record.Counts.{Counts}
use Rattle.model.specs.declared.record.Record.{Record}
use Rattle.model.specs.declared.record.UnitRecord.{UnitRecord}
use Rattle.model.specs.declared.state.Before.TheVariants.{Other}
use Rattle.model.specs.State.{State}
use Rattle.numbers.specs.Choice.{◌=?◌}
use Rattle.model.specs.Names.{NO_OPERATION, SENSE, SENSE_TYPE, READ_LOG}
use Rattle.model.specs.Pieces.{Command, delivered}
use Rattle.model.specs.Decoded.{command_of, Decodes}
use Rattle.model.specs.Log.{with_sense, with_counts, log_of, log_reset}
use Rattle.model.specs.Commands.{Out, after, cleared, sent, sense, sense_type, read_log, performed}
use Rattle.model.proofs.Steps.{performed_as}
use Rattle.buffered_log.specs.Counts.{counted, no_counts}
use Rattle.buffered_log.proofs.Counting.{none_counted}
use Rattle.unit_state.specs.declared.Running.{Running}
use Rattle.unit_state.specs.Standing.{went_on, sense_now, unit_of, state_of}
use Rattle.unit_state.proofs.Units.{went_on_lem, same_counts}
use Rattle.endings.specs.declared.Ended.{Ended}
use Rattle.endings.specs.Ending.{Ends}
use Rattle.endings.proofs.Ends.{accepted_ends}
use Rattle.command_sense.specs.Sent.{sent_end}

module _ (u : UnitRecord) (dev : Device) (chain : List ℕ) (c : Decoded) (told : Decodes chain c) (s : Running) (main store : List ℕ) (r : Ended) (main' bytes : List ℕ) where
  -- the command that the code carries
  abbrev it : Command
  it = command_of chain c

  -- a command that is none of NO-OPERATION, of code `command`, and that sends these bytes and leaves that record
  sent_ends : (x : Out) (t : State) (command can : ℕ) (v : Record) (k : Counts) → x ≡ sent it t main store can bytes v → c.command ≡ command → command =? NO_OPERATION ≡ false
      → length bytes ≡ can → r ≡ sent_end c s (length bytes) k → main' ≡ delivered it main (take (min c.count (length bytes)) bytes) → state_of u (went_on s k Other) ≡ after t v Other
      → Ends u it s r main' store x
  unfolding sent
  sent_ends x t command can v k d e n l f m w =
      rw d
      (accepted_ends u chain c told s main store (went_on s k Other) (min c.count can) can 0 r main' store _ (rw l at f) (rw (e, n) (sym (and-false s.kept))) (rw (w, told.count) refl) (rw (l, told.count) at m) refl)

  cleared_on : state_of u (went_on s s.counts Other) ≡ after (cleared (state_of u s)) (cleared (state_of u s)).unit Other
  cleared_on = went_on_lem u s s.counts Other ∙ ap (λ (v : Record). after (cleared (state_of u s)) v Other) (same_counts u s)

  -- SENSE goes on from the state as it is, and leaves it with no sense
  sensed : after (cleared (state_of u s)) (cleared (state_of u s)).unit Other ≡ after (state_of u s) (with_sense (state_of u s).unit (zeros 24)) Other
  unfolding cleared after
  sensed = refl

  found_sense : sense_now u.unit.sense s.kept ≡ (state_of u s).unit.sense
  unfolding state_of unit_of counted with_counts with_sense
  found_sense = refl

  pub sense_ends : c.command ≡ SENSE → bytes ≡ sense_now u.unit.sense s.kept → length bytes ≡ 24 → r ≡ sent_end c s (length bytes) s.counts
      → main' ≡ delivered it main (take (min c.count (length bytes)) bytes) → Ends u it s r main' store (performed dev it (state_of u s) main store)
  unfolding sense
  sense_ends k b l e m =
      sent_ends _ (state_of u s) SENSE 24 _ s.counts ((performed_as dev it (state_of u s) main store).sense k ∙ ap (λ (bs : List ℕ). sent it (state_of u s) main store 24 bs (with_sense (state_of u s).unit (zeros 24))) (sym (b ∙ found_sense)))
      k refl l e m (cleared_on ∙ sensed)

  pub type_ends : c.command ≡ SENSE_TYPE → bytes ≡ 0xFF ∷ 0x00 ∷ 0x97 ∷ 0x01 ∷ 0x05 ∷ 0x12 ∷ 0x01 ∷ [] → r ≡ sent_end c s (length bytes) s.counts
      → main' ≡ delivered it main (take (min c.count (length bytes)) bytes) → Ends u it s r main' store (performed dev it (state_of u s) main store)
  unfolding sense_type
  type_ends k b e m =
      sent_ends _ (cleared (state_of u s)) SENSE_TYPE 7 _ s.counts ((performed_as dev it (state_of u s) main store).sense_type_lem k ∙ ap (λ (bs : List ℕ). sent it (cleared (state_of u s)) main store 7 bs (cleared (state_of u s)).unit) (sym b))
      k refl (rw b refl) e m cleared_on

  pub log_ends : c.command ≡ READ_LOG → ((v : Record) → bytes ≡ log_of (counted v s.counts)) → length bytes ≡ 24 → r ≡ sent_end c s (length bytes) no_counts
      → main' ≡ delivered it main (take (min c.count (length bytes)) bytes) → Ends u it s r main' store (performed dev it (state_of u s) main store)
  unfolding read_log
  log_ends k b l e m =
      let v : Record = (cleared (state_of u s)).unit in
      let same : bytes ≡ log_of v = b v ∙ ap log_of (same_counts u s) in
      sent_ends _ (cleared (state_of u s)) READ_LOG 24 _ no_counts ((performed_as dev it (state_of u s) main store).read_log_lem k ∙ ap (λ (bs : List ℕ). sent it (cleared (state_of u s)) main store 24 bs (log_reset v)) (sym same))
      k refl l e m (went_on_lem u s no_counts Other ∙ ap (λ (w : Record). after (cleared (state_of u s)) w Other) (none_counted v))
