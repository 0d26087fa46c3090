-- LOCATE once its eight bytes were fetched. No contract cites this file.
--     locate_ends     what its parameters decide is what the command does
use Prim.Native.Nat.{ℕ, ◌≤◌}
use mathlib.Core.Path.{◌≡◌, refl, sym, ap, ◌∙◌}
use mathlib.Core.Bool.{false, not, and-false}
use mathlib.Core.List.{List}
use borrow.Author.Tests.{le-ltb}
use Rattle.model.specs.declared.decoded.Decoded.{Decoded}
use Rattle.model.specs.declared.device.Device.{Device}
use Rattle.model.specs.declared.record.Record.{Record}
use Rattle.model.specs.declared.record.UnitRecord.{UnitRecord}
use Rattle.numbers.specs.Choice.{◌=?◌, pick}
use Rattle.numbers.proofs.Choice.{pick_true, pick_false}
use Rattle.model.specs.Names.{LOCATE}
use Rattle.model.specs.Rules.{first_of}
use Rattle.model.specs.Pieces.{Command, total, fetched}
use Rattle.model.specs.Decoded.{command_of}
use Rattle.model.specs.Parameters.{locate_length, located_in}
use Rattle.model.specs.Causes.{location_causes, locate_causes}
use Rattle.model.specs.Sense.{shown}
use Rattle.model.specs.Commands.{out, ended, after, cleared, map_after, locate_done, locate, decided, performed}
use Rattle.model.proofs.Verdicts.{first_later}
use Rattle.model.proofs.Read.{location_reads}
use Rattle.model.proofs.Steps.{performed_as}
use Rattle.buffered_log.specs.Counts.{with_movement}
use Rattle.buffered_log.proofs.Counting.{movement_counted_lem}
use Rattle.unit_state.specs.declared.Running.{Running}
use Rattle.unit_state.specs.Standing.{holding, with_locate, state_of, Handed}
use Rattle.unit_state.proofs.Units.{with_locate_lem, same_counts}
use Rattle.endings.specs.declared.Ended.{Ended}
use Rattle.endings.specs.Ending.{Ends}
use Rattle.model.proofs.Told.{location_named}
use Rattle.endings.proofs.Ends.{decided_by}
use Rattle.command_locate.specs.Answers.{located_by, map_left}

-- `map` is the one that the command found
module _ (u : Record) (map : List ℕ) (dev : Device) (chain : List ℕ) (c : Decoded) (s : Running) (main store : List ℕ) (h : Handed chain c main) where
  -- the command that the code carries
  abbrev it : Command
  it = command_of chain c

  -- the record with that map
  abbrev found : UnitRecord
  found = holding u map

  located_out : (p : List ℕ) → out (ended (state_of (holding u (map_after dev map s.extent (located_in p))) (with_locate s (with_movement s.counts) (located_in p))) locate_length locate_length 0) main store
      ≡ out (locate_done dev (cleared (state_of found s)) p) main store
  unfolding locate_done cleared after state_of
  located_out p = rw (with_locate_lem found s (with_movement s.counts) (map_after dev map s.extent (located_in p)) (located_in p), movement_counted_lem (cleared (state_of found s)).unit s.counts, same_counts found s) refl

  pub locate_ends : (p : List ℕ) (r : Ended) (map' : List ℕ) → r ≡ located_by dev found c s p → map' ≡ map_left dev found s p → p ≡ fetched it main locate_length
      → c.command ≡ LOCATE → not s.defined ≡ false → locate_length ≤ c.count → Ends (holding u map') it s r main store (performed dev it (state_of found s) main store)
  unfolding located_by map_left locate_causes state_of locate fetched
  locate_ends p r map' e g bytes k n l =
      let long : locate_length ≤ total it = rw (← h.told.count) l in
      let cause : ℕ = first_of (location_causes dev (state_of found s) (fetched it main locate_length)) in
      let verdict : first_of (locate_causes dev it (state_of found s) (fetched it main locate_length)) ≡ cause = first_later _ _ n ∙ first_later _ _ (le-ltb _ _ long) in
      let left : map' ≡ pick (cause =? 0) (map_after dev map s.extent (located_in (fetched it main locate_length))) map = rw bytes at g in
      decided_by found (holding u map') chain c h.told s main store _ cause _ (with_locate s (with_movement s.counts) (located_in (fetched it main locate_length))) locate_length (shown _ (fetched it main locate_length)) r (location_named dev (state_of found s) (fetched it main locate_length))
      ((performed_as dev it (state_of found s) main store).locate k ∙ ap (λ (v : ℕ). decided it (state_of found s) main store v (locate dev it (cleared (state_of found s)) main store)) verdict)
      (rw bytes at e) (location_reads dev (state_of found s) (fetched it main locate_length)) (λ _. refl) (λ z. ap (holding u) (left ∙ pick_false _ _ _ z)) (rw k (sym (and-false s.kept)))
      (λ z. rw (left ∙ pick_true _ _ _ z) (located_out (fetched it main locate_length)))
