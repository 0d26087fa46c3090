-- DEFINE EXTENT once its sixteen bytes were fetched. No contract cites this file.
--     define_ends   what its parameters decide is what the command does
use Prim.Native.Nat.{ℕ, ◌≤◌}
use mathlib.Core.Path.{◌≡◌, refl, sym, ap, ◌∙◌}
use mathlib.Core.Bool.{false, and-false}
use mathlib.Core.List.{List}
use native.Mathlib.Omega.{arith}
use borrow.Author.Tests.{le-ltb, ne_eqb}
use Rattle.numbers.proofs.Choice.{pick_false}
use Rattle.slices.specs.Parts.{zeros}
use Rattle.model.specs.declared.decoded.Decoded.{Decoded}
use Rattle.model.specs.declared.device.Device.{Device}
use Rattle.model.specs.declared.record.UnitRecord.{UnitRecord}
use Rattle.model.specs.declared.state.Before.TheVariants.{Other}
use Rattle.model.specs.Names.{DEFINE_EXTENT}
use Rattle.model.specs.Rules.{first_of}
use Rattle.model.specs.Lent.{block_count}
use Rattle.model.specs.Pieces.{Command, total, fetched}
use Rattle.model.specs.Decoded.{command_of}
use Rattle.model.specs.Parameters.{extent_length, extent_in, locate_length}
use Rattle.model.specs.Causes.{extent_causes, define_extent_causes}
use Rattle.model.specs.Sense.{shown}
use Rattle.model.specs.Commands.{out, ended, cleared, define_done, define_extent, decided, performed}
use Rattle.model.proofs.Verdicts.{first_later, never_given}
use Rattle.model.proofs.Read.{extent_reads}
use Rattle.model.proofs.Steps.{performed_as}
use Rattle.unit_state.specs.declared.Running.{Running}
use Rattle.unit_state.specs.Standing.{with_extent, state_of, Handed}
use Rattle.unit_state.proofs.Units.{with_extent_lem, same_counts}
use Rattle.endings.specs.declared.Ended.{Ended}
use Rattle.endings.specs.Ending.{Ends}
use Rattle.model.proofs.Told.{extent_named}
use Rattle.endings.proofs.Ends.{decided_by}
use Rattle.command_extent.specs.Answers.{defined_by}

module _ (u : UnitRecord) (dev : Device) (chain : List ℕ) (c : Decoded) (s : Running) (main store : List ℕ) (h : Handed chain c main) where
  -- the command that the code carries
  abbrev it : Command
  it = command_of chain c

  defined_out : (p : List ℕ) → out (ended (state_of u (with_extent s s.counts (extent_in p) Other)) extent_length extent_length 0) main store ≡ out (define_done (cleared (state_of u s)) p) main store
  unfolding define_done
  defined_out p = rw (with_extent_lem u s s.counts (extent_in p) Other, same_counts u s) refl

  pub define_ends : (blocks : ℕ) (p : List ℕ) (r : Ended) → r ≡ defined_by dev blocks c s p → blocks ≡ block_count dev store
      → p ≡ fetched it main extent_length → c.command ≡ DEFINE_EXTENT → extent_length ≤ c.count → s.defined ≡ false
      → Ends u it s r main store (performed dev it (state_of u s) main store)
  unfolding defined_by define_extent_causes extent_causes state_of define_extent shown fetched
  define_ends blocks p r e b bytes k l n =
      let long : extent_length ≤ total it = rw (← h.told.count) l in
      let verdict : first_of (define_extent_causes dev (block_count dev store) it (state_of u s) (fetched it main extent_length)) ≡ first_of (extent_causes dev (block_count dev store) (fetched it main extent_length))
      = first_later _ _ (le-ltb _ _ long) ∙ first_later _ _ n in
      decided_by u u chain c h.told s main store _ _ _ (with_extent s s.counts (extent_in (fetched it main extent_length)) Other) extent_length (zeros locate_length) r
      (extent_named dev (block_count dev store) (fetched it main extent_length))
      ((performed_as dev it (state_of u s) main store).define_extent_lem k ∙ ap (λ (v : ℕ). decided it (state_of u s) main store v (define_extent it (cleared (state_of u s)) main store)) verdict)
      (e ∙ rw (b, bytes) refl)
      (extent_reads dev (block_count dev store) (fetched it main extent_length))
      (λ _. sym (pick_false _ _ _ (ne_eqb _ _ (never_given 39 (extent_causes dev (block_count dev store) (fetched it main extent_length)) refl (λ z. omega arith)))))
      (λ _. refl)
      (rw k (sym (and-false s.kept)))
      (λ _. defined_out (fetched it main extent_length))
