-- `locate_by` meets its contract: the answer's number is the cause. Where there is none, no line of the table holds: the LOCATE is in the extent, and a format
-- has an alternate to take. Assumes nothing.
use Prim.Native.Nat.{ℕ}
use mathlib.Core.Path.{◌≡◌, refl, sym, ap, ◌∙◌}
use mathlib.Core.List.{List}
use borrow.Author.Tests.{eq-eqb}
use Rattle.numbers.proofs.Choice.{pick_true, pick_false}
use Rattle.model.specs.declared.device.Device.{Device}
use Rattle.model.specs.declared.extent.Located.{Located}
use Rattle.model.specs.State.{State}
use Rattle.model.specs.Rules.{first_of}
use Rattle.model.specs.Causes.{permission_causes, location_causes}
use Rattle.model.specs.Commands.{map_after}
use Rattle.model.specs.Exactly.{Failed}
use Rattle.model.proofs.Verdicts.{failed_all}
use Rattle.model.proofs.Safety.{location_ok, location_takes}
use Rattle.std.specs.Prelude.{Result, Err, ⊤}
use Rattle.model.specs.declared.cause.Cause.{Cause}
use Rattle.model.specs.Parameters.{locate_length}
use Rattle.model.specs.Sense.{shown}
use Rattle.model.specs.Told.{cause_number}
use Rattle.model.proofs.Told.{refusal_named, refusal_given}
use Rattle.endings.specs.Ending.{parameters_refused}
use Rattle.unit_state.specs.Standing.{holding, state_of}
use Rattle.command_locate.specs.Answers.{located_by, map_left}
use Rattle.command_locate.proofs.locate_by.Goals as goal

-- where the table gives no cause, no line of it holds
failed : (dev : Device) (s : State) (p : List ℕ) → first_of (location_causes dev s p) ≡ 0 → Failed (location_causes dev s p)
unfolding location_causes permission_causes
failed dev s p none = failed_all 0 _ refl none

pub returns-in-Err : goal.returns-in-Err
unfolding located_by map_left
returns-in-Err c =
    let a = c.args in
    let verdict : ℕ = first_of (location_causes a.d (state_of (holding a.u a.map.now) a.s) a.p.now) in
    let given : cause_number c.in-Err.cause ≡ verdict = c.in-Err.ensures in
    record {
      ended = c.refuse_parameters.ensures
          ∙ ap (parameters_refused a.s (Err c.in-Err.cause) locate_length) (c.shown_by.ensures ∙ ap (λ (v : ℕ). shown v a.p.now) given)
          ∙ ap (λ (w : Result ⊤ Cause). parameters_refused a.s w locate_length (shown verdict a.p.now)) (sym (refusal_named _ _ given))
          ∙ sym (pick_false _ _ _ (refusal_given _ _ given));
      left = sym (pick_false _ _ _ (refusal_given _ _ given));
    }

pub leave_map-requires : goal.leave_map-requires
unfolding state_of
leave_map-requires c =
    let a = c.args in
    let l = c.located_in-l.ensures.0 in
    let s : State = state_of (holding a.u a.map.now) a.s in
    let f = failed a.d s a.p.now (sym c.in_default.ensures) in
    (c.requires.0, rw l (location_ok a.d s a.p.now f), c.requires.1, λ e. location_takes a.d s a.p.now f (eq-eqb _ _ (rw l at e)))

pub returns : goal.returns
unfolding located_by map_left
returns c =
    let a = c.args in
    let accepted = eq-eqb _ _ (sym c.in_default.ensures) in
    record {
      ended = rw (c.locate_set-t.ensures, c.located_in-l.ensures.0, c.movement_counted.ensures) at c.accept.ensures ∙ sym (pick_true _ _ _ accepted);
      left = c.leave_map.ensures ∙ ap (λ (l : Located). map_after a.d a.map.now a.s.extent l) c.located_in-l.ensures.0 ∙ sym (pick_true _ _ _ accepted);
    }
