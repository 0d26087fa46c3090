-- Two tables, one after the other, as a `?` goes over them, and the call that such a table refuses.
--     never_none, cause_same  no cause has the number 0, and no two have the same
--     table                   what shows the verdict of a table, read line by line
--     refused_first           the first one's error is the verdict of both
--     passed_first            where the first one gives none, the second one's verdict is
--     call_first, call_map    so it is of causes 1 to 5, and of 8 behind them
--     refused_call            a call that one of them refuses
--     call_few                a call, refused or not, reaches 32 commands at most
-- No contract cites this file.
use Prim.Native.Nat.{ℕ, ◌≤◌}
use mathlib.Core.Path.{◌≡◌, refl, sym, ap, ◌∙◌}
use mathlib.Core.Bool.{Bool, true, false}
use mathlib.Core.List.{List, ◌++◌}
use native.Mathlib.Omega.{arith}
use borrow.Author.Tests.{eqb-true, eqb-false}
use Rattle.std.specs.Prelude.{Err}
use Rattle.numbers.specs.Choice.{◌=?◌, pick}
use Rattle.model.specs.declared.cause.Cause.{Cause}
use Rattle.model.specs.declared.device.Device.{Device}
use Rattle.model.specs.declared.record.Record.{Record}
use Rattle.model.specs.Causes.{lent_causes, map_causes, call_causes}
use Rattle.model.specs.Chain.{call_of}
use Rattle.model.specs.Exactly.{absent}
use Rattle.model.specs.Rules.{Rule, first_of}
use Rattle.model.specs.Told.{cause_number, outcome_of}
use Rattle.model.proofs.Endings.{lent_primary, callable, call_reached}
use Rattle.model.proofs.Refusals.{call_refused}
use Rattle.model.proofs.Told.{outcome_told, refused_told}
use Rattle.model.proofs.Verdicts.{first_here, first_later, first_none, first_append}

pub never_none : (cause : Cause) → cause_number cause ≡ 0 → ⊥
never_none cause = eqb-false _ _ (refused_told cause)

pub cause_same : (x y : Cause) → cause_number x ≡ cause_number y → x ≡ y
cause_same x y e =
    let same : Err x ≡ Err y = sym (outcome_told (Err x)) ∙ ap outcome_of e ∙ outcome_told (Err y) in
    cc

-- a table that the code reads line by line
pub ruleset table = (first_here, first_later, first_none)

module _ (front back : List Rule) (a : absent 0 front ≡ true) where
  pub refused_first : (cause : Cause) → cause_number cause ≡ first_of front → first_of (front ++ back) ≡ cause_number cause
  unfolding pick
  refused_first cause e = first_append front back a ∙ rw (← e, refused_told cause)

  pub passed_first : 0 ≡ first_of front → first_of (front ++ back) ≡ first_of back
  unfolding pick
  passed_first none = first_append front back a ∙ rw (← none)

module _ (dev : Device) (chain main store map answers : List ℕ) where
  pub call_first : (cause : Cause) → cause_number cause ≡ first_of (lent_causes dev chain main store answers)
      → first_of (call_causes dev chain main store map answers) ≡ cause_number cause
  unfolding call_causes lent_causes
  call_first cause e = refused_first _ _ refl cause e

  pub call_map : 0 ≡ first_of (lent_causes dev chain main store answers) → first_of (call_causes dev chain main store map answers) ≡ first_of (map_causes dev store map)
  unfolding call_causes lent_causes
  call_map e = passed_first _ _ refl e

  pub refused_call : (u : Record) (cause : Cause) → cause_number cause ≡ first_of (call_causes dev chain main store map answers)
      → call_of dev chain main store u map answers ≡ record { cause = cause_number cause; reached = 0; unit = u; map = map; main = main; store = store; answers = answers }
  refused_call u cause e = call_refused dev chain main store u map answers _ (sym e) (never_none cause)

  pub call_few : (u : Record) → (call_of dev chain main store u map answers).reached ≤ 32
  call_few u = go (first_of (call_causes dev chain main store map answers) =? 0) refl
    where
      go : (b : Bool) → first_of (call_causes dev chain main store map answers) =? 0 ≡ b → (call_of dev chain main store u map answers).reached ≤ 32
      go true e = omega (arith, (callable dev chain main store map answers (eqb-true _ _ e)).few, (call_reached dev chain main store u map answers).1)
      go false e = rw (call_refused dev chain main store u map answers _ refl (eqb-false _ _ e)) (omega arith)

-- what `call_cause` stands on
pub ruleset call_rules = (call_first, call_map, lent_primary)
