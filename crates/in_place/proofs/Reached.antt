-- A call gives at most 32 answers, a refused one leaves the map, and what it gave is the outcome. No contract cites this file.
use Prim.Native.Nat.{ℕ, ◌≤◌}
use mathlib.Core.Path.{◌≡◌, sym, ap, ◌∙◌}
use mathlib.Core.List.{List}
use Rattle.model.specs.declared.record.Record.{Record}
use Rattle.model.specs.declared.record.UnitRecord.{UnitRecord}
use Rattle.model.specs.Rules.{first_of}
use Rattle.model.specs.Causes.{call_causes}
use Rattle.model.specs.Chain.{Called, call_of, call, class_a}
use Rattle.model.specs.Host.{result_of}
use Rattle.model.proofs.Refusals.{call_refused}
use Rattle.chain.proofs.Passed.{call_few}
use Rattle.in_place.specs.Run.{given, outcome}

module _ (alternates : ℕ) (chain main store : List ℕ) (u : Record) (map answers : List ℕ) where
  pub reached_few : (c : Called) → c ≡ call alternates chain main store u map answers → c.reached ≤ 32
  reached_few c e = rw e (call_few (class_a alternates) chain main store map answers u)

  -- a refused call leaves the map as it was
  pub map_kept : (c : Called) → c ≡ call alternates chain main store u map answers → (c.cause ≡ 0 → ⊥) → c.map ≡ map
  unfolding call_of
  map_kept c e n =
      let cause : c.cause ≡ first_of (call_causes (class_a alternates) chain main store map answers) = ap (λ (d : Called). d.cause) e in
      ap (λ (d : Called). d.map) (e ∙ call_refused (class_a alternates) chain main store u map answers _ (sym cause) n)

pub gives_outcome : (r : UnitRecord) (alternates : ℕ) (chain storage store answers : List ℕ) (c : Called) (code : ℕ)
    → c ≡ call alternates chain storage store r.unit r.map answers → code ≡ result_of c.cause c.reached
    → record { unit = record { unit = c.unit; map = c.map }; code = code; storage = c.main; store = c.store; answers = c.answers } ≡ outcome r alternates chain storage store answers
unfolding outcome
gives_outcome r alternates chain storage store answers c code e f = rw f (ap given e)
