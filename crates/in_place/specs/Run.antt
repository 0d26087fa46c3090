-- What a run does, as one equation: the record, the result, and each lent slice afterwards.
--     Outcome, outcome   all of it, by the definition's call; given   of a call that is known
--     ByValue            the run by value gives the outcome
--     InPlace            so does the run in place, with the record as it then is
-- Assumes nothing.
use Rattle.std.specs.Prelude.{ℕ, ◌≡◌, List}
use Rattle.model.specs.declared.record.UnitRecord.{UnitRecord}
use Rattle.model.specs.Chain.{Called, call}
use Rattle.model.specs.Host.{result_of}
use Rattle.in_place.specs.declared.Ran.{Ran}

pub record Outcome : Type 0 where
  pub unit : UnitRecord
  pub code : ℕ
  pub storage : List ℕ
  pub store : List ℕ
  pub answers : List ℕ

abbrev pub given : Called → Outcome
given c = record { unit = record { unit = c.unit; map = c.map }; code = result_of c.cause c.reached; storage = c.main; store = c.store; answers = c.answers }

unfoldable pub outcome : UnitRecord → ℕ → List ℕ → List ℕ → List ℕ → List ℕ → Outcome
outcome r alternates chain storage store answers = given (call alternates chain storage store r.unit r.map answers)

pub record ByValue (r : UnitRecord) (alternates : ℕ) (chain storage store answers : List ℕ) (w : Ran) (storage' store' answers' : List ℕ) : Type 0 where
  pub is : record { unit = w.unit; code = w.code; storage = storage'; store = store'; answers = answers' } ≡ outcome r alternates chain storage store answers

pub record InPlace (r : UnitRecord) (alternates : ℕ) (chain storage store answers : List ℕ) (c : ℕ) (r' : UnitRecord) (storage' store' answers' : List ℕ) : Type 0 where
  pub is : record { unit = r'; code = c; storage = storage'; store = store'; answers = answers' } ≡ outcome r alternates chain storage store answers
