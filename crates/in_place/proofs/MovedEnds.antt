-- Demand 3, the code: two runs of the library that differ as the demand says end alike.
--     EndAlike                 what the two runs give, in the words of the definition's `SameAfter`
--     cores_alike, runs_alike  by value, and in place
-- Assumes nothing.
use Prim.Native.Nat.{ℕ}
use mathlib.Core.Path.{◌≡◌}
use mathlib.Core.List.{List}
use lib.ListN.{length}
use Rattle.model.specs.declared.record.UnitRecord.{UnitRecord}
use Rattle.model.specs.Alternates.{map_size}
use Rattle.model.specs.Chain.{class_a}
use Rattle.model.specs.Moved.{Own, own, Moved, SameLent}
use Rattle.model.proofs.MovedRun.{moved_same}
use Rattle.in_place.specs.Run.{Outcome, outcome, ByValue, InPlace}

-- the records are equal but for their maps
pub record EndAlike (alternates : ℕ) (chain : List ℕ) (d : ℕ) (map : List ℕ) (l l' : Own) (o o' : Outcome) : Type 0 where
  pub unit : o.unit.unit ≡ o'.unit.unit
  pub code : o.code ≡ o'.code
  pub answers : o.answers ≡ o'.answers
  pub lent : SameLent (class_a alternates) chain d map l l' o.unit.map o'.unit.map (own o.storage o.store) (own o'.storage o'.store)

-- o and o' are what the two runs gave, each with all that was lent as it then is
module _ (r : UnitRecord) (alternates : ℕ) (chain : List ℕ) (d : ℕ) (l l' : Own) (answers : List ℕ) (h : Moved (class_a alternates) chain d r.map l l') (long : length r.map ≡ map_size) (o o' : Outcome) where
  outcomes_alike : o ≡ outcome r alternates chain l.main l.store answers → o' ≡ outcome r alternates chain l'.main l'.store answers → EndAlike alternates chain d r.map l l' o o'
  unfolding outcome
  outcomes_alike p q =
      let s = moved_same (class_a alternates) chain d r.map l l' h r.unit answers long in
      rw (p, q) (record { unit = s.unit; code = rw (s.cause, s.reached); answers = s.answers; lent = s.lent })

  pub cores_alike : ByValue r alternates chain l.main l.store answers (record { unit = o.unit; code = o.code }) o.storage o.store o.answers
      → ByValue r alternates chain l'.main l'.store answers (record { unit = o'.unit; code = o'.code }) o'.storage o'.store o'.answers
      → EndAlike alternates chain d r.map l l' o o'
  cores_alike p q = outcomes_alike p.is q.is

  pub runs_alike : InPlace r alternates chain l.main l.store answers o.code o.unit o.storage o.store o.answers
      → InPlace r alternates chain l'.main l'.store answers o'.code o'.unit o'.storage o'.store o'.answers
      → EndAlike alternates chain d r.map l l' o o'
  runs_alike p q = outcomes_alike p.is q.is
