-- Request 3, from C: whatever the promise of `loughrella_run_class` allows, it leaves and gives what the calls of `loughrella_run`, one by one, would; refused by 7, it leaves all as it was. Assumes nothing.
use Prim.Native.Nat.{ℕ, ◌≤◌}
use mathlib.Core.Path.{◌≡◌, ◌∙◌}
use mathlib.Core.Bool.{true}
use mathlib.Core.Option.{some}
use mathlib.Core.List.{List}
use lib.ListN.{length}
use Rattle.model.specs.Chain.{class_a}
use Rattle.model.specs.Host.{result_of}
use Rattle.model.specs.Class.{ClassRun, chains_in, results_of, bad_class, run_class}
use Rattle.model.specs.OneByOne.{OneByOne}
use Rattle.model.proofs.Class.{class_refused}
use Rattle.model.proofs.OneByOne.{class_marked}

-- p is what the call gave
module _ (alternates : ℕ) (bytes main store unit results : List ℕ) (p : ClassRun) (e : p ≡ run_class alternates bytes main store unit results) where
  pub class_of_calls : (chains : List (List ℕ)) → chains_in bytes ≡ some chains → results_of chains ≤ length results
      → (p.result ≡ result_of 0 0) × OneByOne (class_a alternates) chains (record { main = main; store = store; unit = unit }) results p.left
  class_of_calls chains c h = rw e (class_marked (class_a alternates) bytes main store unit results chains c h)

  pub class_left : bad_class (chains_in bytes) (length results) ≡ true → p ≡ record { result = result_of 7 0; left = record { main = main; store = store; unit = unit; results = results } }
  class_left b = e ∙ class_refused (class_a alternates) bytes main store unit results b
