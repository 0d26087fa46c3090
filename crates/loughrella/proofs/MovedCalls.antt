-- Demand 3, from C: two calls of `loughrella_run` that differ as the demand says end alike, whatever the promise allows them to give. Assumes nothing.
use mathlib.Core.Path.{◌≡◌}
use mathlib.Core.List.{List}
use Prim.Native.Nat.{ℕ}
use Rattle.model.specs.Chain.{class_a}
use Rattle.model.specs.Lent.{map_of}
use Rattle.model.specs.Host.{Hosted, host_call}
use Rattle.model.specs.Moved.{Own, Moved, SameHosted}
use Rattle.model.proofs.MovedRun.{LendsBytes, moved_hosted}

-- p and q are what the two calls gave
pub calls_alike : (alternates : ℕ) (chain : List ℕ) (d : ℕ) (l l' : Own) (unit answers : List ℕ) (p q : Hosted) → Moved (class_a alternates) chain d (map_of unit) l l'
    → LendsBytes chain l unit answers → LendsBytes chain l' unit answers
    → p ≡ host_call alternates chain l.main l.store unit answers → q ≡ host_call alternates chain l'.main l'.store unit answers → SameHosted (class_a alternates) chain d (map_of unit) l l' p q
calls_alike alternates chain d l l' unit answers p q h b b' e f = rw (e, f) (moved_hosted (class_a alternates) chain d unit l l' h answers b b')
