-- `alternates::entries_wrong` meets its contract. The invariant: no entry before i is bad, and each was met: the mark of its bucket stands. So
-- where a bucket has no mark, no entry before is equal.
use Prim.Native.Nat.{ℕ, ◌<◌}
use mathlib.Core.Path.{◌≡◌}
use mathlib.Core.Bool.{false}
use lib.ListN.{length}
use Rattle.model.specs.Alternates.{bad_entry}
use Rattle.alternates.proofs.Wrong.{Met}
use Rattle.alternates.proofs.entries_wrong.Given as goal

abbrev pub invariant-loop-i : goal.invariant-loop-i
invariant-loop-i l = (length l.met ≡ 256) × ((k : ℕ) → k < l.i → bad_entry l.map l.alternates l.primaries k ≡ false) × Met l.map l.i l.met
