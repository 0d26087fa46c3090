-- `alternates::places` meets its contract. The invariant: each place is where its block lies by the entries from i on. The measure: the
use Prim.Native.Nat.{ℕ, ◌+◌, ◌≤◌, ◌<◌}
use mathlib.Core.Path.{◌≡◌}
use lib.ListN.{length, get_or}
use Rattle.alternates.proofs.Placing.{lies_from}
use Rattle.alternates.proofs.places.Given as goal

abbrev pub invariant-loop-i : goal.invariant-loop-i
invariant-loop-i l =
    (l.i ≤ l.alternates) × (length l.to ≡ length l.initial.to) × ((j : ℕ) → j < length l.initial.to → get_or l.to j 0 ≡ lies_from l.map l.alternates l.primaries l.i (l.block + j))
