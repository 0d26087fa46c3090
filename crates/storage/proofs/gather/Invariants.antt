-- `gather` meets its contract. Before each piece, the bytes that are left to fetch, behind those that were, make the whole; the CCWs left fall. Assumes nothing.
use Prim.Native.Nat.{◌-◌, ◌≤◌}
use mathlib.Core.Path.{◌≡◌}
use lib.ListN.{length, take}
use Rattle.slices.specs.Parts.{put}
use Rattle.model.specs.Pieces.{bytes_in}
use Rattle.model.specs.Decoded.{area_of}
use Rattle.model.specs.Safe.{InArea}
use Rattle.storage.proofs.gather.Given as goal

abbrev pub invariant-loop-from : goal.invariant-loop-from
invariant-loop-from l =
    let n = length l.initial.to in
    (l.done ≤ n) × InArea l.chain l.from l.main (n - l.done)
    × (put l.to l.done (take (n - l.done) (bytes_in (area_of l.chain l.from) l.main)) ≡ take n (bytes_in (area_of l.chain l.initial.from) l.main))

abbrev pub decreases-loop-from : goal.decreases-loop-from
decreases-loop-from l = l.from.end - l.from.next
