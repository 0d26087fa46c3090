-- How a function's caller comes to what it asks for. No contract cites this file.
--     places_of        what `places` tells is a list of the blocks' places
--     places_movable   so what can move between the blocks can move between these places
--     row_movable      the same, where each block lies at its own place
--     room             room for the places of a window; room_long, room_movable   as many as there are blocks
use Prim.Native.Nat.{ℕ, ◌+◌, ◌≤◌}
use mathlib.Core.Path.{◌≡◌}
use mathlib.Core.List.{List}
use lib.ListN.{length, take, replicate, length-replicate}
use lib.Seq.{length-take-le}
use native.Mathlib.Omega.{arith}
use Rattle.model.specs.declared.decoded.Area.{Area}
use Rattle.model.specs.declared.device.Device.{Device}
use Rattle.model.specs.Lent.{block_count}
use Rattle.model.proofs.Alternates.{lies_below}
use Rattle.model.proofs.Blocks.{place_within}
use Rattle.alternates.specs.Placed.{places_from}
use Rattle.alternates.proofs.Placing.{length_places}
use Rattle.blocks.specs.Places.{Movable, RowMovable, AllMovable, PlacesOf}
use Rattle.blocks.proofs.Rows.{place_of}

-- what `places` tells
pub places_of : (dev : Device) (map store : List ℕ) (block n primaries : ℕ) (at : List ℕ) → at ≡ places_from map dev.alternates primaries block n → primaries ≡ block_count dev store
    → block + n ≤ block_count dev store → (length at ≡ n) × PlacesOf dev map store block at
places_of dev map store block n primaries at e f h =
    let long : length at ≡ n = rw e (length_places map dev.alternates primaries block n) in
    (long, record { stored = rw long h; places = rw (long, ← f) e })

pub places_movable : (dev : Device) (map store : List ℕ) (block : ℕ) (at chain : List ℕ) (a : Area) (main : List ℕ) (n k : ℕ) → Movable dev store map block n chain a main k
    → length at ≡ n → PlacesOf dev map store block at → AllMovable dev store at chain a main k
unfolding block_count
places_movable dev map store block at chain a main n k m e p = record {
  device = m.mounted.device;
  stored = λ j b.
      let there = place_of dev map store block at j p b in
      let below = lies_below map dev.alternates (block_count dev store) (block + j) (omega (arith, p.stored, b)) in
      omega (arith, there, below, m.mounted.some_block);
  bytes = rw e m.bytes;
  area = m.area;
}

-- each block at its own place
pub row_movable : (dev : Device) (store map : List ℕ) (block blocks : ℕ) (chain : List ℕ) (a : Area) (main : List ℕ) (n : ℕ) → Movable dev store map block blocks chain a main n
    → RowMovable dev store block blocks chain a main n
row_movable dev store map block blocks chain a main n m = record {
  stored = place_within dev store block blocks m.mounted.some_block (omega (arith, m.stored));
  bytes = m.bytes;
  area = m.area;
}

-- the room that a window of w blocks has for their places
abbrev pub room : ℕ → List ℕ
room w = take w (replicate 128 0)

pub room_long : (w : ℕ) → w ≤ 128 → length (room w) ≡ w
room_long w h = length-take-le w (replicate 128 0) (rw length-replicate h)

pub room_movable : (dev : Device) (store map : List ℕ) (block w : ℕ) (chain : List ℕ) (a : Area) (main : List ℕ) (n : ℕ) → w ≤ 128 → Movable dev store map block w chain a main n
    → Movable dev store map block (length (room w)) chain a main n
room_movable dev store map block w chain a main n h m = rw (room_long w h) m
