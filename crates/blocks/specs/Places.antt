-- What the functions that move blocks ask for, and what they say of places. A place is a number among all blocks of the store.
--     Movable       n bytes can move between blocks of a device and the front of a data area
--     RowMovable    the same, of so many blocks that lie in a row from a place on
--     AllMovable    the same, of the blocks whose places are listed
--     PlacesOf      such a list is that of the device's blocks from one on
--     follows       the next of two places is behind the other
--     no_alternate  no alternate of the device is in use: each block lies at its own place
-- Assumes nothing.
use Rattle.std.specs.Prelude.{ℕ, ◌+◌, ◌*◌, ◌%◌, ◌≤◌, ◌<◌, ◌≡◌, Bool, ◌||◌, List, length, get_or}
use Rattle.numbers.specs.Choice.{◌=?◌}
use Rattle.model.specs.declared.decoded.Area.{Area}
use Rattle.model.specs.declared.device.Device.{Device}
use Rattle.model.specs.Lent.{store_blocks, block_count}
use Rattle.model.specs.Safe.{Usable, Mounted, InArea}
use Rattle.alternates.specs.Used.{none_used}
use Rattle.alternates.specs.Placed.{places_from}

pub record Movable (dev : Device) (store map : List ℕ) (block blocks : ℕ) (chain : List ℕ) (a : Area) (main : List ℕ) (n : ℕ) : Type 0 where
  pub mounted : Mounted dev store map
  pub stored : block + blocks ≤ block_count dev store
  pub bytes : n ≤ blocks * dev.block
  pub area : InArea chain a main n

pub record RowMovable (dev : Device) (store : List ℕ) (at blocks : ℕ) (chain : List ℕ) (a : Area) (main : List ℕ) (n : ℕ) : Type 0 where
  pub stored : at * dev.block + blocks * dev.block ≤ length store
  pub bytes : n ≤ blocks * dev.block
  pub area : InArea chain a main n

pub record AllMovable (dev : Device) (store at chain : List ℕ) (a : Area) (main : List ℕ) (n : ℕ) : Type 0 where
  pub device : Usable dev
  pub stored : (j : ℕ) → j < length at → get_or at j 0 < store_blocks dev store
  pub bytes : n ≤ length at * dev.block
  pub area : InArea chain a main n

pub record PlacesOf (dev : Device) (map store : List ℕ) (block : ℕ) (at : List ℕ) : Type 0 where
  pub stored : block + length at ≤ block_count dev store
  pub places : at ≡ places_from map dev.alternates (block_count dev store) block (length at)

-- places are far below 2^64
abbrev pub follows : ℕ → ℕ → Bool
follows place next = (place + 1) % 18446744073709551616 =? next

unfoldable pub no_alternate : Device → List ℕ → Bool
no_alternate dev map = dev.alternates =? 0 || none_used map
