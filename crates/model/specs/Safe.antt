-- What functions hand on from one to the other: a device, a chain that ends, a data area, and a state that stays on the device. No way in asks for it.
--     Usable     a device that a chain may run on: a block has 1 to 65,535 bytes
--     HasMap     no more alternates than a map has entries, and a whole map
--     Mounted    such a device with its store and its map: a primary at least, no more alternates and blocks than may be
--     Closes     from a CCW on there is one that no other follows: the chain ends in what is lent of it
--     PieceFits  the numbers of a piece are no larger than their bytes hold
--     Inside     each piece is in main storage
--     InArea     n bytes are left of a command's data area, and all of it is in main storage
--     OnDevice   the extent is in order, and its last block is one of the device's
--     InExtent   the blocks of a LOCATE are in the extent
--     Safe       the extent that stands is on the device, and the LOCATE directly before is in it
-- That every command leaves a safe state is proved in `proofs/Safety.antt`. Assumes nothing.
use Rattle.std.specs.Prelude.{ℕ, ◌+◌, ◌*◌, ◌≤◌, ◌<◌, ◌≡◌, true, false, List, [], ◌∷◌, length}
use Rattle.model.specs.declared.ccw.Piece.{Piece}
use Rattle.model.specs.declared.decoded.Area.{Area}
use Rattle.model.specs.declared.device.Device.{Device}
use Rattle.model.specs.declared.extent.Extent.{Extent}
use Rattle.model.specs.declared.extent.Located.{Located}
use Rattle.model.specs.State.{State}
use Rattle.model.specs.Alternates.{map_entries, map_size}
use Rattle.model.specs.Lent.{ccw_size, piece_at, store_blocks, block_count}
use Rattle.model.specs.Parameters.{address}
use Rattle.model.specs.Pieces.{counts}
use Rattle.model.specs.Decoded.{area_of, Stands}
use Rattle.model.specs.Causes.{followed, a_locate}

pub record Usable (dev : Device) : Type 0 where
  pub some_size : 1 ≤ dev.block
  pub small_size : dev.block ≤ 65535

pub record HasMap (dev : Device) (map : List ℕ) : Type 0 where
  pub few_alternates : dev.alternates ≤ map_entries
  pub whole_map : length map ≡ map_size

pub record Mounted (dev : Device) (store map : List ℕ) : Type 0 where
  pub device : Usable dev
  pub some_block : 1 ≤ block_count dev store
  pub few_blocks : store_blocks dev store ≤ 131072
  pub few_alternates : dev.alternates ≤ map_entries
  pub whole_map : length map ≡ map_size

pub record Closes (chain : List ℕ) (i : ℕ) : Type 0 where
  pub last : ℕ
  pub from : i ≤ last
  pub lent : last * ccw_size + ccw_size ≤ length chain
  pub unfollowed : followed (piece_at chain last) ≡ false

pub record PieceFits (p : Piece) : Type 0 where
  pub count : p.count < 65536
  pub address : p.address < 16777216

abbrev pub Inside : List Piece → List ℕ → Type 0
Inside [] main = Unit {0}
Inside (p ∷ ps) main = (p.address + p.count ≤ length main) × Inside ps main

pub record InArea (chain : List ℕ) (a : Area) (main : List ℕ) (n : ℕ) : Type 0 where
  pub ccws : Stands chain a
  pub inside : Inside (area_of chain a) main
  pub left : n ≤ counts (area_of chain a)

pub record OnDevice (e : Extent) (blocks : ℕ) : Type 0 where
  pub order : e.first.0 ≤ e.last.0
  pub inside : address e e.last < blocks

pub record InExtent (e : Extent) (l : Located) : Type 0 where
  pub some : 1 ≤ l.blocks
  pub from_first : e.first.0 ≤ l.displacement.0
  pub to_last : l.displacement.0 + l.blocks ≤ e.last.0 + 1

pub record Safe (s : State) (blocks : ℕ) : Type 0 where
  pub extent : s.defined ≡ true → OnDevice s.extent blocks
  pub located : a_locate s.before ≡ true → (s.defined ≡ true) × InExtent s.extent s.located
