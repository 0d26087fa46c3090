-- What is lent (01, What is lent), and how each of it is reached.
--     code_at, piece_at, ccw_size  a CCW of the chain, taken apart: its command byte and its piece of a data area; and its bytes
--     flag                         a flag of a CCW is on
--     store_blocks                 all blocks of the store, primaries and alternates; block_count   the device's, which are the primaries
--     alternate_at                 the bytes of an alternate
--     block_start                  where a block begins in the store, by way of the map; blocks are reached by this and by nothing else
--     block_at                     the bytes of a block: what READ shows of it
--     blocks_from, blocks_into     some blocks from one on: as READ sees them, and as WRITE leaves them
--     record_bytes, record_of, map_of, record_size
--                                  the unit record, all but its map, and its map; and their 290 bytes
--     new_record, new_map          the record of a new unit
-- `dev` is the device: its numbers, one value. Assumes nothing.
use Rattle.std.specs.Prelude.{ℕ, zero, suc, ◌+◌, ◌-◌, ◌*◌, ◌/◌, Bool, List, [], ◌∷◌, ◌++◌, length, get_or, drop}
use Rattle.numbers.specs.Bits.{bit}
use Rattle.numbers.specs.Big.{be2, be3}
use Rattle.slices.specs.Parts.{part, put, pad, zeros}
use Rattle.model.specs.declared.ccw.Piece.{Piece}
use Rattle.model.specs.declared.record.Record.{Record}
use Rattle.model.specs.declared.device.Device.{Device}
use Rattle.model.specs.Names.{sense_size}
use Rattle.model.specs.Alternates.{map_size, lies}

-- Chain: 8 bytes per CCW. Byte 0 command, 1-3 data address, 4 flags, 5 ignored, 6-7 count
abbrev pub ccw_size : ℕ
ccw_size = 8

unfoldable pub code_at : List ℕ → ℕ → ℕ
code_at chain i = get_or chain (i * ccw_size) 0

unfoldable pub piece_at : List ℕ → ℕ → Piece
piece_at chain i =
    let at = i * ccw_size in
    record { address = be3 chain (at + 1); flags = record { 0 = get_or chain (at + 4) 0 }; count = be2 chain (at + 6) }

unfoldable pub flag : Piece → ℕ → Bool
flag p n = bit p.flags.0 n

-- Store: "A block is the 512 bytes that begin at 512 times its number"; 02, ask 4: alternates lie "after its primaries, which alone
-- make its block count"

unfoldable pub store_blocks : Device → List ℕ → ℕ
store_blocks dev store = length store / dev.block

unfoldable pub block_count : Device → List ℕ → ℕ
block_count dev store = store_blocks dev store - dev.alternates

-- the bytes of an alternate, mapped or not
unfoldable pub alternate_at : Device → List ℕ → ℕ → List ℕ
alternate_at dev store i = part store ((block_count dev store + i) * dev.block) dev.block

module _ (dev : Device) (map : List ℕ) where
  unfoldable pub block_start : List ℕ → ℕ → ℕ
  block_start store block = lies map dev.alternates (block_count dev store) block * dev.block

  unfoldable pub block_at : List ℕ → ℕ → List ℕ
  block_at store block = part store (block_start store block) dev.block

  -- n blocks from one on, in a row
  unfoldable pub blocks_from : List ℕ → ℕ → ℕ → List ℕ
  blocks_from store block zero = []
  blocks_from store block (suc n) = block_at store block ++ blocks_from store (block + 1) n

  -- the store with n blocks from one on made of these bytes, in turn, and of zeros where they run out
  unfoldable pub blocks_into : List ℕ → ℕ → ℕ → List ℕ → List ℕ
  blocks_into store block zero bytes = store
  blocks_into store block (suc n) bytes = blocks_into (put store (block_start store block) (pad dev.block bytes)) (block + 1) n (drop dev.block bytes)

-- Unit record: sense (24), blocks read (3), blocks written with check (3), access movements (2), ready (1), read-only (1); 02, ask 4:
-- "The unit record gains a map .. The record is then 290 bytes"
abbrev pub map_place : ℕ
map_place = 34

abbrev pub record_size : ℕ
record_size = 290

unfoldable pub unit_bytes : Record → List ℕ
unit_bytes u = u.sense ++ u.blocks_read ++ u.blocks_written ++ u.movements ++ (u.ready ∷ u.read_only ∷ [])

abbrev pub record_bytes : Record → List ℕ → List ℕ
record_bytes u map = unit_bytes u ++ map

unfoldable pub record_of : List ℕ → Record
record_of l = record {
  sense = part l 0 sense_size;
  blocks_read = part l sense_size 3;
  blocks_written = part l 27 3;
  movements = part l 30 2;
  ready = get_or l 32 0;
  read_only = get_or l 33 0;
}

unfoldable pub map_of : List ℕ → List ℕ
map_of l = part l map_place map_size

-- "sense and counts with zero": the record of a new unit; its map is empty
unfoldable pub new_record : ℕ → ℕ → Record
new_record ready read_only = record
    { sense = zeros sense_size; blocks_read = zeros 3; blocks_written = zeros 3; movements = zeros 2; ready = ready; read_only = read_only }

abbrev pub new_map : List ℕ
new_map = zeros map_size
