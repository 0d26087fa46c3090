-- The parameters of DEFINE EXTENT and of LOCATE, taken apart, and what an extent says of a displacement.
--     extent_in, size_in, reserved_in    01, DEFINE EXTENT; 002, 2.1.3: the sixteen bytes
--     located_in, modifiers_in, replication_in, processed
--                                        01, LOCATE; 002, 2.1.4: the eight bytes
--     operations, reads, writes          the five operations
--     forbids                            the operations that a mask forbids, by its bits 0-1
--     address                            the address rule: the one place where offset and displacement meet
--     outside                            a block to be processed is outside the extent
-- Offset and displacement are two kinds of number: an offset counts from the device's first block, a displacement
-- from the data set's first. Sums are of whole numbers: nothing wraps. Assumes nothing.
use Rattle.std.specs.Prelude.{ℕ, ◌+◌, ◌-◌, ◌%◌, Bool, not, ◌&&◌, ◌||◌, List, [], ◌∷◌, get_or}
use Rattle.numbers.specs.Big.{be2, be4}
use Rattle.numbers.specs.Bits.{bit}
use Rattle.model.specs.declared.extent.Displacement.{Displacement}
use Rattle.model.specs.declared.extent.Extent.{Extent}
use Rattle.model.specs.declared.extent.Located.{Located}
use Rattle.model.specs.Names.{format, write_data, write_check, read_data, read_replicated}
use Rattle.numbers.specs.Choice.{◌<?◌, ◌=?◌, pick, one_of}

-- DEFINE EXTENT: mask, zero, block size (2), offset (4), first displacement (4), last displacement (4)

abbrev pub extent_length : ℕ
extent_length = 16

unfoldable pub extent_in : List ℕ → Extent
extent_in p = record { mask = get_or p 0 0; offset = record { 0 = be4 p 4 }; first = record { 0 = be4 p 8 }; last = record { 0 = be4 p 12 } }

unfoldable pub reserved_in : List ℕ → ℕ
reserved_in p = get_or p 1 0

unfoldable pub size_in : List ℕ → ℕ
size_in p = be2 p 2

-- LOCATE: operation byte (modifiers in bits 0-3, operation in 4-7), replication count, block count (2), relative displacement (4)

abbrev pub locate_length : ℕ
locate_length = 8

unfoldable pub located_in : List ℕ → Located
located_in p = record { operation = get_or p 0 0 % 16; blocks = be2 p 2; displacement = record { 0 = be4 p 4 } }

unfoldable pub modifiers_in : List ℕ → ℕ
modifiers_in p = get_or p 0 0

unfoldable pub replication_in : List ℕ → ℕ
replication_in p = get_or p 1 0

-- "The blocks processed are as many as the block count, or as the replication count for operation 2"
unfoldable pub processed : Located → ℕ → ℕ
processed l replication = pick (l.operation =? read_replicated) replication l.blocks

-- the five operations; which of them a READ may follow, and which a WRITE

abbrev pub operations : List ℕ
operations = format ∷ write_data ∷ write_check ∷ read_data ∷ read_replicated ∷ []

abbrev pub reads : ℕ → Bool
reads = one_of (read_data ∷ read_replicated ∷ [])

abbrev pub writes : ℕ → Bool
writes = one_of (write_data ∷ write_check ∷ [])

-- 01, DEFINE EXTENT; 002, 2.1.3: whether mask bits 0-1 forbid an operation. 11 forbids none. Cause 22 keeps 10 from ever standing.
unfoldable pub forbids : ℕ → ℕ → Bool
forbids mask operation =
    (not (bit mask 0) && operation =? format)  -- 00 and 01: "Format write operations shall be inhibited"
    || (not (bit mask 0) && bit mask 1 && writes operation)  -- 01: "All write operations shall be inhibited"
    || (bit mask 0 && not (bit mask 1) && one_of operations operation)  -- 10: "Invalid, must not be used"

-- 002, 2.1.4: "FirstBlockAccessed = RelativeDisplacement - ExtentFirstDisplacement + Extent Offset"
unfoldable pub address : Extent → Displacement → ℕ
address e d = (d.0 - e.first.0) + e.offset.0

-- n blocks from a displacement on are not all within the extent
unfoldable pub outside : Extent → Displacement → ℕ → Bool
outside e d n = d.0 <? e.first.0 || e.last.0 + 1 <? d.0 + n
