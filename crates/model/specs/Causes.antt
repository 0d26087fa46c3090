-- The table of causes (01, Causes): each cause with the rule by which it is given, in 01's order.
--     call_causes            1 to 5, 8          before any command; up to 5 in lent_causes, 8 in map_causes
--     host_causes            1 to 6, 8          the same, where the unit record comes as bytes; 6 in record_causes
--     give_back_causes       2, 6, 8, 50, 51    where an alternate is given back; up to 8 in device_causes, 50 and 51 in return_causes
--     channel_causes         13, 10, 11, 12     the channel's own tests of a command: program checks; from 10 on in piece_causes
--     unit_causes            44, 43             the unit's tests of any command that it sees
--     define_extent_causes   20 to 26           the commands' own tests; from 22 on in extent_causes
--     locate_causes          30 to 39           from 32 on in location_causes, from 36 on in permission_causes
--     read_ipl_causes        40
--     transfer_causes        41, 42             READ and WRITE
--     kind_of                how a cause ends its command; bytes_read   what its command has read of its parameters
--     bad_chain, bad_store, no_command and their like
--                            rules of more than one test, each above its table; contracts cite them
--     causes_of              all the lines that can apply to a command, in order; `verdict` is the first that holds
-- Where 002 overrules 01 a line says so. Assumes nothing.
use Rattle.std.specs.Prelude.{ℕ, zero, suc, ◌+◌, ◌/◌, ◌%◌, Bool, true, false, not, ◌&&◌, ◌||◌, List, [], ◌∷◌, ◌++◌, length}
use Rattle.numbers.specs.Bits.{bit, any_bit}
use Rattle.model.specs.declared.ccw.Piece.{Piece}
use Rattle.model.specs.declared.device.Device.{Device}
use Rattle.model.specs.declared.extent.Extent.{Extent}
use Rattle.model.specs.declared.extent.Located.{Located}
use Rattle.model.specs.declared.kind.Kind.{Kind}
use Rattle.model.specs.declared.kind.Kind.TheVariants.{Accepted, ProgramCheck, UnitCheck}
use Rattle.model.specs.declared.state.Before.{Before}
use Rattle.model.specs.declared.state.Before.TheVariants.{Nothing, ReadIpl, Locate, Other}
use Rattle.model.specs.State.{State}
use Rattle.model.specs.Names.{NO_OPERATION, DEFINE_EXTENT, LOCATE, READ, WRITE, READ_IPL, SENSE, SENSE_TYPE, READ_LOG, chain_data, chain_command, format, read_replicated}
use Rattle.numbers.specs.Choice.{◌<?◌, ◌=?◌, pick, one_of}
use Rattle.model.specs.Rules.{Rule, ◌when◌, first_of}
use Rattle.model.specs.Alternates.{map_entries, alternate_of, unused_in, bad_map}
use Rattle.model.specs.Lent.{ccw_size, piece_at, flag, store_blocks, block_count, record_size, map_of}
use Rattle.model.specs.Pieces.{Command, total, fetched}
use Rattle.model.specs.Parameters.{extent_length, extent_in, reserved_in, size_in, locate_length, located_in, modifiers_in, replication_in, processed, operations, reads, writes, forbids, address, outside}

-- how a cause ends its command: 0 is acceptance; "Causes 10 to 13 are program checks .. All others are unit checks"

abbrev pub kind_by : Bool → Bool → Kind
kind_by true channels = Accepted
kind_by false true = ProgramCheck
kind_by false false = UnitCheck

abbrev pub kind_of : ℕ → Kind
kind_of cause = kind_by (cause =? 0) (one_of (10 ∷ 11 ∷ 12 ∷ 13 ∷ []) cause)

-- 002, 2.1.3 and 2.1.4: the parameters are transferred, and then checked. So what they say is refused once they are read; a short
-- count or a command out of its place before that
unfoldable pub bytes_read : ℕ → ℕ
bytes_read cause =
    pick (one_of (22 ∷ 23 ∷ 24 ∷ 25 ∷ 26 ∷ []) cause) extent_length
    (pick (one_of (32 ∷ 33 ∷ 34 ∷ 35 ∷ 36 ∷ 37 ∷ 38 ∷ 39 ∷ []) cause) locate_length 0)

-- the call

-- another CCW follows this one: one more piece of its command, or another command
abbrev pub followed : Piece → Bool
followed p = flag p chain_data || flag p chain_command

-- "when no CCW lacks both flags 80 and 40, where the chain now ends": each of the first n CCWs has one of them
unfoldable pub all_chained : List ℕ → ℕ → Bool
all_chained chain zero = true
all_chained chain (suc n) = followed (piece_at chain n) && all_chained chain n

-- no CCW, more than 32, or a part of one
abbrev pub bad_chain : ℕ → Bool
bad_chain held = held =? 0 || 256 <? held || not (held % ccw_size =? 0)

-- no block, a part of one, or more than 131,072; "cause 2 also for more than 64 alternates or no primary"
abbrev pub bad_store : Device → List ℕ → Bool
bad_store dev store =
    length store =? 0 || not (length store % dev.block =? 0) || 131072 <? store_blocks dev store
    || map_entries <? dev.alternates || not (dev.alternates <? store_blocks dev store)

unfoldable pub lent_causes : Device → List ℕ → List ℕ → List ℕ → List ℕ → List Rule
lent_causes dev chain main store answers =
    1 when bad_chain (length chain)
    ∷ 2 when bad_store dev store
    ∷ 3 when (16777216 <? length main)
    ∷ 4 when (length answers <? length chain)
    ∷ 5 when all_chained chain (length chain / ccw_size)
    ∷ []

-- "cause 8, after 6"
unfoldable pub map_causes : Device → List ℕ → List ℕ → List Rule
map_causes dev store map = 8 when bad_map map dev.alternates (block_count dev store) ∷ []

unfoldable pub call_causes : Device → List ℕ → List ℕ → List ℕ → List ℕ → List ℕ → List Rule
call_causes dev chain main store map answers = lent_causes dev chain main store answers ++ map_causes dev store map

-- "cause 6 for the new length"
abbrev pub record_causes : List ℕ → List Rule
record_causes unit = 6 when not (length unit =? record_size) ∷ []

unfoldable pub host_causes : Device → List ℕ → List ℕ → List ℕ → List ℕ → List ℕ → List Rule
host_causes dev chain main store unit answers = lent_causes dev chain main store answers ++ (record_causes unit ++ map_causes dev store (map_of unit))

-- a device as it is lent where no chain is run: 2, 6 and 8 "as the call gives them"
unfoldable pub device_causes : Device → List ℕ → List ℕ → List Rule
device_causes dev store unit = 2 when bad_store dev store ∷ (record_causes unit ++ map_causes dev store (map_of unit))

-- an alternate given back: "then cause 50 for a block beyond the device, 51 for one not mapped, in that order"

abbrev pub not_mapped : Device → List ℕ → ℕ → Bool
not_mapped dev map block = not (alternate_of map dev.alternates block <? dev.alternates)

abbrev pub return_causes : Device → List ℕ → List ℕ → ℕ → List Rule
return_causes dev store map block =
    50 when not (block <? block_count dev store)
    ∷ 51 when not_mapped dev map block
    ∷ []

unfoldable pub give_back_causes : Device → List ℕ → List ℕ → ℕ → List Rule
give_back_causes dev store unit block = device_causes dev store unit ++ return_causes dev store (map_of unit) block

-- the channel: 10 to 13 are program checks, and the unit does not see the command

-- the low four bits are 0 or 8
abbrev pub no_command : ℕ → Bool
no_command command = one_of (0 ∷ 8 ∷ []) (command % 16)

-- a flag other than 80, 40 and 20
abbrev pub other_flags : ℕ → Bool
other_flags flags = any_bit flags (3 ∷ 4 ∷ 5 ∷ 6 ∷ 7 ∷ [])

-- a piece of this command's data area leaves a main storage of so many bytes; NO-OPERATION has none
abbrev pub leaves_storage : ℕ → Piece → ℕ → Bool
leaves_storage command p held = not (command =? NO_OPERATION) && held <? p.address + p.count

-- one piece of a command, in a main storage of so many bytes
abbrev pub piece_causes : ℕ → ℕ → Piece → List Rule
piece_causes command held p =
    10 when other_flags p.flags.0
    ∷ 11 when (p.count =? 0)
    ∷ 12 when leaves_storage command p held
    ∷ []

-- "10, 11 and 12 are tested piece by piece": the first piece that one of them refuses; where none does, the last
unfoldable pub tested_of : ℕ → ℕ → Piece → List Piece → Piece
tested_of command held p [] = p
tested_of command held p (q ∷ qs) = pick (first_of (piece_causes command held p) =? 0) (tested_of command held q qs) p

abbrev pub tested : Command → ℕ → Piece
tested c held = tested_of c.command held c.first c.later

unfoldable pub channel_causes : Command → List ℕ → List Rule
channel_causes c main =
    13 when no_command c.command
    ∷ piece_causes c.command (length main) (tested c (length main))

-- the unit

abbrev pub commands : List ℕ
commands = NO_OPERATION ∷ DEFINE_EXTENT ∷ LOCATE ∷ READ ∷ WRITE ∷ READ_IPL ∷ SENSE ∷ SENSE_TYPE ∷ READ_LOG ∷ []

-- a unit that is not ready answers SENSE and SENSE TYPE alone
abbrev pub not_ready : ℕ → ℕ → Bool
not_ready ready command = ready =? 0 && not (one_of (SENSE ∷ SENSE_TYPE ∷ []) command)

unfoldable pub unit_causes : Command → State → List Rule
unit_causes c s =
    44 when not_ready s.unit.ready c.command
    ∷ 43 when not (one_of commands c.command)
    ∷ []

-- DEFINE EXTENT: whether it may stand here, then what its parameters say on a device of so many blocks

-- bits 0-1 are 10, or one of bits 2, 3, 6, 7 is one, or the byte after the mask is not zero
abbrev pub bad_mask : ℕ → ℕ → Bool
bad_mask mask reserved = (bit mask 0 && not (bit mask 1)) || any_bit mask (2 ∷ 3 ∷ 6 ∷ 7 ∷ []) || not (reserved =? 0)

-- neither zero nor the device's own
abbrev pub other_size : Device → ℕ → Bool
other_size dev size = not (one_of (0 ∷ dev.block ∷ []) size)

-- the extent's last block is not one of the device's
abbrev pub past_device : Extent → ℕ → Bool
past_device e blocks = not (address e e.last <? blocks)

unfoldable pub extent_causes : Device → ℕ → List ℕ → List Rule
extent_causes dev blocks p =
    let e = extent_in p in
    22 when bad_mask e.mask (reserved_in p)
    ∷ 23 when bit e.mask 4
    ∷ 24 when other_size dev (size_in p)
    ∷ 25 when (e.last.0 <? e.first.0)
    ∷ 26 when past_device e blocks
    ∷ []

unfoldable pub define_extent_causes : Device → ℕ → Command → State → List ℕ → List Rule
define_extent_causes dev blocks c s p =
    20 when (total c <? extent_length)
    ∷ 21 when s.defined
    ∷ extent_causes dev blocks p

-- LOCATE: whether it may stand here, what its parameters say, then whether extent, mask, switch and alternates allow n blocks so

-- the unit is read-only, and the operation writes or formats
abbrev pub inhibits : ℕ → ℕ → Bool
inhibits switch operation = not (switch =? 0) && (writes operation || operation =? format)

-- a format, and "none is unused"
abbrev pub none_to_take : Device → List ℕ → ℕ → Bool
none_to_take dev map operation = operation =? format && not (unused_in map dev.alternates <? dev.alternates)

unfoldable pub permission_causes : Device → State → Located → ℕ → List Rule
permission_causes dev s l n =
    36 when outside s.extent l.displacement n
    ∷ 37 when forbids s.extent.mask l.operation
    ∷ 38 when inhibits s.unit.read_only l.operation
    ∷ 39 when none_to_take dev s.map l.operation
    ∷ []

-- 002, 2.1.4, ignores modifier bit 3 where there is no untagged DEVICE END
abbrev pub bad_modifiers : ℕ → Bool
bad_modifiers byte = any_bit byte (0 ∷ 1 ∷ 2 ∷ [])

-- no block, or a format of other than one
abbrev pub bad_count : Located → Bool
bad_count l = l.blocks =? 0 || (l.operation =? format && not (l.blocks =? 1))

-- a replicated read whose range is not made of whole units
abbrev pub bad_replication : Located → ℕ → Bool
bad_replication l replication = l.operation =? read_replicated && (replication <? l.blocks || not (replication % l.blocks =? 0))

-- by the byte of its modifiers, what it locates, and its replication count
abbrev pub location_rules : Device → State → ℕ → Located → ℕ → List Rule
location_rules dev s modifiers l replication =
    32 when bad_modifiers modifiers
    ∷ 33 when not (one_of operations l.operation)
    ∷ 34 when bad_count l
    ∷ 35 when bad_replication l replication
    ∷ permission_causes dev s l (processed l replication)

unfoldable pub location_causes : Device → State → List ℕ → List Rule
location_causes dev s p = location_rules dev s (modifiers_in p) (located_in p) (replication_in p)

unfoldable pub locate_causes : Device → Command → State → List ℕ → List Rule
locate_causes dev c s p =
    30 when not s.defined
    ∷ 31 when (total c <? locate_length)
    ∷ location_causes dev s p

-- the command directly before

abbrev pub none_or_ipl : Before → Bool
none_or_ipl Nothing = true
none_or_ipl ReadIpl = true
none_or_ipl Locate = false
none_or_ipl Other = false

abbrev pub a_locate : Before → Bool
a_locate Nothing = false
a_locate ReadIpl = false
a_locate Locate = true
a_locate Other = false

-- READ IPL. 002, 2.2.2.1, takes it first in its chain or after another READ IPL
unfoldable pub read_ipl_causes : State → List Rule
read_ipl_causes s = 40 when not (none_or_ipl s.before) ∷ []

-- READ, WRITE, by the operations that each may follow, and whether the one located is one of them

abbrev pub transfer_rules : Before → Bool → List Rule
transfer_rules before follows = 41 when not (a_locate before) ∷ 42 when not follows ∷ []

unfoldable pub transfer_causes : (ℕ → Bool) → State → List Rule
transfer_causes follows s = transfer_rules s.before (follows s.located.operation)

-- a command

unfoldable pub own_causes : Device → Command → State → List ℕ → List ℕ → List Rule
own_causes dev c s main store =
    pick (c.command =? DEFINE_EXTENT) (define_extent_causes dev (block_count dev store) c s (fetched c main extent_length))
    (pick (c.command =? LOCATE) (locate_causes dev c s (fetched c main locate_length))
    (pick (c.command =? READ_IPL) (read_ipl_causes s)
    (pick (c.command =? READ) (transfer_causes reads s)
    (pick (c.command =? WRITE) (transfer_causes writes s) []))))

unfoldable pub causes_of : Device → Command → State → List ℕ → List ℕ → List Rule
causes_of dev c s main store = channel_causes c main ++ unit_causes c s ++ own_causes dev c s main store

unfoldable pub verdict : Device → Command → State → List ℕ → List ℕ → ℕ
verdict dev c s main store = first_of (causes_of dev c s main store)
