-- What each of the nine commands does (01, Commands that are accepted), and one command whole.
--     Out        what a command gives: the numbers of its answer and the new state, main storage, the store
--     leaves     what a command leaves of the state, by the kind of its cause
--     ending     how a command ends, accepted or refused: the numbers of its answer, and what it leaves
--     begun      the blocks that so many bytes begin
--     map_after  the map that a LOCATE leaves: another one after a format
--     no_operation, define_extent, locate, read, write, read_ipl, sense, sense_type, read_log
--                an accepted command; define_done and the like are its ending, beside the bytes that it moves
--     refused    a command that was given a cause, and with it this sense (sense_given)
--     accepted   a command that no cause refuses, by its code
--     seen       the state that a command of the unit begins with: cleared, but for two commands
--     decided    accepted or refused, by a verdict
--     performed  a command that the channel and the unit passed on: refused by the first of its own causes that holds, or accepted
--     step       one command: by the first of all its causes
-- Assumes nothing.
use Rattle.std.specs.Prelude.{ℕ, ◌+◌, ◌-◌, ◌*◌, ◌/◌, min, true, List, [], ◌∷◌, take}
use Rattle.numbers.specs.Choice.{◌=?◌, pick, one_of}
use Rattle.slices.specs.Parts.{zeros}
use Rattle.model.specs.declared.device.Device.{Device}
use Rattle.model.specs.declared.extent.Extent.{Extent}
use Rattle.model.specs.declared.extent.Located.{Located}
use Rattle.model.specs.declared.kind.Kind.{Kind}
use Rattle.model.specs.declared.kind.Kind.TheVariants.{Accepted, ProgramCheck, UnitCheck}
use Rattle.model.specs.declared.record.Record.{Record}
use Rattle.model.specs.declared.state.Before.{Before}
use Rattle.model.specs.declared.state.Before.TheVariants.{ReadIpl, Locate, Other}
use Rattle.model.specs.State.{State, Done}
use Rattle.model.specs.Names.{NO_OPERATION, DEFINE_EXTENT, LOCATE, READ, WRITE, READ_IPL, SENSE, SENSE_TYPE, format, write_check, sense_size}
use Rattle.model.specs.Rules.{first_of}
use Rattle.model.specs.Alternates.{formatted}
use Rattle.model.specs.Lent.{block_count, blocks_from, blocks_into}
use Rattle.model.specs.Pieces.{Command, total, fetched, delivered}
use Rattle.model.specs.Parameters.{extent_length, extent_in, locate_length, located_in, address}
use Rattle.model.specs.Causes.{kind_of, bytes_read, own_causes, verdict}
use Rattle.model.specs.Sense.{shown, sense_of}
use Rattle.model.specs.Log.{with_sense, read_counted, written_counted, movement_counted, log_of, log_reset}

pub record Out : Type 0 where
  pub done : Done
  pub main : List ℕ
  pub store : List ℕ

abbrev pub out : Done → List ℕ → List ℕ → Out
out d main store = record { done = d; main = main; store = store }

-- the state after a command: the unit record as it left it, and what the next command has before it
unfoldable pub after : State → Record → Before → State
after s u before = record { unit = u; map = s.map; defined = s.defined; extent = s.extent; before = before; located = s.located }

unfoldable pub extent_set : State → Record → Extent → Before → State
extent_set s u e before = record { unit = u; map = s.map; defined = true; extent = e; before = before; located = s.located }

unfoldable pub locate_set : State → Record → List ℕ → Located → State
locate_set s u map l = record { unit = u; map = map; defined = s.defined; extent = s.extent; before = Locate; located = l }

-- how a command ends: a program check leaves the record as it is, a unit check gives it new sense

abbrev pub leaves : Kind → State → List ℕ → State
leaves Accepted s sense = s
leaves ProgramCheck s sense = after s s.unit Other
leaves UnitCheck s sense = after s (with_sense s.unit sense) Other

abbrev pub ending : State → ℕ → List ℕ → ℕ → ℕ → ℕ → Done
ending s cause sense moved can blocks = record { state = leaves (kind_of cause) s sense; cause = cause; moved = moved; can = can; blocks = blocks }

abbrev pub ended : State → ℕ → ℕ → ℕ → Done
ended s moved can blocks = ending s 0 [] moved can blocks

-- the commands that move no block

-- "NO-OPERATION moves nothing"
unfoldable pub no_operation : State → List ℕ → List ℕ → Out
no_operation s main store = out (ended (after s s.unit Other) 0 0 0) main store

unfoldable pub define_done : State → List ℕ → Done
define_done s p = ended (extent_set s s.unit (extent_in p) Other) extent_length extent_length 0

unfoldable pub define_extent : Command → State → List ℕ → List ℕ → Out
define_extent c s main store = out (define_done s (fetched c main extent_length)) main store

-- 002, 2.1.4: the first block that a LOCATE accesses
abbrev pub first_block : Extent → Located → ℕ
first_block e l = address e l.displacement

-- 02, ask 4: a format "moves no data"; it leaves another map
unfoldable pub map_after : Device → List ℕ → Extent → Located → List ℕ
map_after dev map e l = pick (l.operation =? format) (formatted map dev.alternates (first_block e l)) map

-- "A later LOCATE replaces an earlier one. It counts one access movement."
unfoldable pub locate_done : Device → State → List ℕ → Done
locate_done dev s p = ended (locate_set s (movement_counted s.unit) (map_after dev s.map s.extent (located_in p)) (located_in p)) locate_length locate_length 0

unfoldable pub locate : Device → Command → State → List ℕ → List ℕ → Out
locate dev c s main store = out (locate_done dev s (fetched c main locate_length)) main store

-- a command that can move so many of these bytes into its data area, and leaves that unit record
unfoldable pub sent : Command → State → List ℕ → List ℕ → ℕ → List ℕ → Record → Out
sent c s main store can bytes u =
    let n = min (total c) can in
    out (ended (after s u Other) n can 0) (delivered c main (take n bytes)) store

-- "SENSE moves up to 24 bytes, then all sense is zero"
unfoldable pub sense : Command → State → List ℕ → List ℕ → Out
sense c s main store = sent c s main store sense_size s.unit.sense (with_sense s.unit (zeros sense_size))

unfoldable pub sense_type : Command → State → List ℕ → List ℕ → Out
sense_type c s main store = sent c s main store 7 (0xFF ∷ 0x00 ∷ 0x97 ∷ 0x01 ∷ 0x05 ∷ 0x12 ∷ 0x01 ∷ []) s.unit

unfoldable pub read_log : Command → State → List ℕ → List ℕ → Out
read_log c s main store = sent c s main store sense_size (log_of s.unit) (log_reset s.unit)

-- the commands that move blocks: of `can` bytes that they can move, n

-- the extent that READ IPL sets: "offset 0, first 0, last the final block, mask 00"
unfoldable pub whole_device : ℕ → Extent
whole_device blocks = record { mask = 0; offset = record { 0 = 0 }; first = record { 0 = 0 }; last = record { 0 = blocks - 1 } }

module _ (dev : Device) where
  unfoldable pub begun : ℕ → ℕ
  begun n = (n + (dev.block - 1)) / dev.block

  -- READ "adds its blocks moved to blocks read"
  unfoldable pub read_done : State → ℕ → ℕ → Done
  read_done s n can = ended (after s (read_counted (begun n) s.unit) Other) n can (begun n)

  -- what a READ or a WRITE can move, by the LOCATE before it
  abbrev pub can_move : Located → ℕ
  can_move l = l.blocks * dev.block

  -- "READ moves up to 512 times the block count into the data area"
  unfoldable pub read : Command → State → List ℕ → List ℕ → Out
  read c s main store =
      let l = s.located in
      let n = min (total c) (can_move l) in
      let bytes = blocks_from dev s.map store (first_block s.extent l) l.blocks in
      out (read_done s n (can_move l)) (delivered c main (take n bytes)) store

  -- after operation 5 all blocks of the LOCATE are written with check (002, 5.8.1)
  unfoldable pub write_done : State → ℕ → ℕ → Done
  write_done s n can =
      let l = s.located in
      let u = pick (l.operation =? write_check) (written_counted l.blocks s.unit) s.unit in
      ended (after s u Other) n can (begun n)

  -- "WRITE moves up to as many bytes into the store"; 002, 2.3: what they leave of the LOCATE's blocks is filled with zeros
  unfoldable pub write : Command → State → List ℕ → List ℕ → Out
  write c s main store =
      let l = s.located in
      let n = min (total c) (can_move l) in
      out (write_done s n (can_move l)) main (blocks_into dev s.map store (first_block s.extent l) l.blocks (fetched c main n))

  -- READ IPL "counts one block read and one access movement, and sets an extent over the whole device"
  unfoldable pub ipl_done : State → ℕ → ℕ → Done
  ipl_done s n blocks = ended (extent_set s (movement_counted (read_counted 1 s.unit)) (whole_device blocks) ReadIpl) n dev.block 1

  -- "READ IPL moves up to 512 bytes of block 0"
  unfoldable pub read_ipl : Command → State → List ℕ → List ℕ → Out
  read_ipl c s main store =
      let n = min (total c) dev.block in
      out (ipl_done s n (block_count dev store)) (delivered c main (take n (blocks_from dev s.map store 0 1))) store

  unfoldable pub accepted : Command → State → List ℕ → List ℕ → Out
  accepted c s main store =
      pick (c.command =? NO_OPERATION) (no_operation s main store)
      (pick (c.command =? DEFINE_EXTENT) (define_extent c s main store)
      (pick (c.command =? LOCATE) (locate dev c s main store)
      (pick (c.command =? READ) (read c s main store)
      (pick (c.command =? WRITE) (write c s main store)
      (pick (c.command =? READ_IPL) (read_ipl c s main store)
      (pick (c.command =? SENSE) (sense c s main store)
      (pick (c.command =? SENSE_TYPE) (sense_type c s main store)
      (read_log c s main store))))))))

-- a refused command moves no block, and of its parameters what was read of them before the refusal
abbrev pub refusal : State → ℕ → List ℕ → Done
refusal s cause sense = ending s cause sense (bytes_read cause) 0 0

-- the sense of a cause that is given to this command
abbrev pub sense_given : ℕ → Command → List ℕ → List ℕ
sense_given cause c main = sense_of cause (shown cause (fetched c main locate_length))

unfoldable pub refused : Command → State → List ℕ → List ℕ → ℕ → Out
refused c s main store cause = out (refusal s cause (sense_given cause c main)) main store

-- "Each command that the unit sees, other than 03 and 04, zeroes the pending sense before its tests"
unfoldable pub cleared : State → State
cleared s = after s (with_sense s.unit (zeros sense_size)) s.before

unfoldable pub seen : Command → State → State
seen c s = after s (pick (one_of (NO_OPERATION ∷ SENSE ∷ []) c.command) s.unit (cleared s).unit) s.before

-- accepted where no cause was given, refused by the cause where one was
unfoldable pub decided : Command → State → List ℕ → List ℕ → ℕ → Out → Out
decided c s main store cause done = pick (cause =? 0) done (refused c s main store cause)

unfoldable pub performed : Device → Command → State → List ℕ → List ℕ → Out
performed dev c s main store = decided c s main store (first_of (own_causes dev c s main store)) (accepted dev c (seen c s) main store)

unfoldable pub step : Device → Command → State → List ℕ → List ℕ → Out
step dev c s main store = decided c s main store (verdict dev c s main store) (accepted dev c (seen c s) main store)
