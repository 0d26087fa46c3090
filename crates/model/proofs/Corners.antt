-- The order of the causes, and what is not tested when, seen in whole calls. A corner says which rules of a table hold, all of
-- them, and the call gives the first. A line mends what the line before it was refused for, so of any two neighbours of a table
-- there is a line where both rules hold.
--     corners         commands: 13, 10, 11, 12, 44, 43; 20 to 26; 30 to 39; 41, 42
--     call_corners    the call from C: 1 to 6 and 8
--     return_corners  an alternate given back: 2, 6, 8, 50 and 51
--     storage_limit, store_limit
--                     both sides of the two limits that no example can hold
-- Assumes nothing.
use Prim.Native.Nat.{ℕ, ◌*◌}
use mathlib.Core.Path.{◌≡◌, refl}
use mathlib.Core.List.{List, [], ◌∷◌, ◌++◌, map}
use lib.ListN.{length, get_or, drop, replicate}
use Rattle.model.specs.Names.{DEFECTIVE, NO_OPERATION, DEFINE_EXTENT, LOCATE, READ, WRITE, READ_IPL, SENSE, SENSE_TYPE, format, write_data, read_data, read_replicated}
use Rattle.numbers.specs.Choice.{pick}
use Rattle.model.specs.Rules.{Rule, first_of}
use Rattle.numbers.specs.Big.{bytes4}
use Rattle.model.specs.Lent.{new_record, new_map, record_bytes}
use Rattle.model.specs.Pieces.{command_at}
use Rattle.model.specs.Causes.{call_causes, host_causes, give_back_causes, causes_of}
use Rattle.model.specs.Chain.{System, system, start, class_a}
use Rattle.model.specs.Host.{host_call}
use Rattle.model.specs.GiveBack.{give_back}
use Rattle.model.specs.Reached.{found}
use Rattle.model.proofs.Opened.{opened}
use Rattle.model.proofs.Inputs.{Lent, the_unit, device, entries, ccw, extent, location, cause_of}

-- the causes whose rules hold, in the table's order
abbrev held : List Rule → List ℕ
held [] = []
held (r ∷ rs) = pick r.holds (r.cause ∷ held rs) (held rs)

abbrev first : List ℕ → ℕ
first l = get_or l 0 0

-- commands

pub record Corner : Type 0 where
  pub input : Lent
  pub at : ℕ
  pub hold : List ℕ

-- the whole table of command i, on what it finds
abbrev table_at : ℕ → Lent → List Rule
table_at i l =
    let f : System = found (class_a l.alternates) l.chain i (system (start l.unit l.map) l.main l.store l.answers 0) in
    causes_of (class_a l.alternates) (command_at l.chain i) f.state f.main f.store

abbrev got : Corner → List ℕ
got c = cause_of c.at (the_unit c.input) ∷ held (table_at c.at c.input)

abbrev wanted : Corner → List ℕ
wanted c = first c.hold ∷ c.hold

-- one command on 24 bytes of main storage, to a unit that is ready (1) or not (0)
abbrev alone : ℕ → List ℕ → List ℕ → Corner
alone ready c hold = record {
  input = record { chain = c; main = replicate 24 0; store = device 1; unit = new_record ready 0; alternates = 0; map = new_map; answers = replicate 16 0 };
  at = 0;
  hold = hold;
}

-- command i of a chain on four blocks, of a unit that is read-only (1) or not (0), with DEFINE EXTENT's sixteen bytes at 0 and LOCATE's eight at 16
abbrev at : ℕ → List ℕ → ℕ → List ℕ → List ℕ → List ℕ → Corner
at i chain read_only e l hold = record {
  input = record { chain = chain; main = e ++ l; store = device 4; unit = new_record 1 read_only; alternates = 0; map = new_map; answers = replicate 40 0 };
  at = i;
  hold = hold;
}

abbrev defining : List ℕ
defining = ccw DEFINE_EXTENT 0 0x40 16

abbrev locating : ℕ → List ℕ
locating flags = ccw LOCATE 16 flags 8

-- an extent over all four blocks, with this mask
abbrev masked : ℕ → List ℕ
masked mask = mask ∷ drop 1 (extent 0 0 3)

-- DEFINE EXTENT with these sixteen bytes
abbrev defined : List ℕ → List ℕ → Corner
defined e hold = at 0 (ccw DEFINE_EXTENT 0 0x00 16) 0 e [] hold

-- LOCATE with these eight bytes, under a mask, on a unit that is read-only or not
abbrev located : ℕ → ℕ → List ℕ → List ℕ → Corner
located read_only mask l hold = at 1 (defining ++ locating 0x00) read_only (masked mask) l hold

abbrev pub lines : List Corner
lines =
    -- any command
    alone 0 (ccw 0x08 99 0x10 0) (13 ∷ 10 ∷ 11 ∷ 12 ∷ 44 ∷ 43 ∷ [])
    ∷ alone 0 (ccw 0x07 99 0x10 0) (10 ∷ 11 ∷ 12 ∷ 44 ∷ 43 ∷ [])
    ∷ alone 0 (ccw 0x07 99 0x00 0) (11 ∷ 12 ∷ 44 ∷ 43 ∷ [])
    ∷ alone 0 (ccw 0x07 1 0x00 24) (12 ∷ 44 ∷ 43 ∷ [])
    ∷ alone 0 (ccw 0x07 0 0x00 24) (44 ∷ 43 ∷ [])
    ∷ alone 1 (ccw 0x07 0 0x00 24) (43 ∷ [])
    -- piece by piece: all tests of a piece before those of the next; the byte of a later piece is not looked at
    ∷ alone 0 (ccw 0x07 1 0x80 24 ++ ccw 0x07 0 0x10 0) (12 ∷ 44 ∷ 43 ∷ [])
    ∷ alone 0 (ccw 0x07 0 0x80 24 ++ ccw 0x08 99 0x10 0) (10 ∷ 11 ∷ 12 ∷ 44 ∷ 43 ∷ [])
    ∷ alone 0 (ccw 0x07 0 0x80 24 ++ ccw 0x08 99 0x00 0) (11 ∷ 12 ∷ 44 ∷ 43 ∷ [])
    ∷ alone 0 (ccw 0x07 0 0x80 24 ++ ccw 0x08 1 0x00 24) (12 ∷ 44 ∷ 43 ∷ [])
    ∷ alone 1 (ccw SENSE 0 0x80 20 ++ ccw 0x08 0 0x00 4) []
    -- 12 is not tested for NO-OPERATION; 44 is not given to SENSE and SENSE TYPE
    ∷ alone 1 (ccw NO_OPERATION 99 0x00 24) []
    ∷ alone 0 (ccw NO_OPERATION 0 0x00 1) (44 ∷ [])
    ∷ alone 0 (ccw SENSE 0 0x00 24) []
    ∷ alone 0 (ccw SENSE_TYPE 0 0x00 24) []
    -- DEFINE EXTENT where an extent stands, READ IPL's too
    ∷ at 1 (defining ++ ccw DEFINE_EXTENT 16 0x00 15) 0 (extent 0 0 3) ((0x88 ∷ 0 ∷ 0 ∷ 7 ∷ []) ++ drop 4 (extent 4 1 0)) (20 ∷ 21 ∷ 22 ∷ 23 ∷ 24 ∷ 25 ∷ 26 ∷ [])
    ∷ at 1 (defining ++ ccw DEFINE_EXTENT 16 0x00 16) 0 (extent 0 0 3) ((0x88 ∷ 0 ∷ 0 ∷ 7 ∷ []) ++ drop 4 (extent 4 1 0)) (21 ∷ 22 ∷ 23 ∷ 24 ∷ 25 ∷ 26 ∷ [])
    ∷ at 1 (ccw READ_IPL 16 0x60 1 ++ ccw DEFINE_EXTENT 0 0x00 16) 0 (extent 0 0 3) (0 ∷ []) (21 ∷ [])
    -- 20 goes by the sum
    ∷ at 0 (ccw DEFINE_EXTENT 0 0x80 8 ++ ccw 0 8 0x00 7) 0 (extent 0 0 3) [] (20 ∷ [])
    ∷ at 0 (ccw DEFINE_EXTENT 0 0x80 8 ++ ccw 0 8 0x00 8) 0 (extent 0 0 3) [] []
    -- and its sixteen bytes
    ∷ defined ((0x88 ∷ 0 ∷ 0 ∷ 7 ∷ []) ++ drop 4 (extent 4 1 0)) (22 ∷ 23 ∷ 24 ∷ 25 ∷ 26 ∷ [])
    ∷ defined ((0x08 ∷ 0 ∷ 0 ∷ 7 ∷ []) ++ drop 4 (extent 4 1 0)) (23 ∷ 24 ∷ 25 ∷ 26 ∷ [])
    ∷ defined ((0x00 ∷ 0 ∷ 0 ∷ 7 ∷ []) ++ drop 4 (extent 4 1 0)) (24 ∷ 25 ∷ 26 ∷ [])
    ∷ defined (extent 4 1 0) (25 ∷ 26 ∷ [])
    ∷ defined (extent 4 0 0) (26 ∷ [])
    ∷ defined (extent 3 0 0) []
    -- LOCATE with no extent, then with too few bytes
    ∷ at 0 (ccw LOCATE 16 0x00 7) 0 (extent 0 0 3) (location 0x87 0 0 0x9000000) (30 ∷ 31 ∷ 32 ∷ 33 ∷ 34 ∷ 36 ∷ [])
    ∷ at 1 (defining ++ ccw LOCATE 16 0x00 7) 0 (extent 0 0 3) (location 0x87 0 0 0x9000000) (31 ∷ 32 ∷ 33 ∷ 34 ∷ 36 ∷ [])
    -- and its eight bytes: an operation that is none, a replicated read
    ∷ located 0 0xC0 (location 0x87 0 0 9) (32 ∷ 33 ∷ 34 ∷ 36 ∷ [])
    ∷ located 0 0xC0 (location 0x07 0 0 9) (33 ∷ 34 ∷ 36 ∷ [])
    ∷ located 0 0xC0 (location read_replicated 1 0 9) (34 ∷ 35 ∷ 36 ∷ [])
    ∷ located 0 0xC0 (location read_replicated 1 2 9) (35 ∷ 36 ∷ [])
    ∷ located 0 0xC0 (location read_replicated 2 2 9) (36 ∷ [])
    ∷ located 0 0xC0 (location read_replicated 2 2 0) []
    -- a format, and a write
    ∷ located 1 0x00 (location format 0 1 9) (36 ∷ 37 ∷ 38 ∷ 39 ∷ [])
    ∷ located 1 0x00 (location format 0 1 0) (37 ∷ 38 ∷ 39 ∷ [])
    ∷ located 1 0xC0 (location format 0 1 0) (38 ∷ 39 ∷ [])
    ∷ located 0 0xC0 (location format 0 1 0) (39 ∷ [])
    ∷ located 1 0x40 (location write_data 0 1 0) (37 ∷ 38 ∷ [])
    ∷ located 1 0xC0 (location write_data 0 1 0) (38 ∷ [])
    -- READ: only directly after its LOCATE, only once, and not after a write LOCATE
    ∷ at 3 (defining ++ locating 0x40 ++ ccw NO_OPERATION 0 0x40 1 ++ ccw READ 0 0x20 1) 0 (extent 0 0 3) (location write_data 0 1 0) (41 ∷ 42 ∷ [])
    ∷ at 3 (defining ++ locating 0x40 ++ ccw NO_OPERATION 0 0x40 1 ++ ccw READ 0 0x20 1) 0 (extent 0 0 3) (location read_data 0 1 0) (41 ∷ [])
    ∷ at 2 (defining ++ locating 0x40 ++ ccw READ 0 0x60 1 ++ ccw READ 0 0x20 1) 0 (extent 0 0 3) (location read_data 0 1 0) []
    ∷ at 3 (defining ++ locating 0x40 ++ ccw READ 0 0x60 1 ++ ccw READ 0 0x20 1) 0 (extent 0 0 3) (location read_data 0 1 0) (41 ∷ [])
    ∷ at 2 (defining ++ locating 0x40 ++ ccw READ 0 0x20 1) 0 (extent 0 0 3) (location write_data 0 1 0) (42 ∷ [])
    -- WRITE on a read-only unit that located nothing
    ∷ at 0 (ccw WRITE 0 0x20 1) 1 (extent 0 0 3) [] (41 ∷ 42 ∷ [])
    ∷ []

pub corners : map got lines ≡ map wanted lines
unfolding opened
corners = refl

-- the call from C: a device's alternates, a chain, a store, a record's bytes and answers, on a main storage that is one byte too long or empty

pub record CallCorner : Type 0 where
  pub alternates : ℕ
  pub chain : List ℕ
  pub main : List ℕ
  pub store : List ℕ
  pub unit : List ℕ
  pub answers : List ℕ
  pub hold : List ℕ

abbrev call_on : ℕ → List ℕ → List ℕ → List ℕ → List ℕ → List ℕ → List ℕ → CallCorner
call_on alternates chain main store unit answers hold = record { alternates = alternates; chain = chain; main = main; store = store; unit = unit; answers = answers; hold = hold }

abbrev call : List ℕ → List ℕ → List ℕ → List ℕ → List ℕ → List ℕ → CallCorner
call = call_on 0

abbrev got_call : CallCorner → List ℕ
got_call c = (host_call c.alternates c.chain c.main c.store c.unit c.answers).result ∷ held (host_causes (class_a c.alternates) c.chain c.main c.store c.unit c.answers)

-- a call that no cause refuses has one command, and reaches it
abbrev result_by : List ℕ → ℕ
result_by [] = 1
result_by (w ∷ ws) = 256 * w

abbrev wanted_call : CallCorner → List ℕ
wanted_call c = result_by c.hold ∷ c.hold

abbrev one_command : List ℕ
one_command = ccw NO_OPERATION 0 0x00 1

abbrev chained : List ℕ
chained = ccw NO_OPERATION 0 0x40 1

-- a store of n blocks
abbrev blocks : ℕ → List ℕ
blocks n = replicate (n * 512) 0

-- a device of two blocks and two alternates, with this map
abbrev mapped : List ℕ → List ℕ → CallCorner
mapped map hold = call_on 2 one_command [] (blocks 4) (record_bytes (new_record 1 0) map) (replicate 8 0) hold

abbrev pub calls : List ℕ → List CallCorner
calls large =
    call (drop 1 chained) large [] [] [] (1 ∷ 2 ∷ 3 ∷ 4 ∷ 5 ∷ 6 ∷ [])
    ∷ call chained large [] [] [] (2 ∷ 3 ∷ 4 ∷ 5 ∷ 6 ∷ [])
    ∷ call chained large (device 1) [] [] (3 ∷ 4 ∷ 5 ∷ 6 ∷ [])
    ∷ call chained [] (device 1) [] [] (4 ∷ 5 ∷ 6 ∷ [])
    ∷ call chained [] (device 1) [] (replicate 8 0) (5 ∷ 6 ∷ [])
    ∷ call (ccw NO_OPERATION 0 0x80 1) [] (device 1) [] (replicate 8 0) (5 ∷ 6 ∷ [])
    ∷ call (ccw NO_OPERATION 0 0x40 1 ++ ccw NO_OPERATION 0 0xA0 1) [] (device 1) [] (replicate 16 0) (5 ∷ 6 ∷ [])
    ∷ call one_command [] (device 1) [] (replicate 8 0) (6 ∷ [])
    -- the alternates: 64 of them, one more, and a primary before them or none
    ∷ call_on 64 one_command [] (blocks 65) [] (replicate 8 0) (6 ∷ [])
    ∷ call_on 65 one_command [] (blocks 66) [] (replicate 8 0) (2 ∷ 6 ∷ [])
    ∷ call_on 64 one_command [] (blocks 64) [] (replicate 8 0) (2 ∷ 6 ∷ [])
    -- the map of a device of two blocks and two alternates: a byte too many; an entry that names the second block, the third, of which there is
    -- none, both the second; two that are defective; an entry beyond the alternates that is, and one that names a block
    ∷ mapped (entries (3 ∷ 0 ∷ []) ++ (0 ∷ [])) (6 ∷ 8 ∷ [])
    ∷ mapped (entries (2 ∷ 0 ∷ [])) []
    ∷ mapped (entries (0 ∷ 3 ∷ [])) (8 ∷ [])
    ∷ mapped (entries (2 ∷ 2 ∷ [])) (8 ∷ [])
    ∷ mapped (entries (2 ∷ 1 ∷ [])) []
    ∷ mapped (entries (DEFECTIVE ∷ DEFECTIVE ∷ [])) []
    ∷ mapped (entries (0 ∷ 0 ∷ DEFECTIVE ∷ [])) (8 ∷ [])
    ∷ mapped (entries (0 ∷ 0 ∷ 1 ∷ [])) (8 ∷ [])
    ∷ mapped (replicate 252 0 ++ bytes4 1) (8 ∷ [])
    ∷ []

pub call_corners : (large : List ℕ) → length large ≡ 16777217 → map got_call (calls large) ≡ map wanted_call (calls large)
unfolding opened
call_corners large e = rw e refl

-- an alternate given back, on a device of four blocks and three alternates: its store, a record's bytes, and the block

pub record ReturnCorner : Type 0 where
  pub store : List ℕ
  pub unit : List ℕ
  pub block : ℕ
  pub hold : List ℕ

abbrev got_return : ReturnCorner → List ℕ
got_return c = (give_back 3 c.store c.unit c.block).result ∷ held (give_back_causes (class_a 3) c.store c.unit c.block)

abbrev wanted_return : ReturnCorner → List ℕ
wanted_return c = 256 * first c.hold ∷ c.hold

-- with these entries in the map
abbrev returns : List ℕ → ℕ → List ℕ → ReturnCorner
returns es block hold = record { store = blocks 7; unit = record_bytes (new_record 1 0) (entries es); block = block; hold = hold }

abbrev pub return_lines : List ReturnCorner
return_lines =
    record { store = []; unit = []; block = 0; hold = 2 ∷ 6 ∷ 50 ∷ 51 ∷ [] }
    ∷ record { store = blocks 7; unit = record_bytes (new_record 1 0) (entries (5 ∷ []) ++ (0 ∷ [])); block = 4; hold = 6 ∷ 8 ∷ 50 ∷ [] }
    ∷ returns (5 ∷ []) 4 (8 ∷ 50 ∷ [])
    ∷ returns (3 ∷ []) 4 (50 ∷ 51 ∷ [])
    -- a block whose number plus 1 is the entry of a defective alternate
    ∷ returns (DEFECTIVE ∷ 3 ∷ []) 0xFFFFFFFE (50 ∷ [])
    ∷ returns (DEFECTIVE ∷ 3 ∷ []) 3 (51 ∷ [])
    ∷ returns (DEFECTIVE ∷ 3 ∷ []) 2 []
    ∷ []

pub return_corners : map got_return return_lines ≡ map wanted_return return_lines
unfolding opened
return_corners = refl

-- The two limits that no example can hold: 16,777,216 bytes of main storage, and 131,072 blocks. Any list of that length, and of one more.

pub storage_limit : (main : List ℕ)
    → (length main ≡ 16777216 → first_of (call_causes (class_a 0) one_command main (device 1) new_map (replicate 8 0)) ≡ 0)
    × (length main ≡ 16777217 → first_of (call_causes (class_a 0) one_command main (device 1) new_map (replicate 8 0)) ≡ 3)
unfolding opened
storage_limit main = (λ e. rw e refl, λ e. rw e refl)

pub store_limit : (store : List ℕ)
    → (length store ≡ 131072 * 512 → first_of (call_causes (class_a 0) one_command [] store new_map (replicate 8 0)) ≡ 0)
    × (length store ≡ 131073 * 512 → first_of (call_causes (class_a 0) one_command [] store new_map (replicate 8 0)) ≡ 2)
unfolding opened
store_limit store = (λ e. rw e refl, λ e. rw e refl)
