-- Each place where 002 overrules 01 (docs/MISMATCHES.md), seen in whole calls: one table, one statement. Assumes nothing.
use Prim.Native.Nat.{ℕ, ◌+◌, ◌*◌}
use mathlib.Core.Path.{◌≡◌, refl}
use mathlib.Core.List.{List, [], ◌∷◌, ◌++◌, map}
use lib.ListN.{drop, replicate, get_or}
use Rattle.numbers.specs.Big.{be2, be3}
use Rattle.model.specs.declared.record.Record.{Record}
use Rattle.model.specs.Names.{NO_OPERATION, DEFINE_EXTENT, LOCATE, WRITE, READ_IPL, SENSE, READ_LOG, format, write_data, write_check, read_replicated, channel_status_at, residual_at}
use Rattle.model.specs.Lent.{new_record, new_map}
use Rattle.model.specs.Answer.{answer_size}
use Rattle.model.specs.Chain.{Called}
use Rattle.model.proofs.Opened.{opened}
use Rattle.model.proofs.Inputs.{Lent, lent, device, ccw, extent, location, Line, got, wanted, cause_of}

-- DEFINE EXTENT and LOCATE, and the LOCATE's cause
abbrev operation : ℕ → ℕ → Line
operation byte cause = record {
  input = lent 4 (ccw DEFINE_EXTENT 0 0x40 16 ++ ccw LOCATE 16 0x00 8) (extent 1 0 2 ++ location byte 0 1 0);
  seen = λ r. cause_of 1 r ∷ [];
  want = cause ∷ [];
}

-- a WRITE of one byte AA after a LOCATE for two blocks, and what is seen of it
abbrev one_byte : ℕ → Lent
one_byte operation = lent 4 (ccw DEFINE_EXTENT 0 0x40 16 ++ ccw LOCATE 16 0x40 8 ++ ccw WRITE 24 0x20 1) (extent 1 0 2 ++ location operation 0 2 0 ++ (0xAA ∷ []))

-- a chain of commands that take no parameters, and the causes of three
abbrev causes : List ℕ → List ℕ → Line
causes chain want = record { input = lent 1 chain (replicate 24 0); seen = λ r. r.reached ∷ cause_of 0 r ∷ cause_of 1 r ∷ cause_of 2 r ∷ []; want = want }

-- the sense after a LOCATE that an extent of this mask refuses
abbrev sensed : ℕ → List ℕ → List ℕ → Line
sensed mask parameters want = record {
  input = lent 4 (ccw DEFINE_EXTENT 0 0x40 16 ++ ccw LOCATE 16 0x00 8) ((mask ∷ drop 1 (extent 1 0 2)) ++ parameters);
  seen = λ r. r.unit.sense;
  want = want;
}

-- a unit that has counted, and has sense
abbrev counted : Record
counted = record
    { sense = replicate 24 0xEE; blocks_read = 1 ∷ 2 ∷ 3 ∷ []; blocks_written = 4 ∷ 5 ∷ 6 ∷ []; movements = 7 ∷ 8 ∷ []; ready = 1; read_only = 0 }

abbrev logged : ℕ → Lent
logged count = record { chain = ccw READ_LOG 0 0x20 count; main = replicate 24 0xFF; store = device 1; unit = counted; alternates = 0; map = new_map; answers = replicate 8 0 }

-- of the answer to command i: its channel status, its residual and its cause
abbrev left_of : ℕ → Called → List ℕ
left_of i r = get_or r.answers (i * answer_size + channel_status_at) 0 ∷ be2 r.answers (i * answer_size + residual_at) ∷ cause_of i r ∷ []

-- a command that is refused, on four blocks
abbrev refused_at : ℕ → List ℕ → List ℕ → ℕ → ℕ → Line
refused_at i chain main left cause = record { input = lent 4 chain main; seen = left_of i; want = 0 ∷ left ∷ cause ∷ [] }

-- DEFINE EXTENT with these sixteen bytes, and a count of 20; LOCATE with these eight under an extent of this mask, and a count of 12
abbrev bad_extent : List ℕ → ℕ → Line
bad_extent p cause = refused_at 0 (ccw DEFINE_EXTENT 0 0x00 20) (p ++ replicate 4 0) 4 cause

abbrev long_locate : List ℕ
long_locate = ccw DEFINE_EXTENT 0 0x40 16 ++ ccw LOCATE 16 0x00 12

abbrev bad_location : ℕ → List ℕ → ℕ → Line
bad_location mask p cause = refused_at 1 long_locate ((mask ∷ drop 1 (extent 1 0 2)) ++ p ++ replicate 4 0) 4 cause

abbrev pub lines : List Line
lines =
    -- 2.1.4: modifier bit 3 is ignored, bits 0 to 2 are refused
    operation 0x16 0 ∷ operation 0x11 0 ∷ operation 0x17 33 ∷ operation 0x26 32 ∷ operation 0x46 32 ∷ operation 0x86 32
    -- 2.3: all the blocks of the LOCATE are stored, those not begun as zeros
    ∷ record { input = one_byte write_data; seen = λ r. be2 r.answers 22 ∷ r.store; want = 1 ∷ device 1 ++ (0xAA ∷ replicate 1023 0) ++ replicate 512 3 }
    -- 5.8.1: and all of them are counted as written with check
    ∷ record { input = one_byte write_check; seen = λ r. be3 r.unit.blocks_written 0 ∷ []; want = 2 ∷ [] }
    -- 2.2.2.1: READ IPL is first, or after a READ IPL, and each counts
    ∷ causes (ccw READ_IPL 0 0x60 1 ++ ccw READ_IPL 0 0x60 1 ++ ccw NO_OPERATION 0 0x00 1) (3 ∷ 0 ∷ 0 ∷ 0 ∷ [])
    ∷ record {
      input = lent 1 (ccw READ_IPL 0 0x60 1 ++ ccw READ_IPL 0 0x20 1) (0 ∷ []);
      seen = λ r. be3 r.unit.blocks_read 0 ∷ be2 r.unit.movements 0 ∷ [];
      want = 2 ∷ 2 ∷ [];
    }
    ∷ causes (ccw READ_IPL 0 0x60 1 ++ ccw NO_OPERATION 0 0x40 1 ++ ccw READ_IPL 0 0x20 1) (3 ∷ 0 ∷ 0 ∷ 40 ∷ [])
    ∷ causes (ccw SENSE 0 0x40 24 ++ ccw READ_IPL 0 0x20 1 ++ ccw NO_OPERATION 0 0x00 1) (2 ∷ 0 ∷ 40 ∷ 0xFF ∷ [])
    -- 5.1 and 5.2: alternate space exhausted, with the LOCATE's parameters
    ∷ sensed 0xC0 (location format 0 1 2) ((0x80 ∷ 0x01 ∷ 0 ∷ 0 ∷ 0 ∷ 0 ∷ 0 ∷ 0x0C ∷ []) ++ location format 0 1 2 ++ replicate 8 0)
    -- 5.1: a mask that forbids is no File Protected, blocks outside the extent are
    ∷ sensed 0x40 (location write_data 0 1 0) (0x80 ∷ 0x00 ∷ 0 ∷ 0 ∷ 0 ∷ 0 ∷ 0 ∷ 0x04 ∷ replicate 16 0)
    ∷ sensed 0xC0 (location write_data 0 4 0) (0x80 ∷ 0x04 ∷ 0 ∷ 0 ∷ 0 ∷ 0 ∷ 0 ∷ 0x04 ∷ replicate 16 0)
    -- 5.1 and 2.4.3: Environmental Data Present in the log's byte 2; sense and counts are zero after it, however few bytes moved
    ∷ record {
      input = logged 24;
      seen = λ r. r.main;
      want = (0 ∷ 0 ∷ 0x10 ∷ 0 ∷ 0 ∷ 0 ∷ 0 ∷ 0x68 ∷ []) ++ (1 ∷ 2 ∷ 3 ∷ 0 ∷ 0 ∷ 0 ∷ 0 ∷ 4 ∷ 5 ∷ 6 ∷ 0 ∷ 7 ∷ 8 ∷ 0 ∷ 0 ∷ 0 ∷ []);
    }
    ∷ record {
      input = logged 1;
      seen = λ r. r.unit.sense ++ r.unit.blocks_read ++ r.unit.blocks_written ++ r.unit.movements;
      want = replicate 32 0;
    }
    -- 5.3: format 1 has no table of messages
    ∷ record {
      input = record { chain = ccw NO_OPERATION 0 0x00 1; main = []; store = device 1; unit = new_record 0 0; alternates = 0; map = new_map; answers = replicate 8 0 };
      seen = λ r. r.unit.sense;
      want = 0x40 ∷ 0 ∷ 0 ∷ 0 ∷ 0 ∷ 0 ∷ 0 ∷ 0x10 ∷ replicate 16 0;
    }
    -- 2.1.3 and 2.1.4: the parameters are transferred, and then checked: 16 or 8 bytes are not left, and no length is marked wrong
    ∷ bad_extent (0x80 ∷ drop 1 (extent 1 0 2)) 22 ∷ bad_extent (0xC8 ∷ drop 1 (extent 1 0 2)) 23 ∷ bad_extent (0xC0 ∷ 0 ∷ 0 ∷ 1 ∷ drop 4 (extent 1 0 2)) 24
    ∷ bad_extent (extent 1 2 1) 25 ∷ bad_extent (extent 1 0 3) 26
    ∷ bad_location 0xC0 (location 0x86 0 1 0) 32 ∷ bad_location 0xC0 (location 0x07 0 1 0) 33 ∷ bad_location 0xC0 (location write_data 0 0 0) 34
    ∷ bad_location 0xC0 (location read_replicated 3 2 0) 35 ∷ bad_location 0xC0 (location write_data 0 4 0) 36 ∷ bad_location 0x40 (location write_data 0 1 0) 37
    ∷ bad_location 0xC0 (location format 0 1 2) 39
    ∷ record {
      input = record { chain = long_locate; main = extent 1 0 2 ++ location write_data 0 1 0 ++ replicate 4 0; store = device 4; unit = new_record 1 1; alternates = 0; map = new_map; answers = replicate 16 0xFF };
      seen = left_of 1;
      want = 0 ∷ 4 ∷ 38 ∷ [];
    }
    -- so the whole count is left where none was transferred: a short count, or a command out of its place
    ∷ refused_at 0 (ccw DEFINE_EXTENT 0 0x00 15) (extent 1 0 3) 15 20
    ∷ refused_at 1 (ccw DEFINE_EXTENT 0 0x40 16 ++ ccw DEFINE_EXTENT 0 0x00 20) (extent 1 0 2 ++ replicate 4 0) 20 21
    ∷ refused_at 0 (ccw LOCATE 0 0x00 12) (location write_data 0 0 0 ++ replicate 4 0) 12 30
    ∷ refused_at 1 (ccw DEFINE_EXTENT 0 0x40 16 ++ ccw LOCATE 16 0x00 7) (extent 1 0 2 ++ location write_data 0 0 0) 7 31
    ∷ []

pub overruled : map got lines ≡ map wanted lines
unfolding opened
overruled = refl
