-- Alternate blocks (02, ask 4), worked: whole calls on a device of four blocks and three alternates, in one table under one statement. antt
-- computes each call from the definition. Assumes nothing.
use Prim.Native.Nat.{ℕ}
use mathlib.Core.Path.{◌≡◌, refl}
use mathlib.Core.List.{List, [], ◌∷◌, ◌++◌, map}
use lib.ListN.{length, drop, replicate}
use Rattle.model.specs.Names.{DEFECTIVE, DEFINE_EXTENT, LOCATE, READ, WRITE, READ_IPL, format, write_data, read_data}
use Rattle.model.specs.Lent.{new_record, unit_bytes}
use Rattle.model.proofs.Opened.{opened}
use Rattle.model.proofs.Inputs.{Lent, device, entries, ccw, extent, location, Line, got, wanted, cause_of}

-- the blocks are filled with bytes 0 to 3, the alternates with 4 to 6; the map has these entries
abbrev on : List ℕ → List ℕ → List ℕ → Lent
on es chain main = record { chain = chain; main = main; store = device 7; unit = new_record 1 0; alternates = 3; map = entries es; answers = replicate (length chain) 0xFF }

-- LOCATE of block 2, under an extent over blocks 1 to 3
abbrev located : ℕ → List ℕ
located operation = extent 1 10 12 ++ location operation 0 1 11

-- block 2 is formatted: its cause, the access movements, the map and the whole store
abbrev formats : List ℕ → ℕ → ℕ → List ℕ → Line
formats es cause movements left = record {
  input = on es (ccw DEFINE_EXTENT 0 0x40 16 ++ ccw LOCATE 16 0x00 8) (located format);
  seen = λ r. cause_of 1 r ∷ r.unit.movements ++ r.map ++ r.store;
  want = cause ∷ (0 ∷ movements ∷ []) ++ entries left ++ device 7;
}

-- the next chain writes the block and reads it back: it lies at the second alternate, and its primary keeps what it held
abbrev written : Line
written = record {
  input = on (DEFECTIVE ∷ 3 ∷ [])
      (ccw DEFINE_EXTENT 0 0x40 16 ++ ccw LOCATE 16 0x40 8 ++ ccw WRITE 32 0x40 512 ++ ccw LOCATE 24 0x40 8 ++ ccw READ 544 0x00 512)
      (located write_data ++ location read_data 0 1 11 ++ replicate 512 0xAA ++ replicate 512 0xFF);
  seen = λ r. cause_of 4 r ∷ drop 544 r.main ++ r.map ++ r.store;
  want = 0 ∷ replicate 512 0xAA ++ entries (DEFECTIVE ∷ 3 ∷ []) ++ device 5 ++ replicate 512 0xAA ++ replicate 512 6;
}

-- READ directly after a format: 42, and the format stays
abbrev reads_format : Line
reads_format = record {
  input = on [] (ccw DEFINE_EXTENT 0 0x40 16 ++ ccw LOCATE 16 0x40 8 ++ ccw READ 24 0x20 1) (located format ++ (0xFF ∷ []));
  seen = λ r. cause_of 2 r ∷ drop 24 r.main ++ r.map;
  want = 42 ∷ 0xFF ∷ entries (3 ∷ []);
}

-- READ IPL goes by way of the map too: block 0 lies at the second alternate
abbrev ipl_mapped : Line
ipl_mapped = record { input = on (0 ∷ 1 ∷ []) (ccw READ_IPL 0 0x00 512) (replicate 512 0xFF); seen = λ r. cause_of 0 r ∷ r.main; want = 0 ∷ replicate 512 5 }

-- 26: block 4 is an alternate, and none of the device's blocks
abbrev past_primaries : Line
past_primaries = record { input = on [] (ccw DEFINE_EXTENT 0 0x00 16) (extent 1 10 13); seen = λ r. cause_of 0 r ∷ []; want = 26 ∷ [] }

-- 8: an entry names block 4; no command is reached, and all stays
abbrev names_alternate : Line
names_alternate = record {
  input = on (5 ∷ []) (ccw DEFINE_EXTENT 0 0x40 16 ++ ccw LOCATE 16 0x00 8) (located format);
  seen = λ r. r.cause ∷ r.reached ∷ unit_bytes r.unit ++ r.map ++ r.main ++ r.store ++ r.answers;
  want = 8 ∷ 0 ∷ unit_bytes (new_record 1 0) ++ entries (5 ∷ []) ++ located format ++ device 7 ++ replicate 16 0xFF;
}

abbrev pub lines : List Line
lines =
    -- the lowest unused alternate, past one that is defective
    formats (DEFECTIVE ∷ []) 0 1 (DEFECTIVE ∷ 3 ∷ [])
    ∷ written
    -- formatted again: the old alternate is defective, the next is taken
    ∷ formats (DEFECTIVE ∷ 3 ∷ []) 0 1 (DEFECTIVE ∷ DEFECTIVE ∷ 3 ∷ [])
    -- 39: none is unused; the one that the block has is not taken again
    ∷ formats (DEFECTIVE ∷ DEFECTIVE ∷ 3 ∷ []) 39 0 (DEFECTIVE ∷ DEFECTIVE ∷ 3 ∷ [])
    -- not while the last one is unused
    ∷ formats (1 ∷ 4 ∷ []) 0 1 (1 ∷ 4 ∷ 3 ∷ [])
    ∷ reads_format
    ∷ ipl_mapped
    ∷ past_primaries
    ∷ names_alternate
    ∷ []

pub worked_alternates : map got lines ≡ map wanted lines
unfolding opened
worked_alternates = refl
