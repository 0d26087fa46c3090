-- Document 01, Each side of the lines: P1 to P13, as whole calls on a device of 8 blocks, in one table under one statement.
-- antt computes each call from the definition. Assumes nothing.
use Prim.Native.Nat.{ℕ}
use mathlib.Core.Path.{◌≡◌, refl}
use mathlib.Core.List.{List, [], ◌∷◌, ◌++◌, map}
use lib.ListN.{drop, replicate}
use Rattle.numbers.specs.Big.{be2}
use Rattle.model.specs.Names.{DEFINE_EXTENT, LOCATE, READ, WRITE, write_data, read_data, read_replicated}
use Rattle.model.proofs.Opened.{opened}
use Rattle.model.proofs.Inputs.{lent, device, ccw, extent, location, Line, got, wanted, cause_of}

-- DEFINE EXTENT alone, and its cause
abbrev defined : ℕ → ℕ → ℕ → ℕ → Line
defined offset first last cause = record
    { input = lent 8 (ccw DEFINE_EXTENT 0 0x00 16) (extent offset first last); seen = λ r. cause_of 0 r ∷ []; want = cause ∷ [] }

-- LOCATE under an extent, and its cause
abbrev located : List ℕ → List ℕ → ℕ → Line
located e l cause = record
    { input = lent 8 (ccw DEFINE_EXTENT 0 0x40 16 ++ ccw LOCATE 16 0x00 8) (e ++ l); seen = λ r. cause_of 1 r ∷ []; want = cause ∷ [] }

-- READ of one block at a displacement: the bytes that come are those of a block
abbrev is_block : List ℕ → ℕ → ℕ → Line
is_block e displacement block = record {
  input = lent 8 (ccw DEFINE_EXTENT 0 0x40 16 ++ ccw LOCATE 16 0x40 8 ++ ccw READ 24 0x00 512)
      (e ++ location read_data 0 1 displacement ++ replicate 512 0xFF);
  seen = λ r. drop 24 r.main;
  want = replicate 512 block;
}

-- WRITE of 513 bytes AA after a LOCATE for 2 blocks: blocks moved, and the whole store
abbrev short_write : List ℕ → Line
short_write e = record {
  input = lent 8 (ccw DEFINE_EXTENT 0 0x40 16 ++ ccw LOCATE 16 0x40 8 ++ ccw WRITE 24 0x20 513)
      (e ++ location write_data 0 2 12 ++ replicate 513 0xAA);
  seen = λ r. be2 r.answers 22 ∷ r.store;
  want = 2 ∷ device 4 ++ replicate 513 0xAA ++ replicate 511 0 ++ replicate 512 6 ++ replicate 512 7;
}

abbrev near : List ℕ
near = extent 2 10 13

abbrev low : List ℕ
low = extent 0 0 5

abbrev pub lines : List Line
lines =
    defined 2 0 5 0  -- P1
    ∷ defined 2 0 6 26  -- P2
    ∷ defined 2 5 4 25  -- P3
    ∷ defined 4294967295 0 1 26  -- P4
    ∷ is_block near 12 4  -- P5
    ∷ located near (location read_data 0 2 12) 0  -- P6
    ∷ located near (location read_data 0 3 12) 36  -- P7
    ∷ located near (location read_data 0 1 9) 36  -- P8
    ∷ located near (location read_data 0 0 12) 34  -- P9
    ∷ located low (location read_replicated 6 2 0) 0  -- P10
    ∷ located low (location read_replicated 5 2 0) 35  -- P11
    ∷ located low (location read_replicated 0 1 0) 35  -- P12
    ∷ short_write near  -- P13
    ∷ []

pub worked : map got lines ≡ map wanted lines
unfolding opened
worked = refl
