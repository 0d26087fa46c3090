-- Data chaining (02, ask 2), worked: whole calls on a device of 8 blocks whose commands are of several pieces, in one table under one
-- statement; the last two are chains as the Linux driver for such devices makes them. antt computes each call from the definition.
-- Assumes nothing.
use Prim.Native.Nat.{ℕ}
use mathlib.Core.Path.{◌≡◌, refl}
use mathlib.Core.List.{List, [], ◌∷◌, ◌++◌, map}
use lib.ListN.{take, drop, replicate}
use Rattle.numbers.specs.Big.{bytes2}
use Rattle.model.specs.Names.{NO_OPERATION, DEFINE_EXTENT, LOCATE, READ, WRITE, READ_IPL, SENSE, SENSE_TYPE, write_data, read_data}
use Rattle.model.proofs.Opened.{opened}
use Rattle.model.proofs.Inputs.{lent, device, ccw, extent, location, Line, got, wanted}

-- an answer; that of a piece that was filled, and is not the last one reached; and bytes that no answer was put into

abbrev answer : ℕ → ℕ → ℕ → ℕ → ℕ → List ℕ
answer unit channel residual cause blocks = (unit ∷ channel ∷ []) ++ bytes2 residual ++ (cause ∷ 0 ∷ []) ++ bytes2 blocks

abbrev accepted : List ℕ
accepted = answer 0x0C 0 0 0 0

abbrev filled : List ℕ
filled = replicate 8 0

abbrev unused : ℕ → List ℕ
unused n = replicate n 0xFF

-- looked at: how many answers, the answers, and main storage from a place on
abbrev line : List ℕ → List ℕ → ℕ → ℕ → List ℕ → Line
line chain main place reached want = record { input = lent 8 chain main; seen = λ r. r.reached ∷ r.answers ++ drop place r.main; want = reached ∷ want }

-- an extent over blocks 2 to 7, one command each for the extent and the LOCATE; what follows has its data from 24 on
abbrev after : List ℕ → List ℕ → List ℕ → ℕ → ℕ → List ℕ → Line
after location commands room place reached want =
    line (ccw DEFINE_EXTENT 0 0x40 16 ++ ccw LOCATE 16 0x40 8 ++ commands) (extent 2 0 5 ++ location ++ room) place reached (accepted ++ accepted ++ want)

-- sixteen bytes from two places, and eight: block 2 + 3; codes of later pieces are not looked at
abbrev gathered : Line
gathered =
    let e = extent 2 0 5 in
    let l = location read_data 0 1 3 in
    line
    (ccw DEFINE_EXTENT 10 0x80 6 ++ ccw 0x00 0 0x40 10 ++ ccw LOCATE 21 0x80 3 ++ ccw 0xFF 16 0x40 5 ++ ccw READ 24 0x20 4)
    (drop 6 e ++ take 6 e ++ drop 3 l ++ take 3 l ++ unused 4)
    24 5 (filled ++ accepted ++ filled ++ accepted ++ answer 0x0C 0 0 0 1 ++ replicate 4 5)

-- a READ of one block to three pieces, of 300, 300 and 100 bytes: the third is not reached; its flag 20 says whether the length is wrong
abbrev scattered : ℕ → ℕ → ℕ → Line
scattered middle last channel =
    after (location read_data 0 1 1) (ccw READ 24 0x80 300 ++ ccw 0x42 424 middle 300 ++ ccw 0x42 324 last 100) (unused 700) 24 4
    (filled ++ answer 0x0C channel 88 0 1 ++ unused 8 ++ replicate 300 3 ++ unused 100 ++ replicate 212 3 ++ unused 88)

-- a READ that just fills its first piece: the second is not reached
abbrev just_filled : Line
just_filled =
    after (location read_data 0 1 1) (ccw READ 24 0x80 512 ++ ccw 0x42 536 0x20 100) (unused 612) 24 3
    (answer 0x0C 0 0 0 1 ++ unused 8 ++ replicate 512 3 ++ unused 100)

-- SENSE TYPE to two pieces that overlap: the later bytes stay
abbrev overlapping : Line
overlapping = line (ccw SENSE_TYPE 0 0x80 4 ++ ccw 0 2 0x00 3) (unused 5) 0 2 (filled ++ accepted ++ (0xFF ∷ 0x00 ∷ 0x05 ∷ 0x12 ∷ 0x01 ∷ []))

-- READ IPL to two pieces: the first 500 bytes of block 0, and twelve more
abbrev ipl_reads : Line
ipl_reads = line (ccw READ_IPL 0 0x80 500 ++ ccw 0 500 0x20 100) (unused 600) 0 2 (filled ++ answer 0x0C 0 88 0 1 ++ replicate 512 0 ++ unused 88)

-- flag 40 beside flag 80 chains no command: the chain ends with the last piece
abbrev not_chained : Line
not_chained = line (ccw DEFINE_EXTENT 0 0xC0 6 ++ ccw 0 6 0x00 10 ++ ccw NO_OPERATION 0 0x00 1) (extent 2 0 5) 16 2 (filled ++ accepted ++ unused 8)

-- a second piece with count 0: nothing moves, and the first piece has the answer
abbrev no_count : Line
no_count = line (ccw SENSE 0 0x80 4 ++ ccw 0 0 0x00 0) (unused 4) 0 1 (answer 0 0x20 4 11 0 ++ unused 8 ++ unused 4)

-- NO-OPERATION reaches its first piece alone, and the next command's answer follows
abbrev nop_line : Line
nop_line = line (ccw NO_OPERATION 0 0x80 5 ++ ccw 0x41 999999 0x40 7 ++ ccw NO_OPERATION 0 0x00 1) [] 0 2 (answer 0x0C 0 5 0 0 ++ answer 0x0C 0 1 0 0 ++ unused 8)

-- 36, after eight bytes of ten in two pieces were read
abbrev refused : Line
refused =
    line (ccw DEFINE_EXTENT 0 0x40 16 ++ ccw LOCATE 16 0x80 3 ++ ccw LOCATE 19 0x00 7) (extent 2 0 5 ++ location read_data 0 1 6 ++ unused 2) 24 3
    (accepted ++ filled ++ answer 0x0E 0 2 36 0 ++ unused 2)

-- the Linux driver's: a LOCATE for two blocks, then a CCW of one block for each of them, with flag 80 on all but the last
abbrev driver_reads : Line
driver_reads =
    after (location read_data 0 2 1) (ccw READ 24 0x80 512 ++ ccw READ 536 0x00 512) (unused 1024) 24 4
    (filled ++ answer 0x0C 0 0 0 2 ++ replicate 512 3 ++ replicate 512 4)

abbrev driver_writes : Line
driver_writes = record {
  input = lent 8 (ccw DEFINE_EXTENT 0 0x40 16 ++ ccw LOCATE 16 0x40 8 ++ ccw WRITE 24 0x80 512 ++ ccw WRITE 536 0x00 512)
      (extent 2 0 5 ++ location write_data 0 2 1 ++ replicate 512 0xAA ++ replicate 512 0xBB);
  seen = λ r. r.reached ∷ r.answers ++ r.store;
  want = 4 ∷ accepted ++ accepted ++ filled ++ answer 0x0C 0 0 0 2 ++ device 3 ++ replicate 512 0xAA ++ replicate 512 0xBB ++ replicate 512 5 ++ replicate 512 6 ++ replicate 512 7;
}

abbrev pub lines : List Line
lines =
    gathered
    ∷ scattered 0x80 0x20 0x00
    ∷ scattered 0x80 0x00 0x40
    ∷ scattered 0xA0 0x00 0x40
    ∷ just_filled
    ∷ overlapping
    ∷ ipl_reads
    ∷ not_chained
    ∷ no_count
    ∷ nop_line
    ∷ refused
    ∷ driver_reads
    ∷ driver_writes
    ∷ []

pub worked_pieces : map got lines ≡ map wanted lines
unfolding opened
worked_pieces = refl
