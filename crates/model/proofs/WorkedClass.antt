-- A class in one call (02, ask 3), worked: whole calls on a device of 8 blocks, in one table under one statement. antt computes each from the
-- definition. Assumes nothing.
use Prim.Native.Nat.{ℕ, ◌*◌}
use mathlib.Core.Path.{◌≡◌, refl}
use mathlib.Core.List.{List, [], ◌∷◌, ◌++◌, map}
use lib.ListN.{drop, replicate}
use Rattle.numbers.specs.Big.{bytes2}
use Rattle.model.specs.Names.{NO_OPERATION, DEFINE_EXTENT, LOCATE, READ, WRITE, SENSE, write_data, read_data}
use Rattle.model.specs.Lent.{record_bytes, new_record, new_map}
use Rattle.model.specs.Class.{ClassRun, run_class}
use Rattle.model.specs.Written.{written}
use Rattle.model.proofs.Opened.{opened}
use Rattle.model.proofs.Inputs.{device, ccw, extent, location}

-- what is lent, what is looked at afterwards, and what is to be there
record Line : Type 0 where
  chains : List ℕ
  main : List ℕ
  results : List ℕ
  seen : ClassRun → List ℕ
  want : List ℕ

abbrev got : Line → List ℕ
got l = l.seen (run_class 0 l.chains l.main (device 8) (record_bytes (new_record 1 0) new_map) l.results)

abbrev wanted : Line → List ℕ
wanted l = l.want

-- looked at: the call's number, the results, and main storage from a place on; results are lent full of FF

abbrev unused : ℕ → List ℕ
unused n = replicate n 0xFF

abbrev line : List ℕ → ℕ → List ℕ → ℕ → List ℕ → Line
line chains lent main place want =
    record { chains = chains; main = main; results = unused lent; seen = λ r. r.result ∷ r.left.results ++ drop place r.left.main; want = want }

-- the head of a result, an answer, and a chain of one NO-OPERATION

abbrev head : ℕ → ℕ → List ℕ
head cause reached = bytes2 cause ++ bytes2 reached

abbrev answer : ℕ → ℕ → ℕ → ℕ → List ℕ
answer unit residual cause blocks = (unit ∷ 0 ∷ []) ++ bytes2 residual ++ (cause ∷ 0 ∷ []) ++ bytes2 blocks

abbrev nop : ℕ → List ℕ
nop flags = ccw NO_OPERATION 0 flags 1

abbrev nop_done : List ℕ
nop_done = answer 0x0C 1 0 0

-- the first writes block 3, the second reads it
abbrev store_handed_on : Line
store_handed_on =
    let reaches = head 0 3 ++ answer 0x0C 0 0 0 ++ answer 0x0C 0 0 0 ++ answer 0x0C 0 0 1 in
    line
    (written
    ((ccw DEFINE_EXTENT 0 0x40 16 ++ ccw LOCATE 16 0x40 8 ++ ccw WRITE 32 0x00 512)
    ∷ (ccw DEFINE_EXTENT 0 0x40 16 ++ ccw LOCATE 24 0x40 8 ++ ccw READ 544 0x00 512)
    ∷ []))
    56 (extent 0 0 7 ++ location write_data 0 1 3 ++ location read_data 0 1 3 ++ replicate 512 0xAA ++ unused 512) 544
    (0 ∷ reaches ++ reaches ++ replicate 512 0xAA)

-- the first, a LOCATE without an extent, leaves sense, and the second moves it
abbrev record_handed_on : Line
record_handed_on =
    line (written (ccw LOCATE 0 0x00 8 ∷ ccw SENSE 8 0x00 24 ∷ [])) 24 (unused 32) 8
    (0 ∷ head 0 1 ++ answer 0x0E 8 30 0 ++ head 0 1 ++ answer 0x0C 0 0 0 ++ (0x80 ∷ replicate 6 0) ++ (2 ∷ replicate 16 0))

-- refused as a whole: lengths 0 and 12 by 1, with no room and with room for two; one whose CCW has flag 40 by 5; and none of them stops the class
abbrev refused : Line
refused =
    line (written ([] ∷ replicate 12 0 ∷ nop 0x40 ∷ nop 0x00 ∷ [])) 51 [] 0
    (0 ∷ head 1 0 ++ head 1 0 ++ unused 16 ++ head 5 0 ++ unused 8 ++ head 0 1 ++ nop_done ++ unused 3)

-- room for three answers, used by one
abbrev used_or_not : Line
used_or_not = line (written ((nop 0x00 ++ nop 0x00 ++ nop 0x00) ∷ nop 0x00 ∷ [])) 40 [] 0 (0 ∷ head 0 1 ++ nop_done ++ unused 16 ++ head 0 1 ++ nop_done)

-- lengths 1 and 253; from the low byte on it would be one of 256
abbrev other_order : Line
other_order = line (written ((3 ∷ []) ∷ replicate 253 0 ∷ [])) 272 [] 0 (0 ∷ head 1 0 ++ unused 8 ++ head 1 0 ++ unused 256)

-- no chain
abbrev empty : Line
empty = line [] 2 [] 0 (0 ∷ unused 2)

-- cause 7: a byte too few, one too many, in the middle of a length; results a byte short
abbrev seven : List ℕ → ℕ → Line
seven chains lent = line chains lent [] 0 (256 * 7 ∷ unused lent)

abbrev lines : List Line
lines =
    store_handed_on
    ∷ record_handed_on
    ∷ refused
    ∷ used_or_not
    ∷ other_order
    ∷ empty
    ∷ seven (bytes2 9 ++ nop 0x00) 20
    ∷ seven (bytes2 7 ++ nop 0x00) 20
    ∷ seven (bytes2 8 ++ nop 0x00 ++ (0 ∷ [])) 20
    ∷ seven (0 ∷ []) 20
    ∷ seven (bytes2 8 ++ nop 0x00) 11
    ∷ []

pub worked_class : map got lines ≡ map wanted lines
unfolding opened
worked_class = refl
