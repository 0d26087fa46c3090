-- Alternates given back (02, ask 6), worked: on a device of four blocks and three alternates. antt computes each call from the definition.
--     worked_give_back   two calls, one done and one refused: the result, and every byte of store and record
--     worked_term        a term: formats in three chains, done and refused, and blocks given back, one of them in vain
-- Assumes nothing.
use Prim.Native.Nat.{ℕ, ◌*◌}
use mathlib.Core.Path.{◌≡◌, refl}
use mathlib.Core.List.{List, [], ◌∷◌, ◌++◌}
use lib.ListN.{replicate}
use Rattle.model.specs.declared.record.Record.{Record}
use Rattle.model.specs.Names.{DEFECTIVE, DEFINE_EXTENT, LOCATE, format}
use Rattle.model.specs.Lent.{new_record, new_map, record_bytes, map_of}
use Rattle.model.specs.Chain.{class_a}
use Rattle.model.specs.GiveBack.{give_back}
use Rattle.model.specs.History.{Act, Runs, GivesBack, Event, Formatted, Returned, Held, held, held_after, history_of, used_by, unused_by, defective_by}
use Rattle.model.proofs.Opened.{opened}
use Rattle.model.proofs.Inputs.{device, entries, ccw, extent, location}

-- the blocks are filled with bytes 0 to 3, the alternates with 4 to 6

-- a unit that is neither ready nor may be written, with sense and counts: all of that stays
abbrev asleep : Record
asleep = record { sense = replicate 24 0x55; blocks_read = replicate 3 1; blocks_written = replicate 3 2; movements = replicate 2 3; ready = 0; read_only = 1 }

-- block 2 lies at the second alternate, block 0 at the third
abbrev before : List ℕ
before = record_bytes asleep (entries (DEFECTIVE ∷ 3 ∷ 1 ∷ []))

pub worked_give_back : (give_back 3 (device 7) before 2
    ≡ record { result = 0; store = device 2 ++ replicate 512 5 ++ replicate 512 3 ++ replicate 512 4 ++ replicate 512 0 ++ replicate 512 6; unit = record_bytes asleep (entries (DEFECTIVE ∷ 0 ∷ 1 ∷ [])) })
    × (give_back 3 (device 7) before 1 ≡ record { result = 256 * 51; store = device 7; unit = before })
unfolding opened
worked_give_back = (refl, refl)

-- a chain that formats two blocks
abbrev formats : ℕ → ℕ → Act
formats block other =
    Runs (ccw DEFINE_EXTENT 0 0x40 16 ++ ccw LOCATE 16 0x40 8 ++ ccw LOCATE 24 0x00 8) (extent 0 0 3 ++ location format 0 1 block ++ location format 0 1 other) (replicate 24 0xFF)

-- block 2 fails twice, block 0 once; the fourth format is refused by 39. Both are given back, block 2 a second time in vain. Then block 1 fails,
-- and no other: the chain's second format is of a block beyond its extent
abbrev term : List Act
term = formats 2 2 ∷ formats 0 1 ∷ GivesBack 2 ∷ GivesBack 0 ∷ GivesBack 2 ∷ formats 1 4 ∷ []

abbrev new : Held
new = held (device 7) (record_bytes (new_record 1 0) new_map)

abbrev history : List Event
history = Formatted 1 ∷ Returned 0 ∷ Returned 2 ∷ Formatted 0 ∷ Formatted 2 ∷ Formatted 2 ∷ []

pub worked_term : (history_of (class_a 3) term new ≡ history)
    × (map_of (held_after (class_a 3) term new).unit ≡ entries (DEFECTIVE ∷ 2 ∷ []))
    × (used_by history ∷ unused_by 3 history ∷ defective_by history ∷ [] ≡ 1 ∷ 1 ∷ 1 ∷ [])
unfolding opened
worked_term = (refl, refl, refl)
