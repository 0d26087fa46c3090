-- The counts of the unit record, and the log that shows them (01, READ AND RESET BUFFERED LOG; 002, 5.8).
--     with_sense and the like  a record with one field changed
--     added3, added2           "A sum too large for its field becomes the largest value the field holds"
--     read_counted, written_counted, movement_counted
--                              the record after so many blocks read, or written with check, or one access movement
--     log_of, log_reset        the 24 bytes of the log, and the record once they are reset
-- Assumes nothing.
use Rattle.std.specs.Prelude.{ℕ, ◌+◌, min, List, [], ◌∷◌}
use Rattle.numbers.specs.Big.{be2, be3, bytes2, bytes3}
use Rattle.slices.specs.Parts.{zeros, put}
use Rattle.model.specs.declared.record.Record.{Record}
use Rattle.model.specs.Names.{environmental_at, format_message_at, blocks_read_at, blocks_written_at, movements_at, sense_size}

unfoldable pub with_sense : Record → List ℕ → Record
with_sense u sense = record { sense = sense; blocks_read = u.blocks_read; blocks_written = u.blocks_written; movements = u.movements; ready = u.ready; read_only = u.read_only }

unfoldable pub with_counts : Record → List ℕ → List ℕ → List ℕ → Record
with_counts u read written movements = record { sense = u.sense; blocks_read = read; blocks_written = written; movements = movements; ready = u.ready; read_only = u.read_only }

unfoldable pub added3 : List ℕ → ℕ → List ℕ
added3 count n = bytes3 (min (be3 count 0 + n) 0xFFFFFF)

unfoldable pub added2 : List ℕ → ℕ → List ℕ
added2 count n = bytes2 (min (be2 count 0 + n) 0xFFFF)

unfoldable pub read_counted : ℕ → Record → Record
read_counted n u = with_counts u (added3 u.blocks_read n) u.blocks_written u.movements

unfoldable pub written_counted : ℕ → Record → Record
written_counted n u = with_counts u u.blocks_read (added3 u.blocks_written n) u.movements

unfoldable pub movement_counted : Record → Record
movement_counted u = with_counts u u.blocks_read u.blocks_written (added2 u.movements 1)

-- 002, 5.1: byte 2 bit 3, Environmental Data Present; byte 7: format 6, message 8
unfoldable pub log_of : Record → List ℕ
log_of u =
    let headed = put (put (zeros sense_size) environmental_at (0x10 ∷ [])) format_message_at (0x68 ∷ []) in
    put (put (put headed blocks_read_at u.blocks_read) blocks_written_at u.blocks_written) movements_at u.movements

unfoldable pub log_reset : Record → Record
log_reset u = with_counts u (zeros 3) (zeros 3) (zeros 2)
