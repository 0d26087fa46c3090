-- The counts of a unit record, as the code carries them while a chain runs.
--     counts_of                                 the counts of a record
--     counted                                   a record with these counts
--     added                                     a count of any number of bytes with so many added, as `added3` and `added2` are of 3 and 2
--     with_read, with_written, with_movement    n blocks more read, n more written with check, one access movement more
--     no_counts                                 the counts of a log that was reset
-- Assumes nothing.
use Rattle.std.specs.Prelude.{ℕ, ◌+◌, ◌-◌, ◌^◌, min, List}
use Rattle.numbers.specs.Big.{be, be_bytes}
use Rattle.slices.specs.Parts.{zeros}
use Rattle.model.specs.declared.record.Record.{Record}
use Rattle.model.specs.declared.record.Counts.{Counts}
use Rattle.model.specs.Log.{with_counts, added3, added2}

abbrev pub counts_of : Record → Counts
counts_of u = record { blocks_read = u.blocks_read; blocks_written = u.blocks_written; movements = u.movements }

unfoldable pub counted : Record → Counts → Record
counted u k = with_counts u k.blocks_read k.blocks_written k.movements

abbrev pub added : ℕ → List ℕ → ℕ → List ℕ
added k count n = be_bytes k (min (be k count 0 + n) (256 ^ k - 1))

abbrev pub with_read : ℕ → Counts → Counts
with_read n k = record { blocks_read = added3 k.blocks_read n; blocks_written = k.blocks_written; movements = k.movements }

abbrev pub with_written : ℕ → Counts → Counts
with_written n k = record { blocks_read = k.blocks_read; blocks_written = added3 k.blocks_written n; movements = k.movements }

abbrev pub with_movement : Counts → Counts
with_movement k = record { blocks_read = k.blocks_read; blocks_written = k.blocks_written; movements = added2 k.movements 1 }

abbrev pub no_counts : Counts
no_counts = record { blocks_read = zeros 3; blocks_written = zeros 3; movements = zeros 2 }
