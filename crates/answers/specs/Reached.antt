-- What is put for a command, by the data area that the code carries.
--     spread_over     some bytes over its pieces, as `spread` has it; spread_leaving   all but so many bytes of their counts
--     answers_given   zeros for each piece that is filled, then the answer of the last one reached, with that piece's residual
-- Assumes nothing.
use Rattle.std.specs.Prelude.{ℕ, ◌-◌, ◌*◌, Bool, List, ◌++◌}
use Rattle.slices.specs.Parts.{zeros}
use Rattle.model.specs.declared.decoded.Area.{Area}
use Rattle.model.specs.Pieces.{Spread, spread, counts}
use Rattle.model.specs.Decoded.{later_of, area_of}
use Rattle.model.specs.Answer.{answer_size}
use Rattle.endings.specs.declared.Answer.{Answer}
use Rattle.endings.specs.Ending.{with_residual, answer_bytes, marked}

abbrev pub spread_over : List ℕ → Area → ℕ → Spread
spread_over chain a n = spread a.piece (later_of chain a) n

abbrev pub spread_leaving : List ℕ → Area → ℕ → Spread
spread_leaving chain a left = spread_over chain a (counts (area_of chain a) - left)

unfoldable pub answers_given : List ℕ → Area → Answer → ℕ → Bool → List ℕ
answers_given chain a last moved wrong =
    let s = spread_over chain a moved in
    zeros (s.filled * answer_size) ++ marked wrong (answer_bytes (with_residual last s.residual))
