-- `Log::of` meets its contract: three counts are put over the two bytes that every log has. Assumes nothing.
use Rattle.std.proofs.Common.{◌≡◌, [], ◌∷◌, replicate, refl}
use Rattle.std.proofs.Math.ListN.{set}
use Rattle.slices.specs.Parts.{zeros, put}
use Rattle.model.specs.Log.{with_counts, log_of}
use Rattle.buffered_log.specs.Counts.{counted}
use Rattle.buffered_log.proofs.Log.of.Goals as goal

-- the log before the counts are put
headed : set (set (replicate 24 0) 2 0x10) 7 0x68 ≡ put (put (zeros 24) 2 (0x10 ∷ [])) 7 (0x68 ∷ [])
unfolding put zeros
headed = refl

pub returns-clause-shows : goal.returns-clause-shows
unfolding log_of counted with_counts
returns-clause-shows c = λ u. rw (c.put-3.ensures, c.put-2.ensures, c.put.ensures, headed)
