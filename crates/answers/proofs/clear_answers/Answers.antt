-- `clear_answers` meets its contract: none is put, or a part that was lent is all zeros. Assumes nothing.
use Rattle.slices.specs.Parts.{zeros}
use Rattle.answers.proofs.Putting.{put_none, put_lent_zeros}
use Rattle.answers.proofs.clear_answers.Goals as goal

pub returns-then-n-eq0 : goal.returns-then-n-eq0
returns-then-n-eq0 c = put_none _ _ _ c.if-n-eq0.true

pub returns : goal.returns
unfolding zeros
returns c = put_lent_zeros _ _ _ _ (c.fill.ensures.after (λ y e. e)) c.requires
