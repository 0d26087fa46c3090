-- `store_row` meets its contract: the part of the store that is lent is filled. Assumes nothing.
use native.Mathlib.Omega.{arith}
use Rattle.slices.proofs.Laws.{put_lent_filled}
use Rattle.blocks.proofs.store_row.Goals as goal

pub returns : goal.returns
returns c = put_lent_filled _ _ _ _ _ c.fill.ensures (omega arith)
