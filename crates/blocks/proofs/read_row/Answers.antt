-- `read_row` meets its contract: the part of the store that is lent. Assumes nothing.
use Rattle.slices.proofs.Laws.{part_lent}
use Rattle.blocks.proofs.read_row.Goals as goal

pub returns : goal.returns
returns c = rw part_lent at c.deliver.ensures
