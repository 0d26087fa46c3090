-- `block_count` meets its contract: it is the definition. Assumes nothing.
use mathlib.Core.Path.{refl}
use Rattle.model.specs.Lent.{store_blocks, block_count}
use borrow.Author.Rules.{rules}
use Rattle.blocks.proofs.block_count.Goals as goal

pub overflow_sub-result : goal.overflow_sub-result
unfolding store_blocks
overflow_sub-result c = search rules

pub returns : goal.returns
unfolding block_count store_blocks
returns c = refl
