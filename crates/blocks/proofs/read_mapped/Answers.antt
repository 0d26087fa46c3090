-- `read_mapped` meets its contract: the bytes are in the blocks that they reach. Assumes nothing.
use mathlib.Core.Path.{◌∙◌}
use Rattle.blocks.proofs.Reached.{reached_movable, reached_read}
use Rattle.blocks.proofs.read_mapped.Goals as goal

pub read_windows-requires : goal.read_windows-requires
read_windows-requires c = rw c.div_ceil.ensures (reached_movable _ _ _ _ _ _ _ _ _ c.requires)

pub returns : goal.returns
returns c = c.read_windows.ensures ∙ rw c.div_ceil.ensures (reached_read _ _ _ _ _ _ _ _ _ c.requires)
