-- `alternates::unmap` meets its contract: the entry that is put is that of the block's alternate. Assumes nothing.
use mathlib.Core.Path.{refl, ◌∙◌}
use Rattle.model.specs.Alternates.{unmapped}
use Rattle.alternates.proofs.Found.{found_at}
use Rattle.alternates.proofs.unmap.Goals as goal

pub returns : goal.returns
unfolding unmapped
returns c = c.put_entry.ensures ∙ rw (found_at _ _ _ _ c.alternate_of.ensures c.unwrap-freed.ensures) refl
