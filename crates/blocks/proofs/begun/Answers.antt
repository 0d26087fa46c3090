-- `begun` meets its contract: it is the definition, and the bounds keep the sum below 2^64.
-- Assumes nothing.
use mathlib.Core.Path.{refl}
use Rattle.model.specs.Commands.{begun}
use Rattle.blocks.proofs.begun.Goals as goal

pub returns : goal.returns
unfolding begun
returns c = refl
