-- `alternates::number_at` meets its contract: the 4 bytes from the entry's first on. Assumes nothing.
use Rattle.model.specs.Alternates.{entry_at}
use borrow.Author.Rules.{rules}
use Rattle.alternates.proofs.number_at.Goals as goal

pub returns : goal.returns
unfolding entry_at
returns c = search rules
