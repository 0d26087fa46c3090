-- `alternates::format_block` meets its contract: the alternate that is taken was unused before the old one was flagged. Assumes nothing.
use borrow.Author.Rules.{rules}
use Rattle.model.specs.Alternates.{formatted}
use Rattle.alternates.proofs.Found.{found_at}
use Rattle.alternates.proofs.format_block.Goals as goal

pub returns : goal.returns
unfolding formatted
returns c = search (rules, c.put_entry.ensures, c.flag_old.ensures, found_at _ _ _ _ c.unused.ensures c.unwrap-taken.ensures)
