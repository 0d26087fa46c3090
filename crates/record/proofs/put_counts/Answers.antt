-- `put_counts` meets its contract. Assumes nothing.
use borrow.Author.Rules.{rules}
use Rattle.record.proofs.Stores.{counts_stored}
use Rattle.record.proofs.put_counts.Goals as goal

pub returns : goal.returns
returns c =
    counts_stored _ _ _ _ _ _ _ (search rules) (search rules) (search rules) c.requires c.put.ensures c.put-2.ensures c.put-3.ensures
