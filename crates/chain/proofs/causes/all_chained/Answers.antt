-- `causes::all_chained` meets its contract: flag 80 or 40 of each CCW. Assumes nothing.
use Prim.Native.Nat.{ℕ, ◌/◌}
use lib.ListN.{length}
use native.Mathlib.Nat.{sub-zero}
use mathlib.Core.Path.{refl, ◌∙◌}
use borrow.Author.Tests.{tests}
use Rattle.std.proofs.Common.{rules}
use Rattle.std.proofs.lemmas.Iterator.{YieldsList-from_range}
use Rattle.std.proofs.lemmas.Iterator.Search.{all_from_yields_List}
use Rattle.model.specs.Lent.{ccw_size, piece_at}
use Rattle.model.specs.Causes.{followed}
use Rattle.chain.proofs.Chained.{chained_by}
use Rattle.chain.proofs.causes.all_chained.Goals as goal

pub returns : goal.returns
returns c =
    let n : ℕ = length c.args.chain.now / ccw_size in
    all_from_yields_List (λ i. followed (piece_at c.args.chain.now i)) _ _ _ c.all.ensures.ran (YieldsList-from_range 0 n n refl (sub-zero n)) (λ x b q k. search (rules, tests))
    ∙ chained_by c.args.chain.now n
