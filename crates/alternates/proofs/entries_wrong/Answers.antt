-- `alternates::entries_wrong` meets its contract. The invariant: no entry before i is bad, and each was met: the mark of its bucket stands. So
-- where a bucket has no mark, no entry before is equal. Assumes nothing.
use mathlib.Core.Path.{sym, ◌∙◌}
use native.Mathlib.Omega.{arith}
use Rattle.numbers.proofs.Lowest.{any_some, any_none}
use Rattle.model.specs.Alternates.{bad_map}
use Rattle.alternates.proofs.Wrong.{met_none}
use borrow.Author.Rules.{rules}
use Rattle.alternates.proofs.entries_wrong.Goals as goal

pub entry_wrong-requires-clause-unmet : goal.entry_wrong-requires-clause-unmet
entry_wrong-requires-clause-unmet c = λ z. met_none _ _ c.loop-i.met c.number_at-e.result c.loop-i.invariant.2 z

pub returns-then-entry_wrong : goal.returns-then-entry_wrong
unfolding bad_map
returns-then-entry_wrong c = sym (any_some _ _ c.loop-i.i (search rules) (sym c.entry_wrong.ensures ∙ c.if-entry_wrong.true))

pub returns : goal.returns
unfolding bad_map
returns c = sym (any_none _ _ (λ k b. c.loop-i.invariant.1 k (omega arith)))
