-- `alternates::map_wrong` meets its contract: a map of zeros has no wrong entry. Assumes nothing.
use mathlib.Core.Path.{sym, ◌∙◌}
use Rattle.alternates.proofs.NoneUsed.{none_right}
use Rattle.alternates.proofs.map_wrong.Goals as goal

pub returns-then-none_used : goal.returns-then-none_used
returns-then-none_used c = sym (none_right _ (sym c.none_used.ensures ∙ c.if-none_used.true) _ _)
