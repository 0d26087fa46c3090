-- `alternates::flag_old` meets its contract: the alternate where the block lay is flagged, if there is one. Assumes nothing.
use Prim.Native.Nat.{ℕ, ◌<◌}
use mathlib.Core.Path.{◌≡◌, sym, ◌∙◌}
use mathlib.Core.List.{List}
use native.Mathlib.Omega.{arith}
use borrow.Author.Tests.{lt-ltb, le-ltb}
use Rattle.numbers.proofs.Choice.{pick_true, pick_false}
use Rattle.model.specs.Names.{DEFECTIVE}
use Rattle.model.specs.Alternates.{with_entry, alternate_of, flagged}
use Rattle.alternates.proofs.flag_old.Goals as goal

mapped : (map : List ℕ) (alternates block old : ℕ) → old ≡ alternate_of map alternates block → old < alternates → flagged map alternates block ≡ with_entry map old DEFECTIVE
unfolding flagged
mapped map alternates block old e l = rw (← e) (pick_true _ _ _ (lt-ltb old alternates l))

not-mapped : (map : List ℕ) (alternates block : ℕ) → alternate_of map alternates block ≡ alternates → flagged map alternates block ≡ map
unfolding flagged
not-mapped map alternates block e = rw e (pick_false _ _ _ (le-ltb alternates alternates (omega arith)))

pub returns-in-Some : goal.returns-in-Some
returns-in-Some c = c.put_entry.ensures ∙ sym (mapped _ _ _ _ c.in-Some.ensures.0 c.in-Some.ensures.1)

pub returns-in_default : goal.returns-in_default
returns-in_default c = sym (not-mapped _ _ _ c.in_default.ensures)
