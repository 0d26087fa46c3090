-- `alternates::named_before` meets its contract: what `any` says of the entries before i. Assumes nothing.
use Prim.Native.Nat.{ℕ}
use mathlib.Core.Path.{refl}
use native.Mathlib.Nat.{sub-zero}
use borrow.Author.Rules.{rules}
use borrow.Author.Tests.{tests}
use Rattle.std.proofs.lemmas.Iterator.{cases_from_any, YieldsList-from_range}
use Rattle.numbers.specs.Choice.{◌=?◌}
use Rattle.model.specs.Alternates.{entry_at}
use Rattle.alternates.proofs.Found.{Holds, Fails, any_is}
use Rattle.alternates.proofs.named_before.Goals as goal

pub returns : goal.returns
returns c =
    let a = c.args in
    let is = λ (j : ℕ). entry_at a.map.now j =? a.e in
    any_is is a.i _
    (cases_from_any _ _ _ (Holds is a.i) (Fails is a.i) c.any.ensures.ran (YieldsList-from_range 0 a.i a.i refl (sub-zero a.i)) (λ x q k. search (rules, tests)) (λ x q k. search (rules, tests)))
