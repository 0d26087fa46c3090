-- `alternates::lowest_entry` meets its contract: what `find` says of the entries. Assumes nothing.
use Prim.Native.Nat.{ℕ}
use borrow.Author.Rules.{rules}
use borrow.Author.Tests.{tests}
use Rattle.std.proofs.lemmas.Iterator.{first_from_Range}
use Rattle.numbers.specs.Choice.{◌=?◌}
use Rattle.model.specs.Alternates.{entry_at}
use Rattle.alternates.specs.Entries.{number_of}
use Rattle.alternates.proofs.Found.{Holds, Fails, found_is}
use Rattle.alternates.proofs.lowest_entry.Goals as goal

pub returns : goal.returns
returns c =
    let a = c.args in
    let is = λ (i : ℕ). entry_at a.map.now i =? number_of a.e in
    found_is is a.n _ (first_from_Range _ _ _ _ (Holds is a.n) (Fails is a.n) c.find.ensures.ran (λ x q k. search (rules, tests)) (λ x q k. search (rules, tests)))
