-- `text_input::wrong_line` meets its contract: each line that is given is the first of those that were left. Assumes nothing.
use native.Mathlib.Omega.{arith}
use mathlib.Core.Path.{◌≡◌, ◌∙◌, sym, refl}
use Prim.Native.Nat.{◌+◌}
use mathlib.Core.List.{[], ◌∷◌, ◌++◌}
use lib.ListN.{length}
use borrow.Author.Rules.{rules}
use borrow.Author.Tests.{lt-ltb, le-ltb}
use Rattle.std.proofs.lemmas.List.{length_push}
use Rattle.numbers.specs.Choice.{pick}
use Rattle.text_input.specs.Input.{lines, wrong_line}
use Rattle.text_input.proofs.Lines.{given_line, given_all, wrong_here, right_here, wrong_at_end}
use Rattle.text_input.proofs.Rights.{right_number}
use Rattle.text_input.proofs.wrong_line.Goals as goal

pub loop-line-init : goal.loop-line-init
unfolding wrong_line
loop-line-init c = (refl, omega arith, refl)

pub returns-then-not-right_line : goal.returns-then-not-right_line
returns-then-not-right_line c =
    let l = c.loop-line in
    let next = given_line c.args.input.now l.yielded _ _ l.yielded_by c.in-Some.is c.next.ensures.steps c.into_iter-line-iterator.ensures.into_iter_gives c.split_inclusive-line-items.ensures.rest (λ f a b h k. search rules) in
    let is : l.n ≡ wrong_line c.args.input.now = wrong_here _ _ c.in-Some.line.now l.n _ c.right_line.result l.invariant.2 next c.right_line.ensures c.if-not-right_line.true in
    (is, λ e. omega arith)

pub loop-line-preserved : goal.loop-line-preserved
loop-line-preserved c =
    let l = c.loop-line in
    let next = given_line c.args.input.now l.yielded _ _ l.yielded_by c.in-Some.is c.next.ensures.steps c.into_iter-line-iterator.ensures.into_iter_gives c.split_inclusive-line-items.ensures.rest (λ f a b h k. search rules) in
    let more : length (l.yielded ++ (c.in-Some.line ∷ [])) ≡ length l.yielded + 1 = length_push l.yielded c.in-Some.line in
    let few = right_number l.n c.in-Some.line.now (sym c.right_line.ensures ∙ c.if-not-right_line.false) in
    let is = right_here _ _ c.in-Some.line.now l.n _ c.right_line.result l.invariant.2 next c.right_line.ensures c.if-not-right_line.false in
    (omega arith, omega arith, rw more is)

pub returns-then-n-gt-FIRST_CCW : goal.returns-then-n-gt-FIRST_CCW
unfolding pick
returns-then-n-gt-FIRST_CCW c =
    let l = c.loop-line in
    let long = given_all c.args.input.now l.yielded _ _ l.yielded_by c.in-None.is c.next.ensures.steps c.into_iter-line-iterator.ensures.into_iter_gives c.split_inclusive-line-items.ensures.rest (λ f a b h k. search rules) in
    let is = wrong_at_end (lines c.args.input.now) (length l.yielded) l.n _ l.invariant.2 (omega arith) in
    is ∙ rw (lt-ltb 5 l.n c.if-n-gt-FIRST_CCW.true)

pub returns-else-n-gt-FIRST_CCW : goal.returns-else-n-gt-FIRST_CCW
unfolding pick
returns-else-n-gt-FIRST_CCW c =
    let l = c.loop-line in
    let long = given_all c.args.input.now l.yielded _ _ l.yielded_by c.in-None.is c.next.ensures.steps c.into_iter-line-iterator.ensures.into_iter_gives c.split_inclusive-line-items.ensures.rest (λ f a b h k. search rules) in
    let is = wrong_at_end (lines c.args.input.now) (length l.yielded) l.n _ l.invariant.2 (omega arith) in
    let here : l.n ≡ wrong_line c.args.input.now = sym (is ∙ rw (le-ltb 5 l.n c.if-n-gt-FIRST_CCW.false)) in
    (here, λ e. omega arith)
