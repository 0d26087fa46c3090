-- `text_input::chain_in` meets its contract: each line that is given is the first of those that were left, and is right. Assumes nothing.
use Prim.Native.Nat.{◌+◌}
use native.Mathlib.Omega.{arith}
use mathlib.Core.Path.{◌≡◌, ◌∙◌, refl}
use mathlib.Core.List.{[], ◌∷◌, ◌++◌}
use lib.ListN.{length, drop}
use borrow.Author.Rules.{rules}
use borrow.Rule.Slice.PartMut.{mid_len}
use Rattle.std.proofs.lemmas.List.{length_push}
use Rattle.text_input.specs.Input.{lines, exercise_in}
use Rattle.text_input.proofs.Lines.{given_later, given_rest}
use Rattle.text_input.proofs.Reading.{goes_start, goes_done}
use Rattle.text_input.proofs.Rights.{chain_from, ccw_is, chain_more, chain_done}
use Rattle.text_input.proofs.chain_in.Goals as goal

pub loop-line-init : goal.loop-line-init
unfolding exercise_in
loop-line-init c = (refl, omega arith, c.requires.1, c.requires.1, chain_from c.args.input.now c.requires.0, goes_start)

pub read-end-requires-clause-right : goal.read-end-requires-clause-right
read-end-requires-clause-right c =
    let l = c.loop-line in
    let next = given_later c.args.input.now 4 l.yielded _ _ l.yielded_by c.in-Some.is c.next.ensures.steps c.into_iter-line-iterator.ensures.into_iter_gives c.skip-line-items.ensures.source c.skip-line-items.ensures.count c.split_inclusive.ensures.rest (λ f a b h k. search rules) in
    let is = ccw_is _ _ c.in-Some.line.now (length l.yielded) next l.invariant.4 in
    is.0

pub read-end-requires-clause-room : goal.read-end-requires-clause-room
read-end-requires-clause-room c =
    let l = c.loop-line in
    let next = given_later c.args.input.now 4 l.yielded _ _ l.yielded_by c.in-Some.is c.next.ensures.steps c.into_iter-line-iterator.ensures.into_iter_gives c.skip-line-items.ensures.source c.skip-line-items.ensures.count c.split_inclusive.ensures.rest (λ f a b h k. search rules) in
    let is = ccw_is _ _ c.in-Some.line.now (length l.yielded) next l.invariant.4 in
    rw (mid_len l.end (length l.to) l.to (omega arith)) (omega (arith, is.2, l.invariant))

pub loop-line-preserved : goal.loop-line-preserved
loop-line-preserved c =
    let l = c.loop-line in
    let next = given_later c.args.input.now 4 l.yielded _ _ l.yielded_by c.in-Some.is c.next.ensures.steps c.into_iter-line-iterator.ensures.into_iter_gives c.skip-line-items.ensures.source c.skip-line-items.ensures.count c.split_inclusive.ensures.rest (λ f a b h k. search rules) in
    let is = ccw_is _ _ c.in-Some.line.now (length l.yielded) next l.invariant.4 in
    let more : length (l.yielded ++ (c.in-Some.line ∷ [])) ≡ length l.yielded + 1 = length_push l.yielded c.in-Some.line in
    let eight : c.read-end.result ≡ 8 = c.read-end.ensures.count ∙ is.1 in
    rw more (omega arith, omega (arith, is.2), search rules, c.requires.1, is.3, chain_more _ _ c.in-Some.line.now l.to l.end next (omega (arith, l.invariant)) c.read-end.ensures l.invariant.5)

pub returns : goal.returns
returns c =
    let l = c.loop-line in
    let long = given_rest c.args.input.now 4 l.yielded _ _ l.yielded_by c.in-None.is c.next.ensures.steps c.into_iter-line-iterator.ensures.into_iter_gives c.skip-line-items.ensures.source c.skip-line-items.ensures.count c.split_inclusive.ensures.rest (λ f a b h k. search rules) in
    goes_done (rw (chain_done (drop 4 (lines c.args.input.now)) (length l.yielded) (omega arith)) at l.invariant.5) (omega (arith, l.invariant))
