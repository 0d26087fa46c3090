-- `alternates::places` meets its contract. The invariant: each place is where its block lies by the entries from i on. The measure: the
-- entries left. Assumes nothing.
use mathlib.Core.Path.{◌≡◌, sym, ◌∙◌}
use native.Mathlib.Omega.{arith}
use Rattle.alternates.proofs.Placing.{from_alternates, from_turn, from_first, places_known}
use borrow.Author.Rules.{rules}
use Rattle.alternates.proofs.places.Goals as goal

pub loop-i-init : goal.loop-i-init
loop-i-init c = (search rules, search rules, λ j b. c.own_places.ensures j (search rules) ∙ sym (from_alternates _ _ _ _))

pub loop-i-preserved : goal.loop-i-preserved
loop-i-preserved c =
    let l = c.loop-i in
    (search rules, search rules, λ j b. c.put_place.ensures j (search rules) ∙ from_turn _ _ _ l.i _ _ _ c.loop-i-test.true l.invariant.0 c.number_at.ensures.0 (l.invariant.2 j b))

pub returns : goal.returns
returns c =
    let l = c.loop-i in
    let done : l.i ≡ 0 = omega arith in
    places_known _ _ _ _ _ _ (search rules) (λ j b. rw done at (l.invariant.2 j (search rules)) ∙ from_first _ _ _ _)
