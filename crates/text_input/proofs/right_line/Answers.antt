-- `text_input::right_line` meets its contract: the line's number picks its rule. Assumes nothing.
use native.Mathlib.Omega.{arith}
use mathlib.Core.Path.{◌≡◌, ◌∙◌}
use borrow.Author.Tests.{ne_eqb, lt-ltb, le-ltb, lt-leb}
use Rattle.numbers.specs.Choice.{pick}
use Rattle.text_input.specs.Input.{blocks, ready, readonly, right_line}
use Rattle.text_input.proofs.Values.{number_bounded, told_some}
use Rattle.text_input.proofs.right_line.Goals as goal

pub returns-in-1 : goal.returns-in-1
unfolding right_line pick
returns-in-1 c = rw c.in-1.is (c.is_some.ensures ∙ told_some 65 c.number.result _ c.number.ensures (number_bounded blocks.key c.args.line.now 1 64 (omega arith)))

pub returns-in-2 : goal.returns-in-2
unfolding right_line pick
returns-in-2 c = rw c.in-2.is (c.is_some-in-2.ensures ∙ told_some 2 c.number-in-2.result _ c.number-in-2.ensures (number_bounded ready.key c.args.line.now 0 1 (omega arith)))

pub returns-in-3 : goal.returns-in-3
unfolding right_line pick
returns-in-3 c = rw c.in-3.is (c.is_some-in-3.ensures ∙ told_some 2 c.number-in-3.result _ c.number-in-3.ensures (number_bounded readonly.key c.args.line.now 0 1 (omega arith)))

pub returns-in-4 : goal.returns-in-4
unfolding right_line pick
returns-in-4 c = rw c.in-4.is c.has_bytes.ensures

pub returns-then-n-le-LAST_CCW : goal.returns-then-n-le-LAST_CCW
unfolding right_line pick
returns-then-n-le-LAST_CCW c =
    let n = c.args.n in
    simp (ne_eqb n 1 (λ (e : n ≡ 1). omega arith), ne_eqb n 2 (λ (e : n ≡ 2). omega arith), ne_eqb n 3 (λ (e : n ≡ 3). omega arith), ne_eqb n 4 (λ (e : n ≡ 4). omega arith), le-ltb _ _ c.if-n-le-LAST_CCW.true) c.has_bytes-then-n-le-LAST_CCW.ensures

pub returns-else-n-le-LAST_CCW : goal.returns-else-n-le-LAST_CCW
unfolding right_line pick
returns-else-n-le-LAST_CCW c =
    let n = c.args.n in
    simp (ne_eqb n 1 (λ (e : n ≡ 1). omega arith), ne_eqb n 2 (λ (e : n ≡ 2). omega arith), ne_eqb n 3 (λ (e : n ≡ 3). omega arith), ne_eqb n 4 (λ (e : n ≡ 4). omega arith), lt-ltb _ _ c.if-n-le-LAST_CCW.false, lt-leb c.args.n 36 c.if-n-le-LAST_CCW.false)
