-- `alternates::none_used` meets its contract: byte for byte, the bits so far are none where the bytes so far are 0, and only there. Assumes nothing.
use mathlib.Core.Path.{◌≡◌, sym}
use lib.Bits.{bit_or}
use lib.Seq.{take_all, length-take-le}
use native.Mathlib.Omega.{arith}
use borrow.Author.Rules.{rules}
use Rattle.std.proofs.lemmas.Fn.{fold_over, fronts, slice_gives}
use Rattle.alternates.proofs.NoneUsed.{Gathered, gathered_none, gathered_more, gathered_all}
use Rattle.alternates.proofs.none_used.Goals as goal

pub slice_bounds-iter-end : goal.slice_bounds-iter-end
slice_bounds-iter-end c = sym (length-take-le 256 c.args.map.now (omega arith))

pub returns : goal.returns
returns c =
    let all = take_all 256 c.args.map.now (omega arith) in
    let bits =
    fold_over fronts (λ y. y.now) _ Gathered _ (λ ys a x b f' g k. let e : b ≡ bit_or a x.now = search rules in (rw e (gathered_more ys a x.now g), search rules)) _ _ _ _
    (slice_gives c.iter.result) gathered_none c.fold.ensures.ran in
    gathered_all _ _ (rw (c.iter.ensures.rest, all) at bits)
