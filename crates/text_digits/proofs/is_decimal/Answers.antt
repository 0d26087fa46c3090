-- `text_digits::is_decimal` meets its contract: the number is printed, which takes five digits at most, and the two texts are compared.
-- Assumes nothing.
use mathlib.Core.Path.{sym}
use lib.ListN.{take}
use lib.Seq.{length-take-le}
use Rattle.std.proofs.lemmas.Slice.Eq.{slice_eq-Decides}
use Rattle.std.proofs.lemmas.Bool.Decides.{Decides-eqb, same_from_decides}
use Rattle.text_digits.specs.Digits.{decimal, same}
use Rattle.text_digits.proofs.Numbers.{decimal_short, same_Decides}
use Rattle.text_digits.proofs.Outputs.{wrote_whole}
use Rattle.text_digits.proofs.is_decimal.Goals as goal

pub slice_bounds-eq-end : goal.slice_bounds-eq-end
slice_bounds-eq-end c = (wrote_whole c.decimal.ensures c.new-printed.ensures.front (rw c.new-printed.ensures.same_bytes (decimal_short c.args.n c.requires))).1

pub slice_bounds-eq-end-2 : goal.slice_bounds-eq-end-2
slice_bounds-eq-end-2 c = sym (length-take-le _ _ (wrote_whole c.decimal.ensures c.new-printed.ensures.front (rw c.new-printed.ensures.same_bytes (decimal_short c.args.n c.requires))).1)

pub returns : goal.returns
returns c =
    let o = c.decimal.new.self in
    let w = wrote_whole c.decimal.ensures c.new-printed.ensures.front (rw c.new-printed.ensures.same_bytes (decimal_short c.args.n c.requires)) in
    let d = slice_eq-Decides Decides-eqb c.args.text.now (take o.at o.bytes.now) c.eq.result c.eq.ensures in
    same_from_decides c.eq.result (same c.args.text.now (decimal c.args.n)) (rw w.0 at d) (same_Decides c.args.text.now (decimal c.args.n))
