-- `text_input::Field::number` meets its contract: the numbers that may be are tried in turn. Assumes nothing.
use Prim.Native.Nat.{◌+◌, ◌-◌}
use native.Mathlib.Omega.{arith}
use mathlib.Core.Path.{◌≡◌, ◌∙◌, sym, refl}
use Rattle.std.proofs.Common.{rules, tests}
use Rattle.std.proofs.lemmas.Iterator.{YieldsList-from_range}
use Rattle.std.proofs.lemmas.Iterator.Adapters.{option_map_id}
use Rattle.std.proofs.lemmas.Iterator.Search.{find_from_yields_List}
use Rattle.text_digits.specs.Digits.{decimal, same}
use Rattle.text_input.specs.Reads.{format}
use Rattle.text_input.proofs.Values.{number_unkeyed, number_keyed, number_first}
use Rattle.text_input.proofs.Field.number.Goals as goal

pub returns-in_err-value : goal.returns-in_err-value
returns-in_err-value c = rw c.from_residual.ensures (number_unkeyed _ _ c.in_err-value.ensures)

pub returns : goal.returns
returns c =
    let f = c.args.self.now in
    let line = c.args.line.now in
    let text = c.in_ok-value.value.now in
    let v = c.in_ok-value.ensures in
    let found = find_from_yields_List (λ m. same text (decimal m)) _ _ c.find.result c.find.ensures.ran (YieldsList-from_range f.least (f.most + 1) (f.most + 1 - f.least) refl refl) (λ x b q k. search (rules, tests)) in
    let is = sym (option_map_id c.find.result) ∙ found in
    let all : f.least + (f.most + 1 - f.least) ≡ f.most + 1 = omega arith in
    rw (is, number_keyed (format f) line v.0, ← v.1) (rw all at (number_first text (f.most + 1 - f.least) f.least))
