-- `text_input::Field::has_bytes` meets its contract: the tests, in turn. Assumes nothing.
use native.Mathlib.Omega.{arith}
use mathlib.Core.Path.{◌∙◌, sym, ap}
use borrow.Author.Tests.{leb-true, leb-false}
use Rattle.text_digits.specs.Digits.{is_hex}
use Rattle.text_input.specs.Reads.{format}
use Rattle.text_input.proofs.Values.{hex_not_keyed, hex_few, hex_many, hex_some}
use Rattle.text_input.proofs.Field.has_bytes.Goals as goal
use Rattle.text_input.proofs.Field.has_bytes.Goals.{then-self-n, else-self-n}

pub returns-in-None : goal.returns-in-None
returns-in-None c = hex_not_keyed (format c.args.self.now) c.args.line.now c.in-None.ensures

pub returns-then-n-self : goal.returns-then-n-self
returns-then-n-self c =
    let v = c.in-Some.ensures in
    elim c.if-self-n.branch [
      | then-self-n w ↦ c.is_hex.ensures ∙ ap is_hex v.1 ∙ hex_some (format c.args.self.now) c.args.line.now v.0 (rw v.1 at w.if-self-n.true) (rw v.1 at (leb-true _ _ (sym w.value-is ∙ c.if-n-self.true)))
      | else-self-n w ↦ absurd (omega (arith, leb-true _ _ (sym w.value-is ∙ c.if-n-self.true)))
    ]

pub returns-else-n-self : goal.returns-else-n-self
returns-else-n-self c =
    let v = c.in-Some.ensures in
    elim c.if-self-n.branch [
      | then-self-n w ↦ c.if-n-self.false ∙ hex_many (format c.args.self.now) c.args.line.now v.0 (rw v.1 at w.if-self-n.true) (rw v.1 at (leb-false _ _ (sym w.value-is ∙ c.if-n-self.false)))
      | else-self-n w ↦ c.if-n-self.false ∙ hex_few (format c.args.self.now) c.args.line.now v.0 (rw v.1 at w.if-self-n.false)
    ]
