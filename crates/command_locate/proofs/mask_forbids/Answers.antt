-- `mask_forbids` meets its contract. Each return is the rule for the bits and the operation that were tested on the way. Assumes nothing.
use mathlib.Core.Path.{sym}
use mathlib.Core.Bool.{or-false}
use borrow.Author.Tests.{eq-eqb, ne_eqb}
use Rattle.model.specs.Parameters.{forbids}
use Rattle.command_locate.proofs.Tests.{shifted_bit}
use Rattle.command_locate.proofs.mask_forbids.Goals as goal

pub returns-then-bit_1 : goal.returns-then-bit_1
unfolding forbids
returns-then-bit_1 c =
    let mask = c.args.mask in
    rw (shifted_bit mask 0 (eq-eqb _ _ c.if-bit_0.true), shifted_bit mask 1 (eq-eqb _ _ c.if-bit_1.true))

pub returns-then-bit_0 : goal.returns-then-bit_0
unfolding forbids
returns-then-bit_0 c =
    let mask = c.args.mask in
    rw (shifted_bit mask 0 (eq-eqb _ _ c.if-bit_0.true), shifted_bit mask 1 (ne_eqb _ _ c.if-bit_1.false), c.is_operation.ensures)

pub returns-then-operation-eq-FORMAT : goal.returns-then-operation-eq-FORMAT
unfolding forbids
returns-then-operation-eq-FORMAT c =
    let mask = c.args.mask in
    rw (shifted_bit mask 0 (ne_eqb _ _ c.if-bit_0.false), eq-eqb _ _ c.if-operation-eq-FORMAT.true)

pub returns-then-not-bit_1 : goal.returns-then-not-bit_1
unfolding forbids
returns-then-not-bit_1 c =
    let mask = c.args.mask in
    rw (shifted_bit mask 0 (ne_eqb _ _ c.if-bit_0.false), ne_eqb _ _ c.if-operation-eq-FORMAT.false, shifted_bit mask 1 (ne_eqb _ _ c.if-not-bit_1.true))

pub returns : goal.returns
unfolding forbids
returns c =
    let mask = c.args.mask in
    rw (shifted_bit mask 0 (ne_eqb _ _ c.if-bit_0.false), ne_eqb _ _ c.if-operation-eq-FORMAT.false, shifted_bit mask 1 (eq-eqb _ _ c.if-not-bit_1.false), c.writes.ensures) (sym (or-false _))
