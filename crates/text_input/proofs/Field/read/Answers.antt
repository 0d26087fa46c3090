-- `text_input::Field::read` meets its contract: the line has the key, and its value is decoded. Assumes nothing.
use Prim.Native.Nat.{◌/◌}
use native.Mathlib.Omega.{arith}
use mathlib.Core.Path.{◌∙◌, sym, ap}
use lib.ListN.{length}
use lib.Seq.{length-take-le}
use Rattle.text_digits.specs.Digits.{bytes_in}
use Rattle.text_input.specs.Input.{bytes_of}
use Rattle.text_input.specs.Reads.{format}
use Rattle.text_input.proofs.Values.{some_value, hex_right, hex_value}
use Rattle.text_input.proofs.Reading.{read_front}
use Rattle.text_input.proofs.Field.read.Goals as goal

pub unwrap-value-requires : goal.unwrap-value-requires
unwrap-value-requires c = some_value _ c.value.result _ c.value.ensures (hex_right (format c.args.self.now) c.args.line.now c.requires.right).0

pub slice_bounds-decode-end : goal.slice_bounds-decode-end
slice_bounds-decode-end c =
    let v = rw c.unwrap-value.ensures at c.value.ensures in
    omega (arith, hex_value (format c.args.self.now) c.args.line.now _ c.requires.right v.1, c.requires.room)

pub slice_bounds-decode-end-2 : goal.slice_bounds-decode-end-2
slice_bounds-decode-end-2 c =
    let v = rw c.unwrap-value.ensures at c.value.ensures in
    sym (length-take-le _ _ (omega (arith, hex_value (format c.args.self.now) c.args.line.now _ c.requires.right v.1, c.requires.room)))

pub decode-requires : goal.decode-requires
decode-requires c =
    let v = rw c.unwrap-value.ensures at c.value.ensures in
    let is = hex_value (format c.args.self.now) c.args.line.now _ c.requires.right v.1 in
    rw (length-take-le (length c.unwrap-value.result.now / 2) c.args.to.now (omega (arith, is, c.requires.room))) is.0

pub returns : goal.returns
unfolding bytes_of
returns c =
    let v = rw c.unwrap-value.ensures at c.value.ensures in
    let is = hex_value (format c.args.self.now) c.args.line.now _ c.requires.right v.1 in
    read_front (c.decode.ensures ∙ ap bytes_in v.1) (c.decode.auto.to ∙ length-take-le _ _ (omega (arith, is, c.requires.room))) (omega (arith, is, c.requires.room))
