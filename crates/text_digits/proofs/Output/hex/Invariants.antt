-- `text_digits::Output::hex` meets its contract. The invariant: the first bytes are added.
use lib.ListN.{take}
use Rattle.text_digits.specs.Digits.{hex}
use Rattle.text_digits.specs.Output.{Wrote}
use Rattle.text_digits.proofs.Output.hex.Given as goal

abbrev pub invariant-loop-b : goal.invariant-loop-b
invariant-loop-b l = Wrote l.initial.self (hex (take l.b-index l.bytes)) l.self
