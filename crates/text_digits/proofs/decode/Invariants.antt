-- `text_digits::decode` meets its contract. The invariant: the bytes of the text are those written, and those of what is left of it.
use Prim.Native.Nat.{◌+◌, ◌*◌}
use mathlib.Core.Path.{◌≡◌}
use mathlib.Core.List.{◌++◌}
use lib.ListN.{length, take, drop}
use Rattle.text_digits.specs.Digits.{bytes_in}
use Rattle.text_digits.proofs.decode.Given as goal

abbrev pub invariant-loop-i : goal.invariant-loop-i
invariant-loop-i l = (length l.text ≡ length l.initial.to + length l.initial.to) × (bytes_in l.text ≡ take l.i l.to ++ bytes_in (drop (2 * l.i) l.text))
