-- `located_move` meets its contract: the blocks are placed, so no product is too large. Assumes nothing.
use native.Mathlib.Omega.{arith}
use Rattle.command_transfer.proofs.located_move.Goals as goal

pub overflow_mul-can : goal.overflow_mul-can
overflow_mul-can c = omega (arith, c.requires.product)

pub address-requires : goal.address-requires
address-requires c = c.requires.from_first

pub returns : goal.returns
returns c = rw (c.min.ensures, c.address.ensures)
