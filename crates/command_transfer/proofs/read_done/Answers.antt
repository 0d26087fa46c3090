-- `read_done` meets its contract. Assumes nothing.
use native.Mathlib.Omega.{arith}
use Rattle.command_transfer.proofs.read_done.Goals as goal

pub read_counted-requires : goal.read_counted-requires
read_counted-requires c = omega (arith, c.begun-blocks.ensures, c.requires.2)

pub accept-requires : goal.accept-requires
accept-requires c = omega (arith, c.begun-blocks.ensures, c.requires.2)

pub returns : goal.returns
returns c = rw (c.after-t.ensures, c.read_counted.ensures, c.begun-blocks.ensures) at c.accept.ensures
