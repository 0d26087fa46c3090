-- `write_done` meets its contract. Assumes nothing.
use native.Mathlib.Omega.{arith}
use Rattle.command_transfer.proofs.write_done.Goals as goal

pub accept-requires : goal.accept-requires
accept-requires c = omega (arith, c.begun.ensures, c.requires.2)

pub returns : goal.returns
returns c = rw (c.after-t.ensures, c.written.ensures, c.begun.ensures) at c.accept.ensures
