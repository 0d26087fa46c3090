-- `ipl_done` meets its contract. Assumes nothing.
use Rattle.command_transfer.proofs.ipl_done.Goals as goal

pub returns : goal.returns
returns c =
    rw (c.extent_set-t.ensures, c.whole_device.ensures, c.movement_counted-k.ensures, c.read_counted.ensures) at c.accept.ensures
