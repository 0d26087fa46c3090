-- `past_device` meets its contract. Assumes nothing.
use Rattle.numbers.proofs.Choice.{not_below}
use Rattle.command_extent.proofs.past_device.Goals as goal

pub address-end-requires : goal.address-end-requires
address-end-requires c = c.requires

pub returns : goal.returns
returns c = simp (not_below, ← c.address-end.ensures)
