-- `answer_of` meets its contract. Assumes nothing.
use Rattle.endings.proofs.answer_of.Goals as goal

pub returns : goal.returns
returns c = rw (c.of-unit.ensures, c.of-channel.ensures, c.from.ensures, c.byte_of.ensures)
