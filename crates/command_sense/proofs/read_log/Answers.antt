-- `read_log` meets its contract. Assumes nothing.
use Rattle.command_sense.proofs.Sending.{log_ends}
use Rattle.command_sense.proofs.read_log.Goals as goal

pub send-requires : goal.send-requires
send-requires c = c.requires.0

pub returns : goal.returns
returns c =
    let a = c.args in
    λ u d store. log_ends u d a.chain.now a.c c.requires.0.told a.s a.main.now store _ _ _ c.requires.1 c.of-log.ensures.shows c.of-log.ensures.long (rw c.none_counted.ensures at c.send.ensures.end) c.send.ensures.sent
