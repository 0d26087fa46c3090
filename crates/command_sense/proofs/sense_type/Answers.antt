-- `sense_type` meets its contract. Assumes nothing.
use mathlib.Core.Path.{refl}
use Rattle.command_sense.proofs.Sending.{type_ends}
use Rattle.command_sense.proofs.sense_type.Goals as goal

pub send-requires : goal.send-requires
send-requires c = c.requires.0

pub returns : goal.returns
returns c =
    let a = c.args in
    λ u d store. type_ends u d a.chain.now a.c c.requires.0.told a.s a.main.now store _ _ _ c.requires.1 refl c.send.ensures.end c.send.ensures.sent
