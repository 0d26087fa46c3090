-- `sense` meets its contract. Assumes nothing.
use mathlib.Core.Path.{◌≡◌}
use lib.ListN.{length}
use Rattle.unit_state.specs.Standing.{holding}
use Rattle.command_sense.proofs.Sending.{sense_ends}
use borrow.Author.Rules.{rules}
use Rattle.command_sense.proofs.sense.Goals as goal

pub send-requires : goal.send-requires
send-requires c = c.requires.0

pub returns : goal.returns
returns c =
    let a = c.args in
    let long : length c.sense_now-bytes.result ≡ 24 = search rules in
    λ map d store. sense_ends (holding a.u map) d a.chain.now a.c c.requires.0.told a.s a.main.now store _ _ _ c.requires.1 c.sense_now-bytes.ensures long c.send.ensures.end c.send.ensures.sent
