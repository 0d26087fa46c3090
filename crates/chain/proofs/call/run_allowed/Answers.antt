-- `call::run_allowed` meets its contract: that no cause holds leaves a sound device, and the run from a fresh state is the call. Assumes nothing.
use native.Mathlib.Omega.{arith}
use Rattle.model.proofs.Endings.{callable}
use Rattle.chain.proofs.Runs.{callable_sound, allowed}
use Rattle.chain.proofs.call.run_allowed.Goals as goal

pub run_chain-requires : goal.run_chain-requires
run_chain-requires c =
    let a = c.args in
    let k = callable a.d a.chain.now a.main.now a.store.now a.map.now a.answers.now c.requires.2 in
    (k.closes, k.answered, omega (arith, k.few, k.whole), rw c.start.ensures (callable_sound a.d a.chain.now a.main.now a.store.now a.map.now a.answers.now a.u c.requires.0 c.requires.1 k))

pub returns : goal.returns
returns c =
    let a = c.args in
    allowed a.d a.chain.now a.main.now a.store.now a.map.now a.answers.now _ _ _ _ a.u _ _ c.start.ensures c.requires.2 c.run_chain.ensures
