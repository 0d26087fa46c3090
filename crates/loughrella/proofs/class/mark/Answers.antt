-- `class::mark` meets its contract: the head of the call's result, and its answers behind it. Assumes nothing.
use mathlib.Core.Path.{sym}
use Rattle.loughrella.proofs.Marking.{refused_marked, ran_marked}
use Rattle.loughrella.proofs.class.mark.Goals as goal

pub returns-in-Err : goal.returns-in-Err
returns-in-Err c =
    let a = c.args in
    rw c.put_head.ensures (sym (refused_marked a.d a.chain.now a.storage.now a.store.now a.unit.now a.to.now c.in-Err.cause c.in-Err.ensures))

pub returns : goal.returns
returns c =
    let a = c.args in
    let ran = c.run_hosted-outcome.ensures in
    rw c.put_head-2.ensures (sym (ran_marked a.d a.chain.now a.storage.now a.store.now a.unit.now a.to.now _ _ _ _ _ ran.call ran.few c.requires.1))
