-- `host::run_hosted` meets its contract: the run over the record and the map that the bytes hold. Assumes nothing.
use mathlib.Core.Path.{sym, ap, ◌∙◌}
use Rattle.chain.proofs.Passed.{call_few}
use Rattle.chain.proofs.Runs.{called_left}
use Rattle.model.specs.Chain.{Called}
use Rattle.loughrella.proofs.Hosted.{ran_hosted}
use Rattle.loughrella.proofs.host.run_hosted.Goals as goal

pub returns-clause-call : goal.returns-clause-call
returns-clause-call c =
    let a = c.args in
    let run = c.run_allowed-ran in
    let call = rw c.unpack-u.ensures at (sym (called_left c.unpack-u.result run.result.left _ _ _ _ _) ∙ run.ensures.after) in
    ran_hosted a.d a.chain.now a.storage.now a.store.now a.unit.now a.answers.now c.requires.1 _ run.result.left _ _ _ _ _ call c.pack_left.ensures

pub returns-clause-few : goal.returns-clause-few
returns-clause-few c =
    let call = ap (λ (g : Called). g.reached) c.run_allowed-ran.ensures.after in
    rw call (call_few _ _ _ _ _ _ _)
