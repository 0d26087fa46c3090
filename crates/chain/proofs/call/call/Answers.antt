-- `call::call` meets its contract: where no cause holds, the record is the one that the run left. Assumes nothing.
use mathlib.Core.Path.{sym, ◌∙◌}
use Rattle.chain.proofs.Runs.{called_left}
use Rattle.chain.proofs.call.call.Goals as goal

pub returns : goal.returns
returns c =
    rw c.record_left.ensures (sym (called_left c.args.u c.run_allowed-walked.result.left _ _ _ _ _) ∙ c.run_allowed-walked.ensures.after)
