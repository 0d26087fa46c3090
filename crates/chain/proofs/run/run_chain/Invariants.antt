-- `run::run_chain` meets its contract. Invariant `Underway`: lengths kept, the state safe, a command begins here, and what is still to run from here gives the whole run; the CCWs left fall. Assumes nothing.
use Prim.Native.Nat.{◌-◌}
use lib.ListN.{length}
use Rattle.model.specs.Pieces.{commands_in}
use Rattle.chain.specs.Walk.{ccws_of}
use Rattle.chain.proofs.Runs.{Underway}
use Rattle.chain.proofs.run.run_chain.Given as goal

abbrev pub invariant-loop-d : goal.invariant-loop-d
invariant-loop-d l =
    Underway l.d l.chain l.u l.initial.main l.initial.store l.initial.map l.initial.answers (length (commands_in l.chain)) l.initial.state l.main l.store l.map l.answers l.state l.at l.reached

abbrev pub decreases-loop-d : goal.decreases-loop-d
decreases-loop-d l = ccws_of l.chain - l.at
