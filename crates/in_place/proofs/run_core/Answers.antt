-- `in_place::run_core` meets its contract. The call's equation, with cause and commands reached in one number; they fit, since at most 32 commands are reached. Assumes nothing.
use Rattle.chain.proofs.Passed.{never_none}
use Rattle.in_place.proofs.Reached.{reached_few, map_kept, gives_outcome}
use Rattle.in_place.proofs.run_core.Goals as goal

pub result_of-requires : goal.result_of-requires
result_of-requires c =
    let args = c.args in
    reached_few args.alternates args.chain.now args.storage.now args.store.now args.r.unit args.r.map args.answers.now _ (rw c.class_a.ensures at c.in-Ok.ensures)

pub returns-in-Ok : goal.returns-in-Ok
returns-in-Ok c =
    let args = c.args in
    record { is = gives_outcome args.r args.alternates args.chain.now args.storage.now args.store.now args.answers.now _ _ (rw c.class_a.ensures at c.in-Ok.ensures) c.result_of.ensures }

pub returns-in-Err : goal.returns-in-Err
returns-in-Err c =
    let args = c.args in
    let refused = rw c.class_a.ensures at c.in-Err.ensures in
    let kept = map_kept args.alternates args.chain.now args.storage.now args.store.now args.r.unit args.r.map args.answers.now _ refused (never_none c.in-Err.cause) in
    record { is = rw kept at (gives_outcome args.r args.alternates args.chain.now args.storage.now args.store.now args.answers.now _ _ refused c.result_of-in-Err.ensures) }
