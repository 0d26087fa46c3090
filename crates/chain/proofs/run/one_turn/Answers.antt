-- `run::one_turn` meets its contract: the command, the step and the answers are those of `next`, and "go on" is `more`. Assumes nothing.
use Prim.Native.Nat.{◌<◌}
use native.Mathlib.Omega.{arith}
use Rattle.model.proofs.Fields.{step_moved}
use Rattle.chain.proofs.Runs.{begins_command, command_ccws, front_small, turned}
use borrow.Author.Rules.{rules}
use Rattle.chain.proofs.run.one_turn.Goals as goal

pub command_at-c-requires : goal.command_at-c-requires
command_at-c-requires c = (c.requires.closes, c.requires.short)

pub step-e-requires : goal.step-e-requires
step-e-requires c = (c.requires.sound, c.command_at-c.ensures.told.0)

pub put_answers-given-requires : goal.put_answers-given-requires
put_answers-given-requires c =
    let e = c.command_at-c.ensures in
    let a = c.args in (
      e.told.0,
      rw (c.step-e.ensures.moved, e.told.0.count) (step_moved a.d _ _ a.main.now a.store.now),
      omega (arith, c.requires.room, command_ccws a.chain.now a.at c.command_at-c.result e.first),
      front_small c.step-e.ensures,
    )

pub returns : goal.returns
returns c =
    let a = c.args in
    -- two bytes count the blocks of a LOCATE
    let few : a.s.located.blocks < 65536 = search (rules, c.well_formed.1.1.1.1.1.0.1.1.1.0.1.1.1.1.0) in
    let e = c.command_at-c.ensures in
    let p = c.put_answers-given.ensures in
    λ i b.
    let k = begins_command a.chain.now i a.at _ _ b e.first in
    turned a.d a.chain.now a.at i _ a.u a.s a.main.now a.store.now a.map.now a.answers.now _ _ _ c.step-e.result a.reached
    e.told.0 k.0 c.step-e.ensures _ _ _ p.put p.next p.whole c.requires.sound.mounted.device few c.goes_on.ensures k.1 e.told.1 e.on
