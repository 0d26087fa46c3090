-- `run::run_chain` meets its contract. Invariant `Underway`: lengths kept, the state safe, a command begins here, and what is still to run from here gives the whole run; the CCWs left fall. Assumes nothing.
use mathlib.Core.Path.{refl, sym, ◌∙◌}
use native.Mathlib.Omega.{arith}
use borrow.Author.Tests.{not-true, not-false}
use Rattle.unit_state.specs.Standing.{holding}
use Rattle.chain.proofs.Runs.{closes_some, given_walks, underway_start, underway_next, underway_stop, sound_same}
use Rattle.chain.proofs.run.run_chain.Goals as goal

pub loop-d-init : goal.loop-d-init
loop-d-init c =
    underway_start c.args.d _ c.args.u _ _ _ _ _ _ refl c.requires.0 c.requires.1 (c.requires.3.safe (holding c.args.u c.args.map.now))

pub one_turn-t-requires : goal.one_turn-t-requires
one_turn-t-requires c =
    let a = c.args in
    let l = c.loop-d in
    let under = l.invariant in
    record {
      sound = sound_same a.d (holding a.u l.map) a.s l.state a.store.now l.store a.map.now l.map under.store_length under.map_length c.requires.3 under.safe;
      short = c.requires.2;
      closes = under.closes;
      room = omega (arith, under.room, under.answers_length);
    }

pub shape_of-main-then-not-t : goal.shape_of-main-then-not-t
shape_of-main-then-not-t c = omega arith

pub shape_of-store-then-not-t : goal.shape_of-store-then-not-t
shape_of-store-then-not-t c = omega arith

pub shape_of-map-then-not-t : goal.shape_of-map-then-not-t
shape_of-map-then-not-t c = omega arith

pub shape_of-answers-then-not-t : goal.shape_of-answers-then-not-t
shape_of-answers-then-not-t c = omega arith

pub returns-then-not-t : goal.returns-then-not-t
returns-then-not-t c =
    let a = c.args in
    let l = c.loop-d in
    let p = c.one_turn-t.ensures l.invariant.command l.invariant.begins in
    given_walks a.d a.chain.now a.u a.main.now a.store.now a.map.now a.answers.now _ a.s refl
    (underway_stop a.d a.chain.now a.u a.main.now a.store.now a.map.now a.answers.now _ a.s l.main l.store l.map l.answers l.state l.at l.reached l.invariant _ _
    p.after (sym p.go ∙ not-true _ c.if-not-t.true) p.left)

pub loop-d-smaller : goal.loop-d-smaller
loop-d-smaller c =
    let under = c.loop-d.invariant in
    omega (arith, (c.one_turn-t.ensures under.command under.begins).on, closes_some _ _ under.closes)

pub loop-d-preserved : goal.loop-d-preserved
loop-d-preserved c =
    let a = c.args in
    let l = c.loop-d in
    let p = c.one_turn-t.ensures l.invariant.command l.invariant.begins in
    let sound = sound_same a.d (holding a.u l.map) a.s l.state a.store.now l.store a.map.now l.map l.invariant.store_length l.invariant.map_length c.requires.3 l.invariant.safe in
    underway_next a.d a.chain.now a.u a.main.now a.store.now a.map.now a.answers.now _ a.s l.main l.store l.map l.answers l.state l.at l.reached l.invariant _ _ _ _ c.one_turn-t.result
    sound.mounted.some_block c.one_turn-t.auto.map p (sym p.go ∙ not-false _ c.if-not-t.false)
