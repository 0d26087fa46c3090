-- `store_window` meets its contract. Before each row, storing what is left makes the whole. Assumes nothing.
use Prim.Native.Nat.{◌-◌}
use mathlib.Core.Path.{◌≡◌, refl, sym, ap, ◌∙◌}
use lib.ListN.{length}
use native.Mathlib.Nat.{add-zero, zero-mul}
use native.Mathlib.Omega.{arith}
use Rattle.std.specs.Fn.{ComputesOnPairs}
use Rattle.std.specs.Slice.Iter.{chunk_by_rest}
use Rattle.std.proofs.lemmas.Fn.{always_returns_same}
use Rattle.model.specs.Lent.{blocks_into}
use Rattle.blocks.specs.Places.{follows}
use Rattle.blocks.proofs.Rows.{behind_none, behind_next, cut_length, row_chunked, row_within, row_stored, left_first, left_here, left_next, left_end, store_turn}
use Rattle.blocks.proofs.store_window.Goals as goal

pub loop-room-init : goal.loop-room-init
loop-room-init c =
    let a = c.args in
    let asked = c.requires in
    let all : chunk_by_rest c.into_iter-room-iterator.result ≡ a.at.now = ap chunk_by_rest c.into_iter-room-iterator.ensures.into_iter_gives ∙ c.chunk_by-room-items.ensures.rest in
    let none : length a.at.now - length a.at.now ≡ 0 = omega arith in
    rw all (behind_none a.at.now, left_first a.d.block a.chain.now a.a a.n a.main.now _ asked.area asked.bytes, λ map block p. rw (none, add-zero block) refl)

pub overflow_mul-room : goal.overflow_mul-room
overflow_mul-room c =
    let a = c.args in
    let asked = c.requires in
    let cut = c.in-Some.ensures.steps in
    let all : ComputesOnPairs _ follows (tt {0}) = always_returns_same _ _ _ (λ p r f k. (k.met, refl)) in
    let row = row_chunked a.at.now _ _ _ c.loop-room.invariant.0 all cut a.d a.store.now asked.device (omega arith) asked.stored in
    omega (arith, row_within _ _ _ row a.d a.store.now asked.stored)

pub store_row-requires : goal.store_row-requires
store_row-requires c =
    let a = c.args in
    let asked = c.requires in
    let l = c.loop-room in
    let k = c.min-k in
    let cut = c.in-Some.ensures.steps in
    let all : ComputesOnPairs _ follows (tt {0}) = always_returns_same _ _ _ (λ p r f k. (k.met, refl)) in
    let row = row_chunked a.at.now _ _ _ l.invariant.0 all cut a.d a.store.now asked.device (omega arith) asked.stored in
    record { stored = rw l.auto.store (row_within _ _ _ row a.d a.store.now asked.stored); bytes = omega (arith, k.ensures); area = left_here _ _ _ _ _ _ _ _ l.invariant.1 _ _ k.ensures }

pub skip-from-requires : goal.skip-from-requires
skip-from-requires c =
    let there = c.loop-room.invariant.1.there in
    (there.ccws, omega (arith, c.min-k.ensures, there.left), omega (arith, there.inside.0))

pub loop-room-preserved : goal.loop-room-preserved
loop-room-preserved c =
    let a = c.args in
    let asked = c.requires in
    let l = c.loop-room in
    let k = c.min-k in
    let rest = c.skip-from in
    let cut = c.in-Some.ensures.steps in
    let all : ComputesOnPairs _ follows (tt {0}) = always_returns_same _ _ _ (λ p r f k. (k.met, refl)) in
    let row = row_chunked a.at.now _ _ _ l.invariant.0 all cut a.d a.store.now asked.device (omega arith) asked.stored in
    let inside = row_within _ _ _ row a.d a.store.now asked.stored in
    let long = cut_length a.at.now _ _ _ l.invariant.0 cut.0 cut.1 in
    let few = l.invariant.0.few in (
      behind_next a.at.now _ _ _ l.invariant.0 cut.0 cut.1,
      left_next _ _ _ _ _ _ _ _ l.invariant.1 a.main.now _ (length c.in-Some.room.now) _ _ k.ensures rest.ensures long refl,
      λ map block p.
          let stored = row_stored _ _ _ row a.d map a.store.now l.store block _ p (sym l.auto.store) (rw l.auto.store inside) in
          store_turn a.d map l.store a.chain.now l.from rest.result a.main.now _ l.left k.result _ (length c.in-Some.room.now) _ _ _
          rest.ensures k.ensures l.invariant.1.there long (omega (arith, long, few)) (c.store_row.ensures ∙ stored)
          ∙ l.invariant.2 map block p,
    )

pub returns : goal.returns
unfolding blocks_into
returns c =
    let l = c.loop-room in
    let over = c.in-None.ensures.steps.0 in
    let none : l.left ≡ 0 = omega (arith, rw (over, zero-mul) at l.invariant.1.bytes) in
    record {
      rest = left_end _ _ _ _ _ _ _ _ l.invariant.1 none;
      stored = λ map block p. rw over at (l.invariant.2 map block p);
    }
