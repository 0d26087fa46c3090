-- `read_window` meets its contract. Before each row, reading what is left makes the whole. Assumes nothing.
use Prim.Native.Nat.{ℕ, ◌-◌}
use mathlib.Core.Path.{◌≡◌, refl, sym, ap, ◌∙◌}
use mathlib.Core.List.{List}
use lib.ListN.{length, take}
use native.Mathlib.Nat.{add-zero, zero-mul}
use native.Mathlib.Omega.{arith}
use Rattle.std.specs.Fn.{ComputesOnPairs}
use Rattle.std.specs.Slice.Iter.{chunk_by_rest}
use Rattle.std.proofs.lemmas.Fn.{always_returns_same}
use Rattle.model.specs.Pieces.{scattered}
use Rattle.model.specs.Decoded.{area_of}
use Rattle.storage.proofs.Laws.{scattered_none}
use Rattle.blocks.specs.Places.{follows}
use Rattle.blocks.proofs.Rows.{behind_none, behind_next, cut_length, row_chunked, row_within, row_read, left_first, left_here, left_next, left_end, read_turn}
use Rattle.blocks.proofs.read_window.Goals as goal

pub loop-row-init : goal.loop-row-init
loop-row-init c =
    let a = c.args in
    let asked = c.requires in
    let all : chunk_by_rest c.into_iter-row-iterator.result ≡ a.at.now = ap chunk_by_rest c.into_iter-row-iterator.ensures.into_iter_gives ∙ c.chunk_by-row-items.ensures.rest in
    let none : length a.at.now - length a.at.now ≡ 0 = omega arith in
    rw all (behind_none a.at.now, left_first a.d.block a.chain.now a.a a.n a.main.now _ asked.area asked.bytes, λ map block p. rw (none, add-zero block) refl)

pub returns-then-left-eq0 : goal.returns-then-left-eq0
returns-then-left-eq0 c =
    let l = c.loop-row in
    let none = c.if-left-eq0.true in
    record {
      rest = left_end _ _ _ _ _ _ _ _ l.invariant.1 none;
      read = λ map block p. sym (scattered_none _ l.main) ∙ rw none at (l.invariant.2 map block p);
    }

pub overflow_mul-row : goal.overflow_mul-row
overflow_mul-row c =
    let a = c.args in
    let asked = c.requires in
    let cut = c.in-Some.ensures.steps in
    let all : ComputesOnPairs _ follows (tt {0}) = always_returns_same _ _ _ (λ p r f k. (k.met, refl)) in
    let row = row_chunked a.at.now _ _ _ c.loop-row.invariant.0 all cut a.d a.store.now asked.device (omega arith) asked.stored in
    omega (arith, row_within _ _ _ row a.d a.store.now asked.stored)

pub read_row-requires : goal.read_row-requires
read_row-requires c =
    let a = c.args in
    let asked = c.requires in
    let l = c.loop-row in
    let k = c.min-k in
    let cut = c.in-Some.ensures.steps in
    let all : ComputesOnPairs _ follows (tt {0}) = always_returns_same _ _ _ (λ p r f k. (k.met, refl)) in
    let row = row_chunked a.at.now _ _ _ l.invariant.0 all cut a.d a.store.now asked.device (omega arith) asked.stored in
    record { stored = row_within _ _ _ row a.d a.store.now asked.stored; bytes = omega (arith, k.ensures); area = left_here _ _ _ _ _ _ _ _ l.invariant.1 _ _ k.ensures }

pub skip-into-requires : goal.skip-into-requires
skip-into-requires c =
    let there = c.loop-row.invariant.1.there in
    (there.ccws, omega (arith, c.min-k.ensures, there.left), omega (arith, there.inside.0))

pub loop-row-preserved : goal.loop-row-preserved
loop-row-preserved c =
    let a = c.args in
    let asked = c.requires in
    let l = c.loop-row in
    let k = c.min-k in
    let rest = c.skip-into in
    let cut = c.in-Some.ensures.steps in
    let all : ComputesOnPairs _ follows (tt {0}) = always_returns_same _ _ _ (λ p r f k. (k.met, refl)) in
    let row = row_chunked a.at.now _ _ _ l.invariant.0 all cut a.d a.store.now asked.device (omega arith) asked.stored in
    let long = cut_length a.at.now _ _ _ l.invariant.0 cut.0 cut.1 in
    let few = l.invariant.0.few in (
      behind_next a.at.now _ _ _ l.invariant.0 cut.0 cut.1,
      left_next _ _ _ _ _ _ _ _ l.invariant.1 _ _ (length c.in-Some.row.now) _ _ k.ensures rest.ensures long (omega arith),
      λ map block p.
          let bytes = row_read _ _ _ row a.d map a.store.now block p in
          let read = ap (λ (bytes : List ℕ). scattered (area_of a.chain.now l.into) l.main (take k.result bytes)) bytes in
          read_turn a.d map a.store.now a.chain.now l.into rest.result l.main _ l.left k.result _ (length c.in-Some.row.now) _ _ _
          rest.ensures k.ensures l.invariant.1.there long (omega (arith, long, few)) (c.read_row.ensures ∙ read) (omega (arith, p.stored, few))
          ∙ l.invariant.2 map block p,
    )

pub returns : goal.returns
returns c =
    let l = c.loop-row in
    let over = c.in-None.ensures.steps.0 in
    let none : l.left ≡ 0 = omega (arith, rw (over, zero-mul) at l.invariant.1.bytes) in
    record {
      rest = left_end _ _ _ _ _ _ _ _ l.invariant.1 none;
      read = λ map block p. sym (scattered_none _ l.main) ∙ rw none at (l.invariant.2 map block p);
    }
