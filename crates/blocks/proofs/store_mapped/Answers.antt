-- `store_mapped` meets its contract. Before each window, storing what is left makes the whole. Assumes nothing.
use Prim.Native.Nat.{ℕ, ◌+◌, ◌-◌}
use mathlib.Core.Path.{◌≡◌, refl, sym, ap, ◌∙◌}
use lib.ListN.{take}
use native.Mathlib.Omega.{arith}
use Rattle.model.specs.Lent.{blocks_into}
use Rattle.model.specs.Pieces.{bytes_in}
use Rattle.model.specs.Decoded.{area_of}
use Rattle.model.proofs.Blocks.{count_same, mounted_alternates, mounted_same}
use Rattle.blocks.specs.Places.{Movable}
use Rattle.blocks.proofs.Asked.{room_long, room_movable}
use Rattle.blocks.proofs.Rows.{left_first, left_here, left_next, store_turn}
use Rattle.blocks.proofs.store_mapped.Goals as goal

pub block_count-primaries-requires : goal.block_count-primaries-requires
block_count-primaries-requires c =
    let mounted = c.requires.mounted in
    (mounted.device, mounted_alternates _ _ _ mounted)

pub loop-here-init : goal.loop-here-init
loop-here-init c =
    let a = c.args in
    let asked = c.requires in
    let all : a.block + a.blocks - a.block ≡ a.blocks = omega arith in
    (omega arith, left_first a.d.block a.chain.now a.a a.n a.main.now _ asked.area (rw all asked.bytes), rw all refl)

pub store_placed-from-requires : goal.store_placed-from-requires
store_placed-from-requires c =
    let a = c.args in
    let asked = c.requires in
    let l = c.loop-here in
    let w = c.min-w in
    let k = c.min-k in
    let count = count_same a.d l.store a.store.now l.auto.store in
    let window : Movable a.d l.store a.map.now l.here w.result a.chain.now l.from a.main.now k.result
    = record {
      mounted = mounted_same a.d a.store.now a.map.now asked.mounted l.store (sym l.auto.store);
      stored = rw count (omega (arith, asked.stored, w.ensures, l.invariant.0));
      bytes = omega (arith, k.ensures);
      area = left_here _ _ _ _ _ _ _ _ l.invariant.1 _ _ k.ensures;
    } in
    (room_movable _ _ _ _ _ _ _ _ _ (omega (arith, w.ensures)) window, c.block_count-primaries.ensures ∙ sym count)

pub loop-here-preserved : goal.loop-here-preserved
loop-here-preserved c =
    let a = c.args in
    let l = c.loop-here in
    let w = c.min-w in
    let k = c.min-k in
    let p = c.store_placed-from in
    let long = room_long w.result (omega (arith, w.ensures)) in
    let stored = ap (λ (i : ℕ). blocks_into a.d a.map.now l.store l.here i (take k.result (bytes_in (area_of a.chain.now l.from) a.main.now))) long in (
      omega arith,
      left_next _ _ _ _ _ _ _ _ l.invariant.1 a.main.now _ w.result _ _ k.ensures p.ensures.rest (omega (arith, w.ensures)) refl,
      store_turn a.d a.map.now l.store a.chain.now l.from p.result a.main.now _ l.left k.result l.here w.result (a.block + a.blocks - l.here) _ _
          p.ensures.rest k.ensures l.invariant.1.there (omega (arith, w.ensures)) (omega (arith, w.ensures)) (p.ensures.stored ∙ stored)
          ∙ l.invariant.2,
    )

pub returns : goal.returns
unfolding blocks_into
returns c =
    let a = c.args in
    let l = c.loop-here in
    let none : a.block + a.blocks - l.here ≡ 0 = omega arith in
    rw none at l.invariant.2

-- behind the last window
pub returns-2 : goal.returns-2
unfolding blocks_into
returns-2 c =
    let a = c.args in
    let l = c.loop-here in
    let w = c.min-w in
    let k = c.min-k in
    let p = c.store_placed-from in
    let long = room_long w.result (omega (arith, w.ensures)) in
    let stored = ap (λ (i : ℕ). blocks_into a.d a.map.now l.store l.here i (take k.result (bytes_in (area_of a.chain.now l.from) a.main.now))) long in
    store_turn a.d a.map.now l.store a.chain.now l.from p.result a.main.now _ l.left k.result l.here w.result (a.block + a.blocks - l.here) (l.here + w.result) 0
    p.ensures.rest k.ensures l.invariant.1.there (omega (arith, w.ensures)) refl (p.ensures.stored ∙ stored)
    ∙ l.invariant.2
