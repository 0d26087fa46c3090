-- `read_windows` meets its contract. Before each window, reading what is left makes the whole. Assumes nothing.
use Prim.Native.Nat.{ℕ, ◌+◌, ◌-◌}
use mathlib.Core.Path.{◌≡◌, refl, sym, ap, ◌∙◌}
use lib.ListN.{take}
use lib.Seq.{take-nil}
use native.Mathlib.Nat.{zero-mul}
use native.Mathlib.Omega.{arith}
use Rattle.model.specs.Lent.{blocks_from}
use Rattle.model.specs.Pieces.{scattered}
use Rattle.model.specs.Decoded.{area_of}
use Rattle.model.proofs.Blocks.{mounted_alternates}
use Rattle.storage.proofs.Laws.{scattered_none}
use Rattle.blocks.specs.Places.{Movable}
use Rattle.blocks.proofs.Asked.{room_long, room_movable}
use Rattle.blocks.proofs.Rows.{left_first, left_here, left_next, read_turn}
use Rattle.blocks.proofs.read_windows.Goals as goal

pub block_count-primaries-requires : goal.block_count-primaries-requires
block_count-primaries-requires c =
    let mounted = c.requires.mounted in
    (mounted.device, mounted_alternates _ _ _ mounted)

pub loop-here-init : goal.loop-here-init
loop-here-init c =
    let a = c.args in
    let asked = c.requires in
    let all : a.block + a.blocks - a.block ≡ a.blocks = omega arith in
    (omega arith, left_first a.d.block a.chain.now a.a a.n a.main.now _ asked.area (rw all asked.bytes), rw all refl)

pub returns-then-left-eq0 : goal.returns-then-left-eq0
returns-then-left-eq0 c =
    let l = c.loop-here in
    sym (scattered_none _ l.main) ∙ rw c.if-left-eq0.true at l.invariant.2

pub read_placed-into-requires : goal.read_placed-into-requires
read_placed-into-requires c =
    let a = c.args in
    let asked = c.requires in
    let l = c.loop-here in
    let w = c.min-w in
    let k = c.min-k in
    let window : Movable a.d a.store.now a.map.now l.here w.result a.chain.now l.into l.main k.result
    = record {
      mounted = asked.mounted;
      stored = omega (arith, asked.stored, w.ensures, l.invariant.0);
      bytes = omega (arith, k.ensures);
      area = left_here _ _ _ _ _ _ _ _ l.invariant.1 _ _ k.ensures;
    } in
    (room_movable _ _ _ _ _ _ _ _ _ (omega (arith, w.ensures)) window, c.block_count-primaries.ensures)

pub loop-here-preserved : goal.loop-here-preserved
loop-here-preserved c =
    let a = c.args in
    let l = c.loop-here in
    let w = c.min-w in
    let k = c.min-k in
    let p = c.read_placed-into in
    let long = room_long w.result (omega (arith, w.ensures)) in
    let read = ap (λ (i : ℕ). scattered (area_of a.chain.now l.into) l.main (take k.result (blocks_from a.d a.map.now a.store.now l.here i))) long in (
      omega arith,
      left_next _ _ _ _ _ _ _ _ l.invariant.1 _ _ w.result _ _ k.ensures p.ensures.rest (omega (arith, w.ensures)) (omega arith),
      read_turn a.d a.map.now a.store.now a.chain.now l.into p.result l.main _ l.left k.result l.here w.result (a.block + a.blocks - l.here) _ _
          p.ensures.rest k.ensures l.invariant.1.there (omega (arith, w.ensures)) (omega (arith, w.ensures)) (p.ensures.read ∙ read) (omega (arith, c.requires.stored, l.invariant.0))
          ∙ l.invariant.2,
    )

pub returns : goal.returns
returns c =
    let l = c.loop-here in
    let over : c.args.block + c.args.blocks - l.here ≡ 0 = omega arith in
    let none : l.left ≡ 0 = omega (arith, rw (over, zero-mul) at l.invariant.1.bytes) in
    sym (scattered_none _ l.main) ∙ rw none at l.invariant.2

-- behind the last window
pub returns-else-left-eq0 : goal.returns-else-left-eq0
unfolding blocks_from
returns-else-left-eq0 c =
    let a = c.args in
    let l = c.loop-here in
    let w = c.min-w in
    let k = c.min-k in
    let p = c.read_placed-into in
    let long = room_long w.result (omega (arith, w.ensures)) in
    let read = ap (λ (i : ℕ). scattered (area_of a.chain.now l.into) l.main (take k.result (blocks_from a.d a.map.now a.store.now l.here i))) long in
    let whole =
    read_turn a.d a.map.now a.store.now a.chain.now l.into p.result l.main _ l.left k.result l.here w.result (a.block + a.blocks - l.here) (l.here + w.result) 0
    p.ensures.rest k.ensures l.invariant.1.there (omega (arith, w.ensures)) refl (p.ensures.read ∙ read) (omega (arith, c.requires.stored, l.invariant.0)) in
    sym (scattered_none _ _) ∙ (rw take-nil at whole) ∙ l.invariant.2
