-- `bring_home` meets its contract: what is copied, and then cleared, is the place where the map says that the block lies. Assumes nothing.
use Prim.Native.Nat.{ℕ, ◌+◌, ◌*◌, ◌≤◌, ◌<◌}
use mathlib.Core.Path.{◌≡◌, ◌∙◌}
use mathlib.Core.List.{List}
use lib.ListN.{length}
use native.Mathlib.Omega.{arith}
use Rattle.slices.specs.Parts.{zeros}
use Rattle.slices.proofs.Laws.{put_lent_cleared}
use Rattle.model.specs.declared.device.Device.{Device}
use Rattle.model.specs.Alternates.{alternate_of}
use Rattle.model.specs.Lent.{block_count, block_start, block_at}
use Rattle.model.specs.GiveBack.{brought_home}
use Rattle.model.specs.Safe.{Mounted}
use Rattle.model.proofs.Alternates.{lies_mapped}
use Rattle.model.proofs.Blocks.{mounted_alternates, mounted_primaries, place_within, start_within}
use Rattle.alternates.proofs.Found.{found_at}
use Rattle.blocks.proofs.bring_home.Goals as goal

module _ (dev : Device) (map store : List ℕ) (block : ℕ) (m : Mounted dev store map) (there : block < block_count dev store) where
  -- where the block lies
  lying : (count alternate : ℕ) → alternate_of map dev.alternates block < dev.alternates → count ≡ block_count dev store → alternate ≡ alternate_of map dev.alternates block
      → (count + alternate) * dev.block ≡ block_start dev map store block
  unfolding block_start
  lying count alternate mapped e f = rw (lies_mapped _ _ _ _ mapped, e, f)

  -- it lies in the store
  within : (count alternate : ℕ) → alternate_of map dev.alternates block < dev.alternates → count ≡ block_count dev store → alternate ≡ alternate_of map dev.alternates block
      → (count + alternate) * dev.block + dev.block ≤ length store
  within count alternate mapped e f = rw (lying count alternate mapped e f) (start_within dev map store block there)

  -- and so does its own place
  own : block * dev.block + dev.block ≤ length store
  own = omega (arith, place_within dev store block 1 (omega (arith, there)) (omega (arith, there)))

pub alternate_of-requires : goal.alternate_of-requires
alternate_of-requires c =
    let asked = c.requires in
    (asked.0.whole_map, asked.0.few_alternates, omega (arith, asked.1, mounted_primaries _ _ _ asked.0))

pub block_count-requires : goal.block_count-requires
block_count-requires c = (c.requires.0.device, mounted_alternates _ _ _ c.requires.0)

pub overflow_add-start : goal.overflow_add-start
overflow_add-start c =
    let asked = c.requires in
    omega (arith, c.block_count.ensures, mounted_primaries _ _ _ asked.0, (found_at _ _ _ _ c.alternate_of.ensures c.unwrap-alternate.ensures), asked.2, asked.0.few_alternates)

pub overflow_mul-start : goal.overflow_mul-start
overflow_mul-start c = omega (arith, within _ _ _ _ c.requires.0 c.requires.1 _ _ c.requires.2 c.block_count.ensures (found_at _ _ _ _ c.alternate_of.ensures c.unwrap-alternate.ensures))

pub overflow_add-end : goal.overflow_add-end
overflow_add-end c = omega (arith, within _ _ _ _ c.requires.0 c.requires.1 _ _ c.requires.2 c.block_count.ensures (found_at _ _ _ _ c.alternate_of.ensures c.unwrap-alternate.ensures))

pub overflow_mul-block : goal.overflow_mul-block
overflow_mul-block c = omega (arith, own _ _ _ _ c.requires.0 c.requires.1)

pub copy_within-requires : goal.copy_within-requires
copy_within-requires c = (
  within _ _ _ _ c.requires.0 c.requires.1 _ _ c.requires.2 c.block_count.ensures (found_at _ _ _ _ c.alternate_of.ensures c.unwrap-alternate.ensures),
  own _ _ _ _ c.requires.0 c.requires.1,
  omega (arith, c.requires.0.device.small_size),
)

pub slice_bounds-fill-end : goal.slice_bounds-fill-end
slice_bounds-fill-end c = omega (arith, within _ _ _ _ c.requires.0 c.requires.1 _ _ c.requires.2 c.block_count.ensures (found_at _ _ _ _ c.alternate_of.ensures c.unwrap-alternate.ensures))

pub returns : goal.returns
unfolding brought_home block_at zeros
returns c =
    let a = c.args in
    let size = a.d.block in
    let start = (c.block_count.result + c.unwrap-alternate.result) * size in
    let there = lying a.d a.map.now a.store.now a.block c.requires.0 c.requires.1 _ _ c.requires.2 c.block_count.ensures (found_at _ _ _ _ c.alternate_of.ensures c.unwrap-alternate.ensures) in
    let inside = within a.d a.map.now a.store.now a.block c.requires.0 c.requires.1 _ _ c.requires.2 c.block_count.ensures (found_at _ _ _ _ c.alternate_of.ensures c.unwrap-alternate.ensures) in
    put_lent_cleared _ _ start size (c.fill.ensures.after (λ y e. e)) (omega (arith, inside, c.copy_within.auto.l)) ∙ rw (c.copy_within.ensures, there)
