-- Of blocks that n bytes can move between, those that the bytes reach are enough. No contract cites this file.
--     reached_few       they are no more than there are
--     reached_movable   the bytes can move between them
--     reached_read      and READ sees the same bytes there
use Prim.Native.Nat.{ℕ, ◌+◌, ◌-◌, ◌*◌, ◌≤◌, ◌<◌}
use mathlib.Core.Path.{◌≡◌, sym, ap, ◌∙◌}
use mathlib.Core.List.{List, ◌++◌}
use lib.ListN.{length, take}
use lib.Seq.{take-append-le}
use native.Mathlib.Nat.{mul-le-mul_right}
use native.Mathlib.Decide.{dec_le}
use native.Mathlib.Omega.{arith}
use Rattle.std.specs.Int.{div_ceil}
use Rattle.std.proofs.lemmas.Grind.{div_ceil_times}
use Rattle.model.specs.declared.decoded.Area.{Area}
use Rattle.model.specs.declared.device.Device.{Device}
use Rattle.model.specs.Lent.{blocks_from}
use Rattle.model.specs.Pieces.{scattered}
use Rattle.model.specs.Decoded.{area_of}
use Rattle.model.proofs.Blocks.{blocks_from_more, blocks_from_length}
use Rattle.blocks.specs.Places.{Movable}

pub reached_few : (size n blocks : ℕ) → 0 < size → n ≤ blocks * size → div_ceil n size ≤ blocks
reached_few size n blocks some h = elim (dec_le (div_ceil n size) blocks) [
  | yes l ↦ l
  | no l ↦
      let more : (blocks + 1) * size ≤ div_ceil n size * size = mul-le-mul_right size (omega (arith, l)) in
      absurd (omega (arith, more, (div_ceil_times n size some).1, h))
]

module _ (dev : Device) (store map : List ℕ) (block blocks : ℕ) (chain : List ℕ) (a : Area) (main : List ℕ) (n : ℕ) (m : Movable dev store map block blocks chain a main n) where
  abbrev reached : ℕ
  reached = div_ceil n dev.block

  few : reached ≤ blocks
  few = reached_few dev.block n blocks (omega (arith, m.mounted.device.some_size)) m.bytes

  pub reached_movable : Movable dev store map block reached chain a main n
  reached_movable = record {
    mounted = m.mounted;
    stored = omega (arith, few, m.stored);
    bytes = (div_ceil_times n dev.block (omega (arith, m.mounted.device.some_size))).0;
    area = m.area;
  }

  pub reached_read : scattered (area_of chain a) main (take n (blocks_from dev map store block reached)) ≡ scattered (area_of chain a) main (take n (blocks_from dev map store block blocks))
  reached_read =
      let front = blocks_from dev map store block reached in
      let behind = blocks_from dev map store (block + reached) (blocks - reached) in
      let long : length front ≡ reached * dev.block = blocks_from_length dev map store block reached reached_movable.stored in
      let split : blocks ≡ reached + (blocks - reached) = omega (arith, few) in
      let all : blocks_from dev map store block blocks ≡ front ++ behind = ap (blocks_from dev map store block) split ∙ blocks_from_more dev map store block reached (blocks - reached) in
      let enough : n ≤ length front = omega (arith, long, reached_movable.bytes) in
      ap (λ (l : List ℕ). scattered (area_of chain a) main l) (sym (ap (take n) all ∙ take-append-le n front behind enough))
