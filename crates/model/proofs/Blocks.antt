-- Blocks, by way of the map, as READ sees them and as WRITE stores them.
--     count_same          stores of one length have as many blocks; mounted_same   and hold the same device
--     mounted_alternates, mounted_primaries
--                         a device's alternates are in its store; it has no more primaries than a store may have blocks
--     start_within        a block of the device lies in the store
--     blocks_from_more, blocks_into_more
--                         some blocks, and those behind them
--     Row                 so many blocks from one on lie in a row, from a place on
--     row_from_part, row_into_part
--                         such blocks are one part of the store: what READ sees of it, and what WRITE leaves there
--     blocks_from_same    blocks that are equal one by one are equal one after the other
--     blocks_from_length, blocks_into_length
--                         so many blocks have so many bytes; the store stays as long
--     blocks_into_enough  a WRITE takes as many bytes as its blocks have, and no more
--     place_kept          a WRITE changes no place of the store at which none of its blocks lies
--     block_stored, block_kept
--                         a block that WRITE stores, and one that it does not reach, as READ shows them
-- No contract cites this file. Assumes nothing.
use Prim.Native.Nat.{ℕ, zero, suc, ◌+◌, ◌-◌, ◌*◌, ◌/◌, ◌≤◌, ◌<◌}
use mathlib.Core.Path.{◌≡◌, refl, sym, ap, ◌∙◌}
use mathlib.Core.Logic.{◌⊎◌, inl, inr}
use mathlib.Core.List.{List, ◌++◌, append_assoc}
use lib.ListN.{length, take, drop, length-append, length-take}
use lib.Seq.{drop-drop, take-take}
use native.Mathlib.Nat.{add_assoc, add-zero, zero-add, suc-add, zero-mul, zero-sub, mul-le-mul_right, div-mul-le_self}
use native.Mathlib.Decide.{dec_le}
use native.Mathlib.Omega.{arith}
use Rattle.slices.specs.Parts.{zeros, part, put, pad}
use Rattle.slices.proofs.Laws.{part_apart, part_put, part_more, put_nil, put_more, pad_more, drop_take, length_part, length_put, length_pad}
use Rattle.model.specs.Alternates.{lies}
use Rattle.model.specs.Lent.{store_blocks, block_count, block_start, block_at, blocks_from, blocks_into}
use Rattle.model.specs.Safe.{Mounted}
use Rattle.model.specs.declared.device.Device.{Device}
use Rattle.model.proofs.Alternates.{lies_below, lies_apart}

pub count_same : (dev : Device) (x y : List ℕ) → length x ≡ length y → block_count dev x ≡ block_count dev y
unfolding block_count store_blocks
count_same dev x y e = rw e

module _ (dev : Device) (store map : List ℕ) (mounted : Mounted dev store map) where
  pub mounted_alternates : dev.alternates ≤ store_blocks dev store
  unfolding block_count
  mounted_alternates = omega (arith, mounted.some_block)

  pub mounted_primaries : block_count dev store ≤ 131072
  unfolding block_count
  mounted_primaries = omega (arith, mounted.few_blocks)

  pub mounted_same : (store' : List ℕ) → length store ≡ length store' → Mounted dev store' map
  unfolding block_count store_blocks
  mounted_same store' e = record {
    device = mounted.device;
    some_block = rw (← e) mounted.some_block;
    few_blocks = rw (← e) mounted.few_blocks;
    few_alternates = mounted.few_alternates;
    whole_map = mounted.whole_map;
  }

-- a place below the device's blocks and its alternates lies in the store
pub place_within : (dev : Device) (store : List ℕ) (place n : ℕ) → 0 < block_count dev store → place + n ≤ block_count dev store + dev.alternates → place * dev.block + n * dev.block ≤ length store
unfolding block_count store_blocks
place_within dev store place n some h =
    let all : place + n ≤ length store / dev.block = omega (arith, some, h) in
    omega (arith, mul-le-mul_right dev.block all, div-mul-le_self (length store) dev.block)

abbrev pub place_of_block : Device → List ℕ → List ℕ → ℕ → ℕ
place_of_block dev map store block = lies map dev.alternates (block_count dev store) block

-- so many blocks from one on lie one after the other, from a place on
abbrev pub Row : Device → List ℕ → List ℕ → ℕ → ℕ → ℕ → Type 0
Row dev map store block n place = (j : ℕ) → j < n → place_of_block dev map store (block + j) ≡ place + j

-- what is padded needs no more bytes than it gets
pad_take : (n m : ℕ) (bytes : List ℕ) → n ≤ m → pad n (take m bytes) ≡ pad n bytes
unfolding pad
pad_take n m bytes h =
    let e : n - length (take m bytes) ≡ n - length bytes = rw length-take (omega arith) in
    rw (take-take n m bytes h, e)

-- the bytes of two places have none in common
pub places_apart : (size own place k : ℕ) → k ≡ size → (own ≡ place → ⊥) → (place * size + size ≤ own * size) ⊎ (own * size + k ≤ place * size)
places_apart size own place k e n = elim (dec_le own place) [
  | yes l ↦ let m : own + 1 ≤ place = omega (arith, l, n) in inr (omega (arith, e, mul-le-mul_right size m))
  | no l ↦ let m : place + 1 ≤ own = omega (arith, l) in inl (omega (arith, mul-le-mul_right size m))
]

module _ (dev : Device) (map : List ℕ) where
  pub start_within : (store : List ℕ) (block : ℕ) → block < block_count dev store → block_start dev map store block + dev.block ≤ length store
  unfolding block_start
  start_within store block b =
      let below = lies_below map dev.alternates (block_count dev store) block b in
      omega (arith, place_within dev store (place_of_block dev map store block) 1 (omega (arith, b)) (omega (arith, below)))

  start_same : (x y : List ℕ) (block : ℕ) → length x ≡ length y → block_start dev map x block ≡ block_start dev map y block
  unfolding block_start
  start_same x y block e = rw (count_same dev x y e)

  -- one block stored
  put_long : (store : List ℕ) (block : ℕ) (bytes : List ℕ) → block < block_count dev store → length (put store (block_start dev map store block) (pad dev.block bytes)) ≡ length store
  put_long store block bytes b = length_put store _ (pad dev.block bytes) (rw length_pad (start_within store block b))

  -- it shows at its place, and at no other
  put_block : (store : List ℕ) (block : ℕ) (bytes : List ℕ) → block < block_count dev store
      → block_at dev map (put store (block_start dev map store block) (pad dev.block bytes)) block ≡ pad dev.block bytes
  unfolding block_at
  put_block store block bytes b =
      let e = put_long store block bytes b in
      let room : block_start dev map store block + length (pad dev.block bytes) ≤ length store = rw length_pad (start_within store block b) in
      rw (start_same (put store (block_start dev map store block) (pad dev.block bytes)) store block e) (ap (part (put store (block_start dev map store block) (pad dev.block bytes)) (block_start dev map store block)) (sym (length_pad dev.block bytes)) ∙ part_put store _ (pad dev.block bytes) room)

  put_kept : (store : List ℕ) (block : ℕ) (bytes : List ℕ) (place : ℕ) → block < block_count dev store → (place_of_block dev map store block ≡ place → ⊥)
      → part (put store (block_start dev map store block) (pad dev.block bytes)) (place * dev.block) dev.block ≡ part store (place * dev.block) dev.block
  unfolding block_start
  put_kept store block bytes place b n =
      part_apart store _ (pad dev.block bytes) (place * dev.block) dev.block (rw length_pad (start_within store block b)) (places_apart dev.block _ place _ (length_pad dev.block bytes) n)

  pub blocks_from_more : (store : List ℕ) (block m n : ℕ) → blocks_from dev map store block (m + n) ≡ blocks_from dev map store block m ++ blocks_from dev map store (block + m) n
  unfolding blocks_from
  blocks_from_more store block zero n = rw (add-zero block, zero-add n) refl
  blocks_from_more store block (suc m) n =
      let e : block + 1 + m ≡ block + suc m = omega arith in
      rw (suc-add m n, append_assoc, ← e) (ap (λ (l : List ℕ). block_at dev map store block ++ l) (blocks_from_more store (block + 1) m n))

  pub blocks_into_more : (store : List ℕ) (block m n : ℕ) (bytes : List ℕ)
      → blocks_into dev map store block (m + n) bytes ≡ blocks_into dev map (blocks_into dev map store block m bytes) (block + m) n (drop (m * dev.block) bytes)
  unfolding blocks_into
  blocks_into_more store block zero n bytes = rw (add-zero block, zero-mul, zero-add n) refl
  blocks_into_more store block (suc m) n bytes =
      let e : block + 1 + m ≡ block + suc m = omega arith in
      let f : suc m * dev.block ≡ dev.block + m * dev.block = omega arith in
      rw (suc-add m n, f, ← e, ← (drop-drop (m * dev.block) dev.block bytes)) (blocks_into_more (put store (block_start dev map store block) (pad dev.block bytes)) (block + 1) m n (drop dev.block bytes))

  pub blocks_from_length : (store : List ℕ) (block n : ℕ) → block + n ≤ block_count dev store → length (blocks_from dev map store block n) ≡ n * dev.block
  unfolding blocks_from block_at
  blocks_from_length store block zero h = rw zero-mul
  blocks_from_length store block (suc n) h =
      let first = length_part store (block_start dev map store block) dev.block (start_within store block (omega arith)) in
      rw (length-append, first, blocks_from_length store (block + 1) n (omega arith)) (omega arith)

  pub blocks_into_enough : (store : List ℕ) (block n : ℕ) (bytes : List ℕ) → blocks_into dev map store block n (take (n * dev.block) bytes) ≡ blocks_into dev map store block n bytes
  unfolding blocks_into
  blocks_into_enough store block zero bytes = refl
  blocks_into_enough store block (suc n) bytes =
      let f : suc n * dev.block ≡ dev.block + n * dev.block = omega arith in
      let less : dev.block + n * dev.block - dev.block ≡ n * dev.block = omega arith in
      rw (f, pad_take dev.block (dev.block + n * dev.block) bytes (omega arith), drop_take dev.block (dev.block + n * dev.block) bytes, less)
      (blocks_into_enough (put store (block_start dev map store block) (pad dev.block bytes)) (block + 1) n (drop dev.block bytes))

  -- a row

  row_next : (store : List ℕ) (block n place : ℕ) → Row dev map store block (suc n) place → Row dev map store (block + 1) n (place + 1)
  row_next store block n place r j b =
      let e : block + 1 + j ≡ block + (1 + j) = omega arith in
      rw e (r (1 + j) (omega arith) ∙ omega arith)

  pub row_same : (x y : List ℕ) (block n place : ℕ) → length x ≡ length y → Row dev map x block n place → Row dev map y block n place
  row_same x y block n place e r j b = rw (← (count_same dev x y e)) (r j b)

  row_start : (store : List ℕ) (block n place : ℕ) → Row dev map store block (suc n) place → block_start dev map store block ≡ place * dev.block
  unfolding block_start
  row_start store block n place r =
      let e : place_of_block dev map store block ≡ place = rw (add-zero block, add-zero place) at (r 0 (omega arith)) in
      rw e

  pub row_from_part : (store : List ℕ) (block n place : ℕ) → Row dev map store block n place → blocks_from dev map store block n ≡ part store (place * dev.block) (n * dev.block)
  unfolding blocks_from block_at part
  row_from_part store block zero place r = rw zero-mul refl
  row_from_part store block (suc n) place r =
      let e : (place + 1) * dev.block ≡ place * dev.block + dev.block = omega arith in
      let f : suc n * dev.block ≡ dev.block + n * dev.block = omega arith in
      rw (f, part_more, row_from_part store (block + 1) n (place + 1) (row_next store block n place r), e, row_start store block n place r)

  pub row_into_part : (store : List ℕ) (block n place : ℕ) (bytes : List ℕ) → Row dev map store block n place → place * dev.block + n * dev.block ≤ length store
      → blocks_into dev map store block n bytes ≡ put store (place * dev.block) (pad (n * dev.block) bytes)
  unfolding blocks_into pad zeros
  row_into_part store block zero place bytes r h = rw (zero-mul, zero-sub, put_nil) refl
  row_into_part store block (suc n) place bytes r h =
      let at : ℕ = place * dev.block in
      let first : List ℕ = pad dev.block bytes in
      let room : at + length first ≤ length store = rw length_pad (omega (arith, h)) in
      let l : length (put store at first) ≡ length store = length_put store at first room in
      let e : (place + 1) * dev.block ≡ at + length first = rw length_pad (omega arith) in
      let f : suc n * dev.block ≡ dev.block + n * dev.block = omega arith in
      let next : Row dev map (put store at first) (block + 1) n (place + 1) = row_same store _ (block + 1) n (place + 1) (sym l) (row_next store block n place r) in
      rw (row_start store block n place r)
      (row_into_part (put store at first) (block + 1) n (place + 1) (drop dev.block bytes) next (rw l (omega (arith, h)))
      ∙ rw (f, pad_more, e) (put_more store at first _ (omega (arith, room))))

  -- what a WRITE changes

  pub blocks_into_length : (store : List ℕ) (block n : ℕ) (bytes : List ℕ) → block + n ≤ block_count dev store → length (blocks_into dev map store block n bytes) ≡ length store
  unfolding blocks_into
  blocks_into_length store block zero bytes h = refl
  blocks_into_length store block (suc n) bytes h =
      let e = put_long store block bytes (omega arith) in
      let c = count_same dev (put store (block_start dev map store block) (pad dev.block bytes)) store e in
      blocks_into_length (put store (block_start dev map store block) (pad dev.block bytes)) (block + 1) n (drop dev.block bytes) (rw c (omega arith)) ∙ e

  pub place_kept : (store : List ℕ) (block n : ℕ) (bytes : List ℕ) (place : ℕ) → block + n ≤ block_count dev store → ((j : ℕ) → j < n → place_of_block dev map store (block + j) ≡ place → ⊥)
      → part (blocks_into dev map store block n bytes) (place * dev.block) dev.block ≡ part store (place * dev.block) dev.block
  unfolding blocks_into
  place_kept store block zero bytes place h off = refl
  place_kept store block (suc n) bytes place h off =
      let e = put_long store block bytes (omega arith) in
      let c = count_same dev (put store (block_start dev map store block) (pad dev.block bytes)) store e in
      let off' : (j : ℕ) → j < n → place_of_block dev map (put store (block_start dev map store block) (pad dev.block bytes)) (block + 1 + j) ≡ place → ⊥
      = λ j b z. let g : block + 1 + j ≡ block + (1 + j) = omega arith in off (1 + j) (omega arith) (rw (g, c) at z) in
      let first : place_of_block dev map store block ≡ place → ⊥ = λ z. off 0 (omega arith) (rw (add-zero block) z) in
      place_kept (put store (block_start dev map store block) (pad dev.block bytes)) (block + 1) n (drop dev.block bytes) place (rw c (omega arith)) off' ∙ put_kept store block bytes place (omega arith) first

  pub block_kept : (store : List ℕ) (block n : ℕ) (bytes : List ℕ) (other : ℕ) → block + n ≤ block_count dev store → other < block_count dev store → (other < block) ⊎ (block + n ≤ other)
      → block_at dev map (blocks_into dev map store block n bytes) other ≡ block_at dev map store other
  unfolding block_at block_start
  block_kept store block n bytes other h b d =
      rw (count_same dev (blocks_into dev map store block n bytes) store (blocks_into_length store block n bytes h))
      (place_kept store block n bytes (place_of_block dev map store other) h (λ j k z. lies_apart map dev.alternates (block_count dev store) (block + j) other (omega arith) b (λ e. other_block j k e d) z))
    where
      other_block : (j : ℕ) → j < n → block + j ≡ other → (other < block) ⊎ (block + n ≤ other) → ⊥
      other_block j k e (inl l) = omega (arith, e, l)
      other_block j k e (inr g) = omega (arith, e, g, k)

  -- block i of those that WRITE stores has its part of the bytes, and zeros after them
  pub block_stored : (store : List ℕ) (block n : ℕ) (bytes : List ℕ) (i : ℕ) → block + n ≤ block_count dev store → i < n
      → block_at dev map (blocks_into dev map store block n bytes) (block + i) ≡ pad dev.block (drop (i * dev.block) bytes)
  unfolding blocks_into
  block_stored store block zero bytes i h k = absurd (omega arith)
  block_stored store block (suc n) bytes zero h k =
      let e = put_long store block bytes (omega arith) in
      let c = count_same dev (put store (block_start dev map store block) (pad dev.block bytes)) store e in
      rw (add-zero block, zero-mul)
      (block_kept _ (block + 1) n (drop dev.block bytes) block (rw c (omega arith)) (rw c (omega arith)) (inl (omega arith)) ∙ put_block store block bytes (omega arith))
  block_stored store block (suc n) bytes (suc i) h k =
      let c = count_same dev (put store (block_start dev map store block) (pad dev.block bytes)) store (put_long store block bytes (omega arith)) in
      let f : suc i * dev.block ≡ dev.block + i * dev.block = omega arith in
      let g : block + suc i ≡ block + 1 + i = omega arith in
      rw (f, g, ← (drop-drop (i * dev.block) dev.block bytes)) (block_stored (put store (block_start dev map store block) (pad dev.block bytes)) (block + 1) n (drop dev.block bytes) i (rw c (omega arith)) (omega arith))

-- blocks of two devices, each with its map
pub blocks_from_same : (dev : Device) (map map' store store' : List ℕ) (block block' n : ℕ) → ((i : ℕ) → i < n → block_at dev map store (block + i) ≡ block_at dev map' store' (block' + i))
    → blocks_from dev map store block n ≡ blocks_from dev map' store' block' n
unfolding blocks_from
blocks_from_same dev map map' store store' block block' zero h = refl
blocks_from_same dev map map' store store' block block' (suc n) h =
    let first : block_at dev map store block ≡ block_at dev map' store' block' = rw (add-zero block, add-zero block') at (h 0 (omega arith)) in
    let rest = blocks_from_same dev map map' store store' (block + 1) (block' + 1) n (λ i b. rw (add_assoc, add_assoc) (h (1 + i) (omega arith))) in
    rw (first, rest)
