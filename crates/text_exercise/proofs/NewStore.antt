-- Laws of a device whose block i is filled with byte i. No contract cites this file.
use Prim.Native.Nat.{ℕ, zero, suc, ◌+◌, ◌-◌, ◌*◌, ◌/◌, ◌≤◌, ◌<◌}
use native.Mathlib.Numerals.{add-one}
use native.Mathlib.Decide.{dec_le}
use native.Mathlib.Omega.{arith}
use mathlib.Core.Path.{◌≡◌, refl, sym, ap, ◌∙◌}
use mathlib.Core.List.{List, ◌++◌}
use borrow.Rule.Slice.PartMut.{mid_of, put_mid, mid_len}
use lib.ListN.{length, get_or, take, replicate, length-append, length-replicate, get_or-append}
use lib.Seq.{take_all, get_or-append-add}
use Rattle.std.proofs.lemmas.Slice.{take-put_mid}
use Rattle.text_exercise.specs.Exercise.{device, new_store}

pub new_store_length : (n : ℕ) → length (new_store n) ≡ n * device.block
unfolding new_store
new_store_length zero = refl
new_store_length (suc n) = rw (length-append, length-replicate, new_store_length n) (omega arith)

in_block : (n b i : ℕ) → i < n → get_or (replicate n b) i 0 ≡ b
in_block zero b i h = absurd (omega arith)
in_block (suc n) b zero h = refl
in_block (suc n) b (suc i) h = in_block n b i (omega arith)

-- byte i is that of its block
pub new_store_at : (n i : ℕ) → i < n * device.block → get_or (new_store n) i 0 ≡ i / device.block
unfolding new_store
new_store_at zero i h = absurd (omega arith)
new_store_at (suc n) i h = elim (dec_le (n * device.block) i) [
  | yes l ↦
      let j : ℕ = i - n * device.block in
      let e : i ≡ length (new_store n) + j = rw new_store_length (omega (arith, l)) in
      let f : i / device.block ≡ n = omega (arith, l) in
      ap (λ (k : ℕ). get_or (new_store n ++ replicate device.block n) k 0) e ∙ get_or-append-add (new_store n) (replicate device.block n) j 0 ∙ in_block device.block n j (omega (arith, l)) ∙ sym f
  | no l ↦ get_or-append (new_store n) (replicate device.block n) 0 i (rw new_store_length (omega (arith, l))) ∙ new_store_at n i (omega (arith, l))
]

pub new_store_none : (store : List ℕ) → take 0 store ≡ new_store 0
unfolding new_store
new_store_none store = refl

-- one more block is filled
pub new_store_more : (store block : List ℕ) (i : ℕ) → take (i * device.block) store ≡ new_store i → block ≡ replicate (length (mid_of (i * device.block) (i * device.block + device.block - i * device.block) store)) i
    → i * device.block + device.block ≤ length store
    → take ((i + 1) * device.block) (put_mid (i * device.block) (i * device.block + device.block - i * device.block) store block) ≡ new_store (i + 1)
unfolding new_store
new_store_more store block i e f h =
    let at : ℕ = i * device.block in
    let room : length (mid_of at (at + device.block - at) store) ≡ device.block = mid_len at (at + device.block) store h ∙ omega arith in
    let filled : block ≡ replicate device.block i = f ∙ ap (λ (n : ℕ). replicate n i) room in
    let long : length block ≡ device.block = rw filled (length-replicate device.block i) in
    take-put_mid at (at + device.block - at) store block ((i + 1) * device.block) (omega arith) (omega arith) ∙ rw (e, filled, add-one)

pub new_store_whole : (store : List ℕ) (n : ℕ) → take (n * device.block) store ≡ new_store n → length store ≡ n * device.block → store ≡ new_store n
new_store_whole store n e h = sym (take_all (n * device.block) store (omega arith)) ∙ e
