-- Blocks in a row, and one row more, or one window more, of the blocks of a READ and of a WRITE. No contract cites this file.
--     blocks_few         a store has no more blocks than bytes
--     place_of           where a block lies, of those whose places are listed
--     RowAt, row_cut, row_chunked
--                        a row of places, which is cut off what is left of them
--     Behind, behind_none, behind_next
--                        what is left of them, before the first row and behind a row
--     row_within         a row lies in the store
--     row_read, row_stored
--                        it is one part of the store: what READ sees of its blocks, and what WRITE leaves there
--     unmapped_row       where no alternate is in use, all blocks are one row
--     Left               what is left to move: bytes of the area, and blocks for them
--     left_first, left_some, left_here, left_next, left_end
--                        before the first blocks, where there are more, at some of them, behind these, and behind the last
--     read_turn, store_turn
--                        some blocks, a row or a window, and those behind them: what was moved and what is left make the whole
use Prim.Native.Nat.{ℕ, zero, suc, ◌+◌, ◌-◌, ◌*◌, ◌/◌, ◌≤◌, ◌<◌, min}
use mathlib.Core.Path.{◌≡◌, refl, sym, ap, ◌∙◌}
use mathlib.Core.Logic.{◌⊎◌, inl, inr, ⊎_elim}
use mathlib.Core.Bool.{Bool, true, false, ◌||◌}
use mathlib.Core.List.{List, ◌++◌, append-nil}
use lib.ListN.{length, get_or, take, drop, length-take, length-append, get_or-append}
use lib.Seq.{drop-drop, drop-append_seam, take-take, take_all, take-length, length-take-le, take-append-le, take-append-add}
use native.Mathlib.Nat.{add-zero, zero-mul, mul-le-mul_left, mul-le-mul_right, div-mul-le_self}
use native.Mathlib.Decide.{dec_le}
use native.Mathlib.Omega.{arith}
use Rattle.std.proofs.lemmas.List.{get_or-drop}
use borrow.Author.Tests.{eqb-true}
use Rattle.numbers.specs.Choice.{◌=?◌}
use Rattle.slices.specs.Parts.{part, put, pad}
use Rattle.slices.proofs.Laws.{drop_take}
use Rattle.model.specs.declared.decoded.Area.{Area}
use Rattle.model.specs.declared.device.Device.{Device}
use Rattle.model.specs.Alternates.{lies}
use Rattle.model.specs.Lent.{store_blocks, block_count, blocks_from, blocks_into}
use Rattle.model.specs.Pieces.{bytes_in, scattered}
use Rattle.model.specs.Decoded.{area_of}
use Rattle.model.specs.Safe.{Usable, InArea}
use Rattle.model.proofs.Alternates.{lies_unmapped}
use Rattle.model.proofs.Blocks.{Row, row_same, row_from_part, row_into_part, blocks_from_more, blocks_from_length, blocks_into_more, blocks_into_enough}
use Rattle.storage.specs.Area.{Rest}
use Rattle.storage.proofs.Beyond.{rest_none, rest_more, rest_area, gathered_rest, scattered_more}
use Rattle.alternates.specs.Used.{none_used}
use Rattle.alternates.proofs.NoneUsed.{none_lies}
use Rattle.alternates.proofs.Placing.{get_places}
use denote.Param.Members.{Mut}
use denote.Ref.{Bor}
use Rattle.std.specs.Fn.{ComputesOnPairs}
use Rattle.std.specs.List.{AllAdjacentBelow, IsChunkByPrefix}
use Rattle.blocks.specs.Places.{PlacesOf, follows, no_alternate}

-- rows

-- a store has no more blocks than bytes
pub blocks_few : (dev : Device) (store : List ℕ) → 1 ≤ dev.block → store_blocks dev store ≤ length store
unfolding store_blocks
blocks_few dev store h = omega (arith, mul-le-mul_left (length store / dev.block) h, div-mul-le_self (length store) dev.block)

-- what a list of places tells
pub place_of : (dev : Device) (map store : List ℕ) (block : ℕ) (at : List ℕ) (j : ℕ) → PlacesOf dev map store block at → j < length at
    → get_or at j 0 ≡ lies map dev.alternates (block_count dev store) (block + j)
place_of dev map store block at j p b = ap (λ (l : List ℕ). get_or l j 0) p.places ∙ get_places map dev.alternates (block_count dev store) block (length at) j b

-- the row at the front of what is left of the places, from the one at j on
pub record RowAt (at : List ℕ) (j : ℕ) (row : List ℕ) : Type 0 where
  pub some : 1 ≤ length row
  pub inside : j + length row ≤ length at
  pub places : (i : ℕ) → i < length row → get_or at (j + i) 0 ≡ get_or row 0 0 + i

-- what is left of the places, behind the rows before
pub record Behind (at rest : List ℕ) : Type 0 where
  pub few : length rest ≤ length at
  pub is : rest ≡ drop (length at - length rest) at

pub behind_none : (at : List ℕ) → Behind at at
behind_none at = let none : length at - length at ≡ 0 = omega arith in record { few = omega arith; is = rw none refl }

module _ (at rest row behind : List ℕ) (b : Behind at rest) (cut : rest ≡ row ++ behind) (some : 0 < length row) where
  pub cut_length : length rest ≡ length row + length behind
  cut_length = ap length cut ∙ length-append row behind

  pub behind_next : Behind at behind
  behind_next =
      let few : length behind ≤ length at = omega (arith, b.few, cut_length) in
      let all : length at - length rest + length row ≡ length at - length behind = omega (arith, b.few, cut_length) in
      record {
        few = few;
        is = sym (drop-append_seam row behind) ∙ ap (drop (length row)) (sym cut ∙ b.is) ∙ rw (drop-drop, all) refl;
      }

  -- each is the place behind the one before it
  row_cut : ((i : ℕ) → i < length at → get_or at i 0 + 1 < 18446744073709551616) → AllAdjacentBelow (λ p q. follows p q ≡ true) rest (length row)
      → RowAt at (length at - length rest) row
  row_cut low next = record {
    some = some;
    inside = omega (arith, b.few, cut_length);
    places = λ i l. sym (left i) ∙ go i l ∙ ap (λ (p : ℕ). p + i) (ap (λ (l : List ℕ). get_or l 0 0) cut ∙ get_or-append row behind 0 0 some);
  }
    where
      left : (i : ℕ) → get_or rest i 0 ≡ get_or at (length at - length rest + i) 0
      left i = ap (λ (l : List ℕ). get_or l i 0) b.is ∙ get_or-drop (length at - length rest) at i 0

      go : (i : ℕ) → i < length row → get_or rest i 0 ≡ get_or rest 0 0 + i
      go zero l = sym (add-zero (get_or rest 0 0))
      go (suc i) l =
          let more : get_or at (length at - length rest + i) 0 + 1 < 18446744073709551616 = low (length at - length rest + i) (omega (arith, b.few, cut_length)) in
          let z : i + 1 ≡ suc i = omega arith in
          let e = rw z at (next i 0 (omega arith)) in
          omega (arith, left i, more, go i (omega arith), eqb-true _ _ e)

-- the same, of what `chunk_by` cut off by `follows`, of places that lie in a store
pub row_chunked : {F : Type 0} {g : Mut F (Bor ℕ × (Bor ℕ × Unit {0})) Bool} {f f' : F} (at rest row behind : List ℕ) → Behind at rest → ComputesOnPairs g follows f
    → (rest ≡ row ++ behind) × (0 < length row) × ((e : ℕ → ℕ → Bool) → ComputesOnPairs g e f → ComputesOnPairs g e f' × IsChunkByPrefix e rest (length row))
    → (dev : Device) (store : List ℕ) → Usable dev → length store < 18446744073709551616 → ((i : ℕ) → i < length at → get_or at i 0 < store_blocks dev store)
    → RowAt at (length at - length rest) row
row_chunked at rest row behind b all cut dev store usable long stored =
    row_cut at rest row behind b cut.0 cut.1 (λ i l. omega (arith, stored i l, blocks_few dev store usable.some_size, long)) (cut.2 follows all).1.0

module _ (at : List ℕ) (j : ℕ) (row : List ℕ) (x : RowAt at j row) where
  abbrev first : ℕ
  first = get_or row 0 0

  pub row_within : (dev : Device) (store : List ℕ) → ((i : ℕ) → i < length at → get_or at i 0 < store_blocks dev store) → first * dev.block + length row * dev.block ≤ length store
  unfolding store_blocks
  row_within dev store s =
      let last = x.places (length row - 1) (omega (arith, x.some)) in
      let below = s (j + (length row - 1)) (omega (arith, x.some, x.inside)) in
      let all : first + length row ≤ length store / dev.block = omega (arith, last, below, x.some) in
      omega (arith, mul-le-mul_right dev.block all, div-mul-le_self (length store) dev.block)

  row_of : (dev : Device) (map store : List ℕ) (block : ℕ) → PlacesOf dev map store block at → Row dev map store (block + j) (length row) first
  row_of dev map store block p i b =
      let same : block + j + i ≡ block + (j + i) = omega arith in
      rw same (sym (place_of dev map store block at (j + i) p (omega (arith, x.inside, b))) ∙ x.places i b)

  -- the bytes of a row, as READ sees them and as WRITE leaves them; `now` is a store as long
  pub row_read : (dev : Device) (map store : List ℕ) (block : ℕ) → PlacesOf dev map store block at
      → part store (first * dev.block) (length row * dev.block) ≡ blocks_from dev map store (block + j) (length row)
  row_read dev map store block p = sym (row_from_part dev map store (block + j) (length row) first (row_of dev map store block p))

  pub row_stored : (dev : Device) (map store now : List ℕ) (block : ℕ) (bytes : List ℕ) → PlacesOf dev map store block at → length store ≡ length now
      → first * dev.block + length row * dev.block ≤ length now → put now (first * dev.block) (pad (length row * dev.block) bytes) ≡ blocks_into dev map now (block + j) (length row) bytes
  row_stored dev map store now block bytes p e h =
      sym (row_into_part dev map now (block + j) (length row) first bytes (row_same dev map store now (block + j) (length row) first e (row_of dev map store block p)) h)

either : (x y : Bool) → x || y ≡ true → (x ≡ true) ⊎ (y ≡ true)
either true y e = inl refl
either false y e = inr e

pub unmapped_row : (dev : Device) (map store : List ℕ) (block n : ℕ) → no_alternate dev map ≡ true → Row dev map store block n block
unfolding no_alternate
unmapped_row dev map store block n h j b =
    ⊎_elim
    (λ e. lies_unmapped map dev.alternates (block_count dev store) (block + j) (omega (arith, eqb-true dev.alternates 0 e)))
    (λ e. none_lies map e dev.alternates (block_count dev store) (block + j))
    (either (dev.alternates =? 0) (none_used map) h)

-- what is left to move

-- of n bytes of the area `a`, `left` are not moved yet: `area` has them, and so many blocks have room for them; `main` is main storage as it is now
pub record Left (size : ℕ) (chain : List ℕ) (a : Area) (n : ℕ) (main : List ℕ) (area : Area) (left blocks : ℕ) : Type 0 where
  pub some : left ≤ n
  pub bytes : left ≤ blocks * size
  pub there : InArea chain area main left
  pub rest : Rest chain a (n - left) area

fewer : (chain : List ℕ) (a : Area) (main : List ℕ) (n m : ℕ) → InArea chain a main n → m ≤ n → InArea chain a main m
fewer chain a main n m h l = record { ccws = h.ccws; inside = h.inside; left = omega (arith, h.left, l) }

module _ (size : ℕ) (chain : List ℕ) (a : Area) (n : ℕ) where
  pub left_first : (main : List ℕ) (blocks : ℕ) → InArea chain a main n → n ≤ blocks * size → Left size chain a n main a n blocks
  left_first main blocks h b =
      let none : n - n ≡ 0 = omega arith in
      record { some = omega arith; bytes = b; there = h; rest = rw none (rest_none chain a h.ccws) }

  module _ (main : List ℕ) (area : Area) (left blocks : ℕ) (h : Left size chain a n main area left blocks) where
    -- a byte is left, so a block is
    pub left_some : 0 < left → 0 < blocks
    left_some b = elim (dec_le blocks 0) [
      | yes g ↦
          let none : blocks ≡ 0 = omega (arith, g) in
          absurd (omega (arith, b, rw (none, zero-mul) at h.bytes))
      | no g ↦ omega (arith, g)
    ]

    -- of w blocks of these, k bytes are moved
    pub left_here : (w k : ℕ) → k ≡ min (w * size) left → InArea chain area main k
    left_here w k e = fewer chain area main left k h.there (omega (arith, e))

    pub left_next : (main' : List ℕ) (r : Area) (w m k : ℕ) → k ≡ min (w * size) left → Rest chain area k r → blocks ≡ w + m → length main ≡ length main' → Left size chain a n main' r (left - k) m
    left_next main' r w m k e x b same =
        let moved : n - (left - k) ≡ n - left + k = omega (arith, e, h.some) in
        record {
          some = omega (arith, h.some);
          bytes = omega (arith, e, rw b at h.bytes);
          there = rest_area chain area r main k x main' left h.there same;
          rest = rw moved (rest_more chain a area r (n - left) k h.rest x);
        }

    pub left_end : left ≡ 0 → Rest chain a n area
    left_end z =
        let all : n - left ≡ n = omega (arith, z) in
        rw all at h.rest

-- some blocks, and those behind them

take_both : (front behind : List ℕ) (left k : ℕ) → k ≡ min (length front) left → take left (front ++ behind) ≡ take k front ++ take (left - k) behind
take_both front behind left k e = elim (dec_le left (length front)) [
  | yes h ↦
      let all : k ≡ left = omega (arith, e, h) in
      let none : left - left ≡ 0 = omega arith in
      rw (all, none) (take-append-le left front behind h ∙ sym (append-nil (take left front)))
  | no h ↦
      let whole : k ≡ length front = omega (arith, e, h) in
      let split : left ≡ length front + (left - length front) = omega (arith, h) in
      rw (whole, take-length) (ap (λ (i : ℕ). take i (front ++ behind)) split ∙ take-append-add front behind (left - length front))
]

take_least : (l : List ℕ) (n left k : ℕ) → k ≡ min n left → take n (take left l) ≡ take k l
take_least l n left k e = elim (dec_le n left) [
  | yes h ↦ let all : k ≡ n = omega (arith, e, h) in rw all (take-take n left l h)
  | no h ↦
      let all : k ≡ left = omega (arith, e, h) in
      rw all (take_all n (take left l) (rw length-take (omega (arith, h))))
]

drop_least : (l : List ℕ) (n left k : ℕ) → k ≡ min n left → drop n (take left l) ≡ take (left - k) (drop k l)
drop_least l n left k e = elim (dec_le n left) [
  | yes h ↦ let all : k ≡ n = omega (arith, e, h) in rw all (drop_take n left l)
  | no h ↦
      let all : left - k ≡ 0 = omega (arith, e, h) in
      let none : left - n ≡ 0 = omega (arith, h) in
      rw (all, drop_take n left l, none) refl
]

-- `here` is the first of these blocks, `next` the one behind the w that are moved, of `blocks` in all
module _ (dev : Device) (map store chain : List ℕ) (area r : Area) (main back : List ℕ) (left k here w blocks next m : ℕ)
    (rest : Rest chain area k r) (least : k ≡ min (w * dev.block) left) (there : InArea chain area main left) (some : blocks ≡ w + m) (on : next ≡ here + w) where
  pub read_turn : back ≡ scattered (area_of chain area) main (take k (blocks_from dev map store here w)) → here + blocks ≤ block_count dev store
      → scattered (area_of chain r) back (take (left - k) (blocks_from dev map store next m)) ≡ scattered (area_of chain area) main (take left (blocks_from dev map store here blocks))
  read_turn moved stored =
      let front = blocks_from dev map store here w in
      let long : length front ≡ w * dev.block = blocks_from_length dev map store here w (omega (arith, stored, some)) in
      let e : k ≡ min (length front) left = rw long least in
      let enough : k ≡ length (take k front) = sym (length-take-le k front (omega (arith, e))) in
      rw (moved, some, on, blocks_from_more dev map store here w m, take_both front (blocks_from dev map store (here + w) m) left k e)
      (sym (scattered_more chain area r main k rest (take k front) _ there.inside enough))

  pub store_turn : back ≡ blocks_into dev map store here w (take k (bytes_in (area_of chain area) main))
      → blocks_into dev map back next m (take (left - k) (bytes_in (area_of chain r) main)) ≡ blocks_into dev map store here blocks (take left (bytes_in (area_of chain area) main))
  store_turn moved =
      let bytes = bytes_in (area_of chain area) main in
      rw (
        moved,
        some,
        on,
        gathered_rest chain area r main k rest there.inside,
        blocks_into_more dev map store here w m (take left bytes),
        drop_least bytes (w * dev.block) left k least,
        ← (take_least bytes (w * dev.block) left k least),
        blocks_into_enough dev map store here w (take left bytes),
      ) refl
