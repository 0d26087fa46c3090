-- Laws of `zeros`, `part`, `put` and `pad`: their lengths, what is read at a place, bytes after others, parts that were lent, and that bytes stay bytes.
-- No contract cites this file.
use Prim.Native.Nat.{ℕ, zero, suc, ◌+◌, ◌-◌, ◌≤◌, ◌<◌, min}
use native.Mathlib.Nat.{zero-add, add-zero, add_assoc, zero-min, min-zero, suc-min-suc, suc-add, sub-zero, zero-sub, suc-sub-suc}
use mathlib.Core.Path.{◌≡◌, refl, sym, ap, ◌∙◌}
use mathlib.Core.Logic.{◌⊎◌, ⊎_elim}
use mathlib.Core.Bool.{Bool, true, false}
use mathlib.Core.List.{List, [], ◌∷◌, ◌++◌, append_assoc, append-nil}
use native.Mathlib.Numerals.{add-one}
use native.Mathlib.Omega.{arith}
use lib.Dec.{ltb}
use lib.ListN.{length, get_or, set, take, drop, length-append, length-take, length-drop, length-replicate, replicate-append-replicate, take-append-drop, drop_of_length-le, get_or-append}
use lib.Seq.{take-nil, ext_get_or, set-append_seam, length-take-le, take_all, drop-length, drop-drop, drop-cons, drop-append-le, drop-append-add, take-add, take_at, drop_at, get_or-take, get_or-drop, get_or-append-add}
use borrow.Author.Tests.{ltb-true, ltb-false}
use borrow.Rule.Slice.PartMut.{mid_of, put_mid, mid_len, Post-is}
use Rattle.numbers.specs.Bytes.{AreBytes}
use Rattle.numbers.proofs.Bytes.{bytes_nil, bytes_cons, bytes_append, bytes_take, bytes_drop}
use Rattle.slices.specs.Parts.{zeros, part, put, pad}

-- lengths

pub length_zeros : (n : ℕ) → length (zeros n) ≡ n
unfolding zeros
length_zeros n = length-replicate n 0

pub length_part : (l : List ℕ) (at n : ℕ) → at + n ≤ length l → length (part l at n) ≡ n
unfolding part
length_part l at n h = simp (length-take, length-drop) (omega arith)

pub length_put : (l : List ℕ) (at : ℕ) (bytes : List ℕ) → at + length bytes ≤ length l → length (put l at bytes) ≡ length l
unfolding put
length_put l at bytes h = simp (length-append, length-take, length-drop) (omega arith)

pub length_put_is : (n : ℕ) (l : List ℕ) (at : ℕ) (bytes : List ℕ) → length l ≡ n → at + length bytes ≤ n → length (put l at bytes) ≡ n
length_put_is n l at bytes e h = length_put l at bytes (rw e h) ∙ e

pub length_pad : (n : ℕ) (bytes : List ℕ) → length (pad n bytes) ≡ n
unfolding pad
length_pad n bytes = simp (length-append, length-take, length_zeros) (omega arith)

-- what is read at a place before, in and after the bytes that were put

pub get_before : (l : List ℕ) (at : ℕ) (bytes : List ℕ) (i : ℕ) → at + length bytes ≤ length l → i < at → get_or (put l at bytes) i 0 ≡ get_or l i 0
unfolding put
get_before l at bytes i h k =
    let e : length (take at l) ≡ at = length-take-le at l (omega arith) in
    get_or-append (take at l ++ bytes) (drop (at + length bytes) l) 0 i (simp (length-append, e) (omega arith))
    ∙ get_or-append (take at l) bytes 0 i (omega arith)
    ∙ get_or-take at l i 0 k

pub get_in : (l : List ℕ) (at : ℕ) (bytes : List ℕ) (i : ℕ) → at + length bytes ≤ length l → i < length bytes → get_or (put l at bytes) (at + i) 0 ≡ get_or bytes i 0
unfolding put
get_in l at bytes i h k =
    let e : length (take at l) ≡ at = length-take-le at l (omega arith) in
    get_or-append (take at l ++ bytes) (drop (at + length bytes) l) 0 (at + i) (simp (length-append, e) (omega arith))
    ∙ ap (λ (j : ℕ). get_or (take at l ++ bytes) (j + i) 0) (sym e)
    ∙ get_or-append-add (take at l) bytes i 0

pub get_after : (l : List ℕ) (at : ℕ) (bytes : List ℕ) (i : ℕ) → at + length bytes ≤ length l → at + length bytes ≤ i → get_or (put l at bytes) i 0 ≡ get_or l i 0
unfolding put
get_after l at bytes i h k =
    let front : List ℕ = take at l ++ bytes in
    let j : ℕ = i - (at + length bytes) in
    let e : length front ≡ at + length bytes = length-append (take at l) bytes ∙ ap (λ (n : ℕ). n + length bytes) (length-take-le at l (omega arith)) in
    let f : i ≡ at + length bytes + j = omega arith in
    ap (λ (n : ℕ). get_or (front ++ drop (at + length bytes) l) n 0) (f ∙ ap (λ (n : ℕ). n + j) (sym e))
    ∙ get_or-append-add front (drop (at + length bytes) l) j 0
    ∙ get_or-drop (at + length bytes) l j 0
    ∙ ap (λ (n : ℕ). get_or l n 0) (sym f)

-- a place is one of the three
pub by_place : (P : Type 0) (i at n : ℕ) → (i < at → P) → ((j : ℕ) → j < n → i ≡ at + j → P) → (at + n ≤ i → P) → P
by_place P i at n before inside after = go (ltb i at) (ltb i (at + n)) refl refl
  where
    go : (a b : Bool) → ltb i at ≡ a → ltb i (at + n) ≡ b → P
    go true true p q = before (ltb-true i at p)
    go true false p q = before (ltb-true i at p)
    go false true p q =
        let u = ltb-false i at p in
        let v = ltb-true i (at + n) q in
        inside (i - at) (omega arith) (omega arith)
    go false false p q = after (ltb-false i (at + n) q)

pub get_part : (l : List ℕ) (at n i : ℕ) → i < n → get_or (part l at n) i 0 ≡ get_or l (at + i) 0
unfolding part
get_part l at n i h = get_or-take n (drop at l) i 0 h ∙ get_or-drop at l i 0

-- a part of what lies from a place on
pub part_drop : (l : List ℕ) (from at n : ℕ) → part (drop from l) at n ≡ part l (from + at) n
unfolding part
part_drop l from at n = rw (drop-drop at from l)

-- a byte, and a part, of what stands behind another list
pub get_behind : (front l : List ℕ) (n at : ℕ) → length front ≡ n → get_or (front ++ l) (n + at) 0 ≡ get_or l at 0
get_behind front l n at e = rw (← e) (get_or-append-add front l at 0)

pub part_behind : (front l : List ℕ) (n at k : ℕ) → length front ≡ n → part (front ++ l) (n + at) k ≡ part l at k
unfolding part
part_behind front l n at k e = rw (← e, drop-append-add front l at)

-- a part that was put between two others
pub part_between : (p q r : List ℕ) (at n : ℕ) → length p ≡ at → length q ≡ n → part (p ++ (q ++ r)) at n ≡ q
unfolding part
part_between p q r at n e f = rw (drop_at p (q ++ r) at e) (take_at q r n f)

pub part_length : (l : List ℕ) (at n : ℕ) → length (part l at n) ≡ min n (length l - at)
unfolding part
part_length l at n = simp (length-take, length-drop) (omega arith)

-- two lists of one length that agree on a part
pub part_same : (l k : List ℕ) (at n : ℕ) → length l ≡ length k → ((i : ℕ) → i < n → get_or l (at + i) 0 ≡ get_or k (at + i) 0) → part l at n ≡ part k at n
part_same l k at n e h =
    let long : (m : List ℕ) → length (part m at n) ≡ min n (length m - at) = λ m. part_length m at n in
    ext_get_or 0 _ _ (long l ∙ rw e (sym (long k)))
    (λ i b.
    let j : i < n = omega (arith, long l) in
    get_part l at n i j ∙ h i j ∙ sym (get_part k at n i j))

-- a part apart from the bytes that were put, and the part that they are
pub part_apart : (l : List ℕ) (at : ℕ) (bytes : List ℕ) (from n : ℕ) → at + length bytes ≤ length l → (from + n ≤ at) ⊎ (at + length bytes ≤ from) → part (put l at bytes) from n ≡ part l from n
part_apart l at bytes from n h d =
    part_same (put l at bytes) l from n (length_put l at bytes h)
    (λ i b. ⊎_elim (λ k. get_before l at bytes (from + i) h (omega arith)) (λ k. get_after l at bytes (from + i) h (omega arith)) d)

pub part_put : (l : List ℕ) (at : ℕ) (bytes : List ℕ) → at + length bytes ≤ length l → part (put l at bytes) at (length bytes) ≡ bytes
unfolding put
part_put l at bytes h = rw append_assoc (part_between (take at l) bytes _ at (length bytes) (length-take-le at l (omega arith)) refl)

-- what stands before a part, and the part
pub take_part : (l : List ℕ) (at n : ℕ) → take at l ++ part l at n ≡ take (at + n) l
unfolding part
take_part l at n = sym (take-add at n l)

-- no byte, and more bytes after some

pub put_nil : (l : List ℕ) (at : ℕ) → put l at [] ≡ l
unfolding put
put_nil l at = rw (add-zero, append-nil, take-append-drop)

pub part_more : (l : List ℕ) (at m n : ℕ) → part l at (m + n) ≡ part l at m ++ part l (at + m) n
unfolding part
part_more l at m n = rw (take-add, drop-drop)

pub put_more : (l : List ℕ) (at : ℕ) (bytes more : List ℕ) → at ≤ length l → put (put l at bytes) (at + length bytes) more ≡ put l at (bytes ++ more)
unfolding put
put_more l at bytes more h =
    let n : ℕ = at + length bytes in
    let front : List ℕ = take at l ++ bytes in
    let e : length front ≡ n = length-append (take at l) bytes ∙ ap (λ (k : ℕ). k + length bytes) (length-take-le at l h) in
    rw (take_at front (drop n l) n e, ← drop-drop (length more) n (front ++ drop n l), drop_at front (drop n l) n e, drop-drop, length-append, ← add_assoc) (simp append_assoc)

pub pad_more : (m n : ℕ) (l : List ℕ) → pad (m + n) l ≡ pad m l ++ pad n (drop m l)
unfolding pad zeros
pad_more zero n l = rw (zero-add, zero-sub) refl
pad_more (suc m) n [] = simp (sub-zero, take-nil) (sym (replicate-append-replicate (suc m) n 0))
pad_more (suc m) n (b ∷ l) = simp (suc-add, suc-sub-suc) (ap (λ (r : List ℕ). b ∷ r) (pad_more m n l))

-- the first byte of a part, and the rest of it
pub part_cons : (l : List ℕ) (at n : ℕ) → at < length l → part l at (suc n) ≡ get_or l at 0 ∷ part l (at + 1) n
unfolding part
part_cons l at n h = rw (drop-cons l at 0 h, add-one)

-- where the bytes that were put end
put_end : (l : List ℕ) (at : ℕ) (bytes : List ℕ) (n : ℕ) → length bytes ≡ n → at + n ≤ length l → length (take at l ++ bytes) ≡ at + n
put_end l at bytes n e h = length-append (take at l) bytes ∙ rw (length-take-le at l (omega arith), e)

-- what stands before the bytes that were put, and the bytes
pub take_put : (l : List ℕ) (at : ℕ) (bytes : List ℕ) (n : ℕ) → length bytes ≡ n → at + n ≤ length l → take (at + n) (put l at bytes) ≡ take at l ++ bytes
unfolding put
take_put l at bytes n e h = take_at (take at l ++ bytes) _ (at + n) (put_end l at bytes n e h)

-- what stands behind them
pub drop_put : (l : List ℕ) (at : ℕ) (bytes : List ℕ) (n : ℕ) → length bytes ≡ n → at + n ≤ length l → drop (at + n) (put l at bytes) ≡ drop (at + n) l
unfolding put
drop_put l at bytes n e h = rw e (drop_at (take at l ++ bytes) _ (at + n) (put_end l at bytes n e h))

-- put at the front

-- all of `bytes` is copied over the front of l
pub put_copied : (l bytes : List ℕ) → bytes ++ drop (length bytes) l ≡ put l 0 bytes
unfolding put
put_copied l bytes = rw zero-add refl

-- what was copied to the front is what the front has
pub front_put : (l bytes : List ℕ) (n : ℕ) → n ≤ length bytes → n ≤ length l → take n (put l 0 (take n bytes)) ≡ take n bytes
front_put l bytes n h fits = rw zero-add at (take_put l 0 (take n bytes) n (length-take-le n bytes h) (omega arith))

-- as many bytes as there are
pub put_all : (l bytes : List ℕ) → length bytes ≡ length l → put l 0 bytes ≡ bytes
unfolding put
put_all l bytes e = rw (zero-add, e, drop-length) (append-nil bytes)

-- a part that was lent as `&mut l[at..]` or `&mut l[at..at + n]`, and is back

-- the callee put bytes at the part's front
pub put_lent_front : (l bytes back : List ℕ) (at k : ℕ) → back ≡ put (mid_of at k l) 0 bytes → length bytes ≤ k → at + length bytes ≤ length l
    → put_mid at k l back ≡ put l at bytes
unfolding put
put_lent_front l bytes back at k e h m =
    let f : length bytes ≤ length (mid_of at k l) = simp (length-take, length-drop) (omega arith) in
    rw (e, zero-add, append_assoc bytes, ← drop-append-le (length bytes) (mid_of at k l) (drop k (drop at l)) f, take-append-drop, drop-drop, append_assoc)

-- the callee made the part what it is; `e` is the call's `.kept`
pub put_lent_whole : (l back : List ℕ) (at n : ℕ) → length back ≡ length (mid_of at (at + n - at) l) → at + n ≤ length l → put_mid at (at + n - at) l back ≡ put l at back
unfolding put
put_lent_whole l back at n e h =
    let f : at + length back ≡ at + n = rw (e, mid_len at (at + n) l h) (omega arith) in
    rw (f, Post-is at (at + n) l (omega arith), append_assoc)

-- what `&l[at..at + n]` lends
pub part_lent : (l : List ℕ) (at n : ℕ) → mid_of at (at + n - at) l ≡ part l at n
unfolding part
part_lent l at n =
    let e : at + n - at ≡ n = omega arith in
    rw e

-- what `&l[at..]` lends
pub rest_lent : (l : List ℕ) (at : ℕ) → mid_of at (length l - at) l ≡ drop at l
rest_lent l at =
    let h : length (drop at l) ≤ length l - at = simp length-drop (omega arith) in
    take_all (length l - at) (drop at l) h

-- what was lent as `&mut l[at..]`, and is back
pub rest_back : (l back : List ℕ) (at : ℕ) → at ≤ length l → drop at (put_mid at (length l - at) l back) ≡ back
rest_back l back at h =
    let short : length (drop at l) ≤ length l - at = simp length-drop (omega arith) in
    drop_at (take at l) _ at (length-take-le at l h) ∙ ap (λ (k : List ℕ). back ++ k) (drop_of_length-le (drop at l) short) ∙ append-nil back

-- the callee filled the part
pub put_lent_filled : (l bytes back : List ℕ) (at n : ℕ) → back ≡ pad (length (mid_of at (at + n - at) l)) bytes → at + n ≤ length l
    → put_mid at (at + n - at) l back ≡ put l at (pad n bytes)
put_lent_filled l bytes back at n e h =
    let long : length (mid_of at (at + n - at) l) ≡ n = mid_len at (at + n) l h ∙ omega arith in
    let filled : back ≡ pad n bytes = rw long at e in
    put_lent_whole l back at n (rw (filled, long) (length_pad n bytes)) h ∙ ap (put l at) filled

-- the callee cleared the part
pub put_lent_cleared : (l back : List ℕ) (at n : ℕ) → back ≡ zeros (length (mid_of at (at + n - at) l)) → at + n ≤ length l → put_mid at (at + n - at) l back ≡ put l at (zeros n)
put_lent_cleared l back at n e h =
    let long : length (mid_of at (at + n - at) l) ≡ n = mid_len at (at + n) l h ∙ omega arith in
    let cleared : back ≡ zeros n = rw long at e in
    put_lent_whole l back at n (rw (cleared, long) (length_zeros n)) h ∙ ap (put l at) cleared

-- some bytes of some

pub take_fits : (n : ℕ) (l : List ℕ) → take (min n (length l)) l ≡ take n l
take_fits zero l = rw zero-min
take_fits (suc n) [] = rw min-zero
take_fits (suc n) (b ∷ l) = rw (suc-min-suc, take_fits n l)

pub drop_take : (n m : ℕ) (l : List ℕ) → drop n (take m l) ≡ take (m - n) (drop n l)
drop_take zero m l = rw sub-zero
drop_take (suc n) zero l = rw zero-sub
drop_take (suc n) (suc m) [] = rw suc-sub-suc (sym (take-nil (m - n)))
drop_take (suc n) (suc m) (b ∷ l) = rw suc-sub-suc (drop_take n m l)

-- bytes are put at the front, and the rest is cleared: `b` is `d` with n bytes put, `back` what `&mut b[n..]` came back as
pub pad_cleared : (d l b back : List ℕ) (n : ℕ) → length l ≡ n → n ≤ length d → b ≡ put d 0 l → back ≡ zeros (length (mid_of n (length b - n) b))
    → put_mid n (length b - n) b back ≡ pad (length d) l
unfolding put pad
pad_cleared d l b back n ln h hb hc =
    let eb : b ≡ l ++ drop n d = rw (ln, zero-add) at hb in
    let lb : length b ≡ length d = rw hb (length_put d 0 l (omega arith)) in
    let front : take n b ≡ l = rw eb (take_at l (drop n d) n ln) in
    let short : length (drop n b) ≤ length b - n = simp length-drop (omega arith) in
    let none : drop (length b - n) (drop n b) ≡ [] = drop_of_length-le (drop n b) short in
    let lc : length (mid_of n (length b - n) b) ≡ length d - n = simp (length-take, length-drop) (omega arith) in
    rw (front, none, append-nil, hc, lc, ln, take_all (length d) l (omega arith)) refl

-- bytes stay bytes

pub bytes_zeros : (n : ℕ) → AreBytes (zeros n)
unfolding zeros
bytes_zeros zero = bytes_nil
bytes_zeros (suc n) = bytes_cons 0 _ (omega arith) (bytes_zeros n)

pub bytes_part : (l : List ℕ) (at n : ℕ) → AreBytes l → AreBytes (part l at n)
unfolding part
bytes_part l at n p = bytes_take n (drop at l) (bytes_drop at l p)

pub bytes_put : (l : List ℕ) (at : ℕ) (bytes : List ℕ) → AreBytes l → AreBytes bytes → AreBytes (put l at bytes)
unfolding put
bytes_put l at bytes p q = bytes_append _ _ (bytes_append _ _ (bytes_take at l p) q) (bytes_drop (at + length bytes) l p)

pub bytes_pad : (n : ℕ) (bytes : List ℕ) → AreBytes bytes → AreBytes (pad n bytes)
unfolding pad
bytes_pad n bytes p = bytes_append _ _ (bytes_take n bytes p) (bytes_zeros (n - length bytes))

-- a whole list copied over another
pub put_copy : (n : ℕ) (l bytes : List ℕ) → length l ≡ n → length bytes ≡ n → put l 0 (take n bytes) ≡ bytes
put_copy n l bytes e f =
    let whole : take n bytes ≡ bytes = take_all n bytes (omega (arith, f)) in
    rw whole (put_all l bytes (f ∙ sym e))

-- bytes that were put, with the second of them put again
pub put_second : (l : List ℕ) (at a b : ℕ) (more : List ℕ) (c : ℕ) → at ≤ length l → set (put l at (a ∷ b ∷ more)) (at + 1) c ≡ put l at (a ∷ c ∷ more)
unfolding put
put_second l at a b more c h =
    let front = take at l ++ (a ∷ []) in
    let back = more ++ drop (at + length (a ∷ b ∷ more)) l in
    let long : length front ≡ at + 1 = rw (length-append, length-take-le at l h) refl in
    let split : (d : ℕ) → take at l ++ (a ∷ d ∷ more) ++ drop (at + length (a ∷ b ∷ more)) l ≡ front ++ d ∷ back = λ d. rw (append_assoc, append_assoc) refl in
    rw (split b, ← long, set-append_seam front b back c) (sym (split c))
