-- What is left of a data area behind some of its bytes. No contract cites this file.
--     skip_unique      only one area is what is left
--     rest_area        it is an area: of the m bytes that there were, the others are left, also of a main storage as long
--     rest_none, rest_more
--                      behind no byte, and behind more bytes of the rest
--     gathered_rest    its bytes are those behind the first n; gathered_more   the first n bytes, and some of the rest
--     scattered_rest, scattered_more
--                      bytes scattered: the first n of them, and then the others over the rest
--     Skipping         a piece more that is skipped: skipping_first, skipping_more, skipping_next, skipping_end
use Prim.Native.Nat.{ℕ, zero, suc, ◌+◌, ◌-◌, ◌≤◌, ◌<◌}
use mathlib.Core.Path.{◌≡◌, refl, sym, ap, ◌∙◌}
use mathlib.Core.List.{List, [], ◌∷◌, ◌++◌}
use lib.ListN.{length, take, drop, length-drop, drop_of_length-le, take-append-drop}
use lib.Seq.{drop-nil, take_all, take-add, length-take-le, take-append-le, take-append-add, drop-drop, drop-append-le, drop-append-add}
use native.Mathlib.Nat.{add-zero, sub-zero}
use native.Mathlib.Decide.{dec_le}
use native.Mathlib.Omega.{arith}
use borrow.Author.Tests.{lt-ltb, le-ltb}
use Rattle.numbers.proofs.Choice.{pick_true, pick_false}
use Rattle.slices.specs.Parts.{part, put}
use Rattle.slices.proofs.Laws.{length_part, length_put, put_more, drop_take}
use Rattle.model.specs.declared.ccw.Piece.{Piece}
use Rattle.model.specs.declared.decoded.Area.{Area}
use Rattle.model.specs.Pieces.{counts, bytes_in, scattered}
use Rattle.model.specs.Decoded.{pieces_from, later_of, area_of, Stands}
use Rattle.model.specs.Safe.{PieceFits, Inside, InArea}
use Rattle.model.proofs.Pieces.{inside_same}
use Rattle.storage.specs.Area.{trimmed, beyond, Rest}
use Rattle.storage.proofs.Laws.{scattered_none, inside_of}
use Rattle.storage.proofs.Turns.{more_pieces, behind_first}

-- no more bytes than the first piece has, and more than that

module _ (p : Piece) (ps : List Piece) (n : ℕ) where
  beyond_here : n ≤ p.count → beyond n (p ∷ ps) ≡ trimmed p n ∷ ps
  unfolding beyond
  beyond_here h = pick_false _ _ _ (le-ltb _ _ h)

  beyond_next : p.count < n → beyond n (p ∷ ps) ≡ beyond (n - p.count) ps
  unfolding beyond
  beyond_next h = pick_true _ _ _ (lt-ltb _ _ h)

beyond_nil : (n : ℕ) → beyond n [] ≡ []
unfolding beyond
beyond_nil n = refl

-- counts, place, and bytes of what is left

counts_beyond : (ps : List Piece) (n : ℕ) → counts (beyond n ps) ≡ counts ps - n
unfolding counts
counts_beyond [] n = rw (beyond_nil n) (omega arith)
counts_beyond (p ∷ ps) n = elim (dec_le n p.count) [
  | yes h ↦ rw (beyond_here p ps n h) (omega (arith, h))
  | no h ↦ rw (beyond_next p ps n (omega (arith, h)), counts_beyond ps (n - p.count)) (omega (arith, h))
]

inside_beyond : (ps : List Piece) (main : List ℕ) (n : ℕ) → Inside ps main → Inside (beyond n ps) main
inside_beyond [] main n i = rw (beyond_nil n) _
inside_beyond (p ∷ ps) main n i = elim (dec_le n p.count) [
  | yes h ↦ rw (beyond_here p ps n h) (omega (arith, h, i.0), i.1)
  | no h ↦ rw (beyond_next p ps n (omega (arith, h))) (inside_beyond ps main (n - p.count) i.1)
]

part_beyond : (l : List ℕ) (at n m : ℕ) → drop n (part l at m) ≡ part l (at + n) (m - n)
unfolding part
part_beyond l at n m = rw (drop_take n m (drop at l), drop-drop n at l) refl

bytes_beyond : (ps : List Piece) (main : List ℕ) (n : ℕ) → Inside ps main → bytes_in (beyond n ps) main ≡ drop n (bytes_in ps main)
unfolding bytes_in
bytes_beyond [] main n i = rw (beyond_nil n) (sym (drop-nil n))
bytes_beyond (p ∷ ps) main n i =
    let first = part main p.address p.count in
    let long : length first ≡ p.count = length_part main p.address p.count i.0 in
    elim (dec_le n p.count) [
      | yes h ↦ rw (beyond_here p ps n h, drop-append-le n first (bytes_in ps main) (omega (arith, h, long)), part_beyond main p.address n p.count) refl
      | no h ↦
          let e : n ≡ length first + (n - p.count) = omega (arith, h, long) in
          rw (beyond_next p ps n (omega (arith, h)), bytes_beyond ps main (n - p.count) i.1)
          (sym (ap (λ (k : ℕ). drop k (first ++ bytes_in ps main)) e ∙ drop-append-add first (bytes_in ps main) (n - p.count)))
    ]

-- bytes that are delivered after others go to what those left
scattered_beyond : (ps : List Piece) (main : List ℕ) (n : ℕ) (bytes more : List ℕ) → n ≡ length bytes → Inside ps main
    → scattered ps main (bytes ++ more) ≡ scattered (beyond n ps) (scattered ps main bytes) more
unfolding scattered
scattered_beyond [] main n bytes more e i = rw (beyond_nil n) refl
scattered_beyond (p ∷ ps) main n bytes more e i = elim (dec_le n p.count) [
  | yes h ↦
      let c : p.count ≡ length bytes + (p.count - n) = omega (arith, e, h) in
      let front : take p.count (bytes ++ more) ≡ bytes ++ take (p.count - n) more = ap (λ (k : ℕ). take k (bytes ++ more)) c ∙ take-append-add bytes more (p.count - n) in
      let back : drop p.count (bytes ++ more) ≡ drop (p.count - n) more = ap (λ (k : ℕ). drop k (bytes ++ more)) c ∙ drop-append-add bytes more (p.count - n) in
      let none : drop p.count bytes ≡ [] = drop_of_length-le bytes {i = p.count} (omega (arith, e, h)) in
      let here : scattered ps (put main p.address (take p.count bytes)) (drop p.count bytes) ≡ put main p.address bytes
      = rw (take_all p.count bytes (omega (arith, e, h)), none) (scattered_none ps _) in
      rw (front, back, beyond_here p ps n h, here, e) (ap (λ (m : List ℕ). scattered ps m (drop (p.count - length bytes) more)) (sym (put_more main p.address bytes _ (omega (arith, i.0)))))
  | no h ↦
      let c : p.count ≤ length bytes = omega (arith, e, h) in
      let same : length main ≡ length (put main p.address (take p.count bytes)) = sym (length_put main p.address _ (rw (length-take-le p.count bytes c) i.0)) in
      let left : n - p.count ≡ length (drop p.count bytes) = rw length-drop (omega (arith, e)) in
      rw (take-append-le p.count bytes more c, drop-append-le p.count bytes more c, beyond_next p ps n (omega (arith, h)))
      (scattered_beyond ps _ (n - p.count) (drop p.count bytes) more left (inside_same ps main _ same i.1))
]

-- behind no byte, and behind more bytes
beyond_none : (p : Piece) (ps : List Piece) → beyond 0 (p ∷ ps) ≡ p ∷ ps
beyond_none p ps = beyond_here p ps 0 (omega arith) ∙ rw (add-zero, sub-zero) refl

beyond_more : (ps : List Piece) (n m : ℕ) → beyond m (beyond n ps) ≡ beyond (n + m) ps
beyond_more [] n m = rw (beyond_nil n, beyond_nil m, beyond_nil (n + m)) refl
beyond_more (p ∷ ps) n m = elim (dec_le n p.count) [
  | yes h ↦ elim (dec_le (n + m) p.count) [
    | yes g ↦
        let less : p.count - n - m ≡ p.count - (n + m) = omega arith in
        let more : p.address + n + m ≡ p.address + (n + m) = omega arith in
        rw (beyond_here p ps n h, beyond_here (trimmed p n) ps m (omega (arith, g)), beyond_here p ps (n + m) g, less, more) refl
    | no g ↦
        let less : m - (p.count - n) ≡ n + m - p.count = omega (arith, h) in
        rw (beyond_here p ps n h, beyond_next (trimmed p n) ps m (omega (arith, g, h)), beyond_next p ps (n + m) (omega (arith, g)), less) refl
  ]
  | no h ↦
      let less : n - p.count + m ≡ n + m - p.count = omega (arith, h) in
      rw (beyond_next p ps n (omega (arith, h)), beyond_next p ps (n + m) (omega (arith, h)), beyond_more ps (n - p.count) m, less) refl
]

-- only one area is what is left

pieces_length : (chain : List ℕ) (i n : ℕ) → length (pieces_from chain i n) ≡ n
unfolding pieces_from
pieces_length chain i zero = refl
pieces_length chain i (suc n) = ap (λ (k : ℕ). suc k) (pieces_length chain (i + 1) n)

area_same : (r s : Area) → r.piece ≡ s.piece → r.next ≡ s.next → r.end ≡ s.end → r ≡ s
area_same r s e f g =
    let made : Piece → ℕ → ℕ → Area = λ p i j. record { piece = p; next = i; end = j } in
    ap (λ (p : Piece). made p r.next r.end) e ∙ ap (λ (i : ℕ). made s.piece i r.end) f ∙ ap (made s.piece s.next) g

-- the first of some pieces, or of none, p
abbrev first_or : Piece → List Piece → Piece
first_or p [] = p
first_or p (q ∷ qs) = q

pub skip_unique : (chain : List ℕ) (a : Area) (n : ℕ) (r s : Area) → Rest chain a n r → Rest chain a n s → r ≡ s
skip_unique chain a n r s x y =
    let same : area_of chain r ≡ area_of chain s = x.pieces ∙ sym y.pieces in
    let ends : r.end ≡ s.end = x.end ∙ sym y.end in
    let long : (t : Area) → length (area_of chain t) ≡ suc (t.end - t.next) = λ t. ap (λ (k : ℕ). suc k) (pieces_length chain t.next (t.end - t.next)) in
    let few : length (area_of chain r) ≡ length (area_of chain s) = ap (λ (l : List Piece). length l) same in
    area_same r s (ap (first_or r.piece) same) (omega (arith, long r, long s, few, ends, x.ccws.order, y.ccws.order)) ends

-- an area, and what is left of it

pub rest_none : (chain : List ℕ) (a : Area) → Stands chain a → Rest chain a 0 a
rest_none chain a s = record { pieces = sym (beyond_none a.piece (later_of chain a)); ccws = s; end = refl }

pub rest_more : (chain : List ℕ) (a r s : Area) (n m : ℕ) → Rest chain a n r → Rest chain r m s → Rest chain a (n + m) s
rest_more chain a r s n m x y = record {
  pieces = y.pieces ∙ ap (beyond m) x.pieces ∙ beyond_more (area_of chain a) n m;
  ccws = y.ccws;
  end = y.end ∙ x.end;
}

module _ (chain : List ℕ) (a r : Area) (main : List ℕ) (n : ℕ) (rest : Rest chain a n r) where
  -- `main'` is main storage as it is then
  pub rest_area : (main' : List ℕ) (m : ℕ) → InArea chain a main m → length main ≡ length main' → InArea chain r main' (m - n)
  rest_area main' m h e = record {
    ccws = rest.ccws;
    inside = inside_of (area_of chain r) (beyond n (area_of chain a)) main' rest.pieces
        (inside_same (beyond n (area_of chain a)) main main' e (inside_beyond (area_of chain a) main n h.inside));
    left = rw (rest.pieces, counts_beyond (area_of chain a) n) (omega (arith, h.left));
  }

  pub gathered_rest : Inside (area_of chain a) main → bytes_in (area_of chain r) main ≡ drop n (bytes_in (area_of chain a) main)
  gathered_rest i = rw rest.pieces (bytes_beyond (area_of chain a) main n i)

  pub gathered_more : (m : ℕ) → Inside (area_of chain a) main
      → take (n + m) (bytes_in (area_of chain a) main) ≡ take n (bytes_in (area_of chain a) main) ++ take m (bytes_in (area_of chain r) main)
  gathered_more m i = rw (gathered_rest i) (take-add n m _)

  pub scattered_more : (bytes more : List ℕ) → Inside (area_of chain a) main → n ≡ length bytes
      → scattered (area_of chain a) main (bytes ++ more) ≡ scattered (area_of chain r) (scattered (area_of chain a) main bytes) more
  scattered_more bytes more i e = rw rest.pieces (scattered_beyond (area_of chain a) main n bytes more e i)

  pub scattered_rest : (bytes : List ℕ) → Inside (area_of chain a) main → n ≤ length bytes
      → scattered (area_of chain a) main bytes ≡ scattered (area_of chain r) (scattered (area_of chain a) main (take n bytes)) (drop n bytes)
  scattered_rest bytes i h =
      let whole : take n bytes ++ drop n bytes ≡ bytes = take-append-drop n bytes in
      ap (scattered (area_of chain a) main) (sym whole) ∙ scattered_more (take n bytes) (drop n bytes) i (sym (length-take-le n bytes h))

-- what is left of `area` behind `left` more bytes is what is left of `a` behind n
pub record Skipping (chain : List ℕ) (a : Area) (n : ℕ) (area : Area) (left : ℕ) : Type 0 where
  pub pieces : beyond left (area_of chain area) ≡ beyond n (area_of chain a)
  pub ccws : Stands chain area
  pub few : left ≤ counts (area_of chain area)
  pub low : area.piece.address + area.piece.count < 18446744073709551616
  pub end : area.end ≡ a.end

pub skipping_first : (chain : List ℕ) (a : Area) (n : ℕ) → Stands chain a → n ≤ counts (area_of chain a) → a.piece.address + a.piece.count < 18446744073709551616 → Skipping chain a n a n
skipping_first chain a n s h l = record { pieces = refl; ccws = s; few = h; low = l; end = refl }

module _ (chain : List ℕ) (a : Area) (n : ℕ) (area : Area) (left : ℕ) (h : Skipping chain a n area left) where
  pub skipping_more : area.piece.count < left → area.next < area.end
  skipping_more l = more_pieces chain area left h.few l

  pub skipping_next : (r : Area) → area_of chain r ≡ later_of chain area → Stands chain r → PieceFits r.piece → r.end ≡ area.end → area.piece.count < left → Skipping chain a n r (left - area.piece.count)
  skipping_next r e s f g l = record {
    pieces = rw e (sym (beyond_next area.piece (later_of chain area) left l) ∙ h.pieces);
    ccws = s;
    few = behind_first area.piece (later_of chain area) (area_of chain r) left e h.few;
    low = omega (arith, f.address, f.count);
    end = g ∙ h.end;
  }

  pub skipping_end : (r : Area) → r ≡ record { piece = trimmed area.piece left; next = area.next; end = area.end } → left ≤ area.piece.count → Rest chain a n r
  skipping_end r e l = record {
    pieces = rw e (sym (beyond_here area.piece (later_of chain area) left l) ∙ h.pieces);
    ccws = rw e (record { order = h.ccws.order; lent = h.ccws.lent; small = omega (arith, h.ccws.small) });
    end = rw e h.end;
  }
