-- One piece more, of what is gathered and of what is scattered. No contract cites this file.
--     more_pieces, behind_first   where more bytes are left than the first piece has: another is there, and those behind it have the others
--     area_more, area_next        the same of an area in main storage
--     gathered_turn, gathered_end, scattered_turn
--                                 the bytes of a piece, and of the last that is gathered
use Prim.Native.Nat.{ℕ, ◌+◌, ◌-◌, ◌≤◌, ◌<◌}
use mathlib.Core.Path.{◌≡◌, refl, sym, ap, ◌∙◌}
use mathlib.Core.List.{List, ◌∷◌}
use lib.ListN.{length, take, drop}
use native.Mathlib.Decide.{dec_le}
use native.Mathlib.Omega.{arith}
use Rattle.slices.specs.Parts.{part, put}
use Rattle.slices.proofs.Laws.{length_part, put_more}
use Rattle.model.specs.declared.ccw.Piece.{Piece}
use Rattle.model.specs.declared.decoded.Area.{Area}
use Rattle.model.specs.Pieces.{counts, bytes_in, scattered}
use Rattle.model.specs.Decoded.{pieces_from, later_of, area_of, Stands}
use Rattle.model.specs.Safe.{InArea}
use Rattle.model.proofs.Pieces.{inside_same}
use Rattle.storage.proofs.Laws.{inside_of, gathered_here, gathered_next}

-- where more bytes are left than the first piece has, another is behind it
pub more_pieces : (chain : List ℕ) (a : Area) (n : ℕ) → n ≤ counts (area_of chain a) → a.piece.count < n → a.next < a.end
unfolding counts pieces_from
more_pieces chain a n h l = elim (dec_le a.end a.next) [
  | yes g ↦
      let none : a.end - a.next ≡ 0 = omega (arith, g) in
      absurd (omega (arith, l, rw none at h))
  | no g ↦ omega (arith, g)
]

pub behind_first : (p : Piece) (ps qs : List Piece) (n : ℕ) → qs ≡ ps → n ≤ counts (p ∷ ps) → n - p.count ≤ counts qs
unfolding counts
behind_first p ps qs n e h = rw e (omega (arith, h))

-- of an area that has n bytes, more than its first piece, the others are behind that piece, also in a main storage as long
module _ (chain : List ℕ) (area : Area) (main : List ℕ) (n : ℕ) (h : InArea chain area main n) (l : area.piece.count < n) where
  pub area_more : area.next < area.end
  area_more = more_pieces chain area n h.left l

  pub area_next : (main' : List ℕ) (r : Area) → area_of chain r ≡ later_of chain area → Stands chain r → length main ≡ length main' → InArea chain r main' (n - area.piece.count)
  area_next main' r e s same = record {
    ccws = s;
    inside = inside_of (area_of chain r) (later_of chain area) main' e (inside_same (later_of chain area) main main' same h.inside.1);
    left = behind_first area.piece (later_of chain area) (area_of chain r) n e h.left;
  }

-- `to` is what was gathered so far, `back` with the piece's bytes
module _ (p : Piece) (ps : List Piece) (main to back : List ℕ) (n done : ℕ) (inside : p.address + p.count ≤ length main) where
  pub gathered_turn : (qs : List Piece) → qs ≡ ps → back ≡ put to done (take p.count (drop p.address main)) → p.count < n - done → n ≤ length to
      → put back (done + p.count) (take (n - (done + p.count)) (bytes_in qs main)) ≡ put to done (take (n - done) (bytes_in (p ∷ ps) main))
  unfolding part
  gathered_turn qs e f l m =
      let first = part main p.address p.count in
      let long : length first ≡ p.count = length_part main p.address p.count inside in
      let less : n - (done + p.count) ≡ n - done - p.count = omega arith in
      rw (e, f, less, gathered_next p ps (n - done) main inside (omega (arith, l)))
      (ap (λ (k : ℕ). put (put to done first) (done + k) (take (n - done - p.count) (bytes_in ps main))) (sym long) ∙ put_more to done first _ (omega (arith, l, m)))

  pub gathered_end : back ≡ put to done (take (n - done) (drop p.address main)) → n - done ≤ p.count → back ≡ put to done (take (n - done) (bytes_in (p ∷ ps) main))
  unfolding part
  gathered_end f l = rw (gathered_here p ps (n - done) main inside l) f

-- `main` is main storage before the piece, `back` behind it
pub scattered_turn : (p : Piece) (ps qs : List Piece) (main back bytes : List ℕ) → qs ≡ ps → back ≡ put main p.address (take p.count bytes)
    → scattered qs back (drop p.count bytes) ≡ scattered (p ∷ ps) main bytes
unfolding scattered
scattered_turn p ps qs main back bytes e f = rw (e, f) refl
