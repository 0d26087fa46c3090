-- Laws of a data area's pieces. No contract cites this file.
--     gathered_here, scattered_here   no more bytes than the first piece has
--     gathered_next, scattered_next   more than that: the first piece, and the bytes behind it
--     scattered_none                  no byte
--     inside_of                       pieces that are the same lie where these lie
--     length_taken                    as many bytes as are asked for
--     fetched_array                   what an array of zeros holds that n bytes were fetched into
use Prim.Native.Nat.{ℕ, ◌+◌, ◌-◌, ◌≤◌}
use mathlib.Core.Path.{◌≡◌, refl, sym, ap, ◌∙◌}
use mathlib.Core.List.{List, [], ◌∷◌, ◌++◌}
use lib.ListN.{length, take, drop, drop_of_length-le}
use lib.Seq.{take-take, take-nil, drop-nil, take_all, length-take-le, take-append-le, take-append-add}
use native.Mathlib.Omega.{arith}
use Rattle.slices.specs.Parts.{zeros, part, put}
use Rattle.slices.proofs.Laws.{length_zeros, length_part, put_all, put_nil, drop_take}
use Rattle.model.specs.declared.ccw.Piece.{Piece}
use Rattle.model.specs.Pieces.{counts, bytes_in, scattered}
use Rattle.model.specs.Safe.{Inside}
use Rattle.model.proofs.Pieces.{length_gathered}

-- the first piece, and those behind it

pub scattered_none : (ps : List Piece) (main : List ℕ) → scattered ps main [] ≡ main
unfolding scattered
scattered_none [] main = refl
scattered_none (p ∷ ps) main = rw (take-nil p.count, drop-nil p.count, put_nil main p.address) (scattered_none ps main)

module _ (p : Piece) (ps : List Piece) (n : ℕ) (main : List ℕ) (inside : p.address + p.count ≤ length main) where
  pub gathered_here : n ≤ p.count → take n (bytes_in (p ∷ ps) main) ≡ part main p.address n
  unfolding bytes_in part
  gathered_here h =
      let long = length_part main p.address p.count inside in
      take-append-le n (part main p.address p.count) (bytes_in ps main) (omega (arith, long, h)) ∙ take-take n p.count (drop p.address main) h

  pub gathered_next : p.count ≤ n → take n (bytes_in (p ∷ ps) main) ≡ part main p.address p.count ++ take (n - p.count) (bytes_in ps main)
  unfolding bytes_in
  gathered_next h =
      let first = part main p.address p.count in
      let e : n ≡ length first + (n - p.count) = rw (length_part main p.address p.count inside) (omega (arith, h)) in
      ap (λ (k : ℕ). take k (first ++ bytes_in ps main)) e ∙ take-append-add first (bytes_in ps main) (n - p.count)

pub scattered_here : (p : Piece) (ps : List Piece) (main bytes : List ℕ) → length bytes ≤ p.count → scattered (p ∷ ps) main bytes ≡ put main p.address bytes
unfolding scattered
scattered_here p ps main bytes h = rw (take_all p.count bytes h, drop_of_length-le bytes {i = p.count} h) (scattered_none ps _)

pub scattered_next : (p : Piece) (ps : List Piece) (n : ℕ) (main bytes : List ℕ) → p.count ≤ n
    → scattered (p ∷ ps) main (take n bytes) ≡ scattered ps (put main p.address (take p.count bytes)) (take (n - p.count) (drop p.count bytes))
unfolding scattered
scattered_next p ps n main bytes h = rw (take-take p.count n bytes h, drop_take p.count n bytes) refl

pub inside_of : (ps qs : List Piece) (main : List ℕ) → ps ≡ qs → Inside qs main → Inside ps main
inside_of ps qs main e h = rw e h

pub length_taken : (ps : List Piece) (main : List ℕ) (n : ℕ) → Inside ps main → n ≤ counts ps → length (take n (bytes_in ps main)) ≡ n
length_taken ps main n i l = length-take-le n _ (rw (length_gathered ps main i) l)

pub fetched_array : (ps : List Piece) (main : List ℕ) (n : ℕ) (p : List ℕ) → p ≡ put (zeros n) 0 (take n (bytes_in ps main)) → Inside ps main → n ≤ counts ps → p ≡ take n (bytes_in ps main)
fetched_array ps main n p e i l = e ∙ put_all _ _ (length_taken ps main n i l ∙ sym (length_zeros n))
