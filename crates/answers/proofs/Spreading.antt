-- Laws of bytes over the pieces of an area, one turn of `spread_leaving` after the other.
--     Unreached                        what holds between two turns; unreached_none, unreached_more   it begins so, and goes on so
--     last_there, first_there          it ends in what `spread_leaving` says, at a piece behind the first and at the first
-- No contract cites this file.
use Prim.Native.Nat.{ℕ, zero, suc, ◌+◌, ◌-◌, ◌≤◌, ◌<◌}
use mathlib.Core.Path.{◌≡◌, refl, sym, ap, ◌∙◌}
use mathlib.Core.List.{List, [], ◌∷◌}
use native.Mathlib.Omega.{arith}
use borrow.Author.Tests.{lt-ltb, le-ltb}
use Rattle.numbers.proofs.Choice.{pick_true, pick_false}
use Rattle.model.specs.declared.ccw.Piece.{Piece}
use Rattle.model.specs.declared.decoded.Area.{Area}
use Rattle.model.specs.Lent.{piece_at}
use Rattle.model.specs.Pieces.{Spread, spread, counts}
use Rattle.model.specs.Decoded.{pieces_from, Stands, area_of}
use Rattle.model.proofs.Runs.{counts_last}
use Rattle.answers.specs.Reached.{spread_leaving}

-- of a piece, and those behind it

first_holds : (p q : Piece) (qs : List Piece) (n : ℕ) → n ≤ p.count → spread p (q ∷ qs) n ≡ record { filled = 0; residual = p.count - n }
unfolding spread
first_holds p q qs n h = pick_false _ _ _ (le-ltb _ _ h)

first_filled : (p q : Piece) (qs : List Piece) (n : ℕ) → p.count < n
    → spread p (q ∷ qs) n ≡ record { filled = 1 + (spread q qs (n - p.count)).filled; residual = (spread q qs (n - p.count)).residual }
unfolding spread
first_filled p q qs n h = pick_true _ _ _ (lt-ltb _ _ h)

module _ (chain : List ℕ) where
  -- the last of k + 1 pieces behind one is not reached, or it is the last that is

  not_reached : (k i : ℕ) (p : Piece) (n : ℕ) → n ≤ counts (p ∷ pieces_from chain i k) → spread p (pieces_from chain i (suc k)) n ≡ spread p (pieces_from chain i k) n
  unfolding pieces_from spread counts
  not_reached zero i p n h = first_holds p (piece_at chain i) [] n (omega (arith, h))
  not_reached (suc k) i p n h = rw (not_reached k (i + 1) (piece_at chain i) (n - p.count) (omega (arith, h))) refl

  last_reached : (k i : ℕ) (p : Piece) (n : ℕ) → counts (p ∷ pieces_from chain i k) < n
      → spread p (pieces_from chain i (suc k)) n ≡ record { filled = suc k; residual = counts (p ∷ pieces_from chain i (suc k)) - n }
  unfolding pieces_from counts spread
  last_reached zero i p n h =
      let r : (piece_at chain i).count - (n - p.count) ≡ p.count + ((piece_at chain i).count + 0) - n = omega (arith, h) in
      first_filled p (piece_at chain i) [] n (omega (arith, h)) ∙ ap (λ (m : ℕ). record { filled = 1; residual = m }) r
  last_reached (suc k) i p n h =
      let q : Piece = piece_at chain i in
      let e = last_reached k (i + 1) q (n - p.count) (omega (arith, h)) in
      let f : 1 + suc k ≡ suc (suc k) = omega arith in
      let r : counts (q ∷ pieces_from chain (i + 1) (suc k)) - (n - p.count) ≡ p.count + counts (q ∷ pieces_from chain (i + 1) (suc k)) - n = omega (arith, h) in
      first_filled p q (pieces_from chain (i + 1) (suc k)) n (omega (arith, h)) ∙ rw e (λ j. record { filled = f j; residual = r j })

module _ (chain : List ℕ) (a : Area) (left : ℕ) where
  -- the area's pieces up to a CCW
  abbrev up_to : ℕ → List Piece
  up_to end = pieces_from chain a.next (end - a.next)

  -- all but what is left of the counts
  abbrev moved : ℕ
  moved = counts (area_of chain a) - left

  -- the pieces behind `end` are not reached, and `over` bytes are left of the counts of those before it
  pub record Unreached (end over : ℕ) : Type 0 where
    pub from : a.next ≤ end
    pub to : end ≤ a.end
    pub sum : moved + over ≡ counts (a.piece ∷ up_to end)
    pub same : spread_leaving chain a left ≡ spread a.piece (up_to end) moved

  -- what `spread_leaving` says when it ends
  abbrev pub Spreads : ℕ → ℕ → Type 0
  Spreads filled residual =
      ((filled ≡ (spread_leaving chain a left).filled) × (residual ≡ (spread_leaving chain a left).residual)) × ((filled ≤ a.end - a.next) × (residual < 65536))

  pub unreached_none : Stands chain a → left ≤ counts (area_of chain a) → Unreached a.end left
  unreached_none s h = record { from = s.order; to = omega arith; sum = omega (arith, h); same = refl }

  module _ (end over : ℕ) (b : Unreached end over) where
    -- of the pieces before `end`, the last one and those before it
    split : a.next < end → end - a.next ≡ suc (end - 1 - a.next)
    split h = omega (arith, h)

    split_counts : a.next < end → counts (up_to end) ≡ counts (up_to (end - 1)) + (piece_at chain (end - 1)).count
    split_counts h = let all : end - 1 + 1 ≡ end = omega (arith, h) in rw all at (counts_last chain a.next (end - 1) (omega (arith, h)))

    pub unreached_more : a.next < end → (piece_at chain (end - 1)).count ≤ over → Unreached (end - 1) (over - (piece_at chain (end - 1)).count)
    unfolding counts
    unreached_more h l =
        let sum : moved + (over - (piece_at chain (end - 1)).count) ≡ a.piece.count + counts (up_to (end - 1)) = omega (arith, b.sum, split_counts h, l) in
        record {
          from = omega (arith, h);
          to = omega (arith, b.to);
          sum = sum;
          same = b.same ∙ rw (split h) (not_reached chain (end - 1 - a.next) a.next a.piece moved (omega (arith, sum)));
        }

    ends : (filled residual : ℕ) → filled ≤ a.end - a.next → residual < 65536 → spread a.piece (up_to end) moved ≡ record { filled = filled; residual = residual } → Spreads filled residual
    ends filled residual f r e = (
      (sym (ap (λ (s : Spread). s.filled) (b.same ∙ e)), sym (ap (λ (s : Spread). s.residual) (b.same ∙ e))),
      (f, r),
    )

    pub last_there : a.next < end → (piece_at chain (end - 1)).count < 65536 → over < (piece_at chain (end - 1)).count → Spreads (end - a.next) over
    unfolding counts
    last_there h small l =
        let beyond : counts (a.piece ∷ up_to (end - 1)) < moved = omega (arith, b.sum, split_counts h, l) in
        let e = rw (← (split h)) at (last_reached chain (end - 1 - a.next) a.next a.piece moved beyond) in
        let r : counts (a.piece ∷ up_to end) - moved ≡ over = omega (arith, b.sum) in
        ends (end - a.next) over (omega (arith, b.to)) (omega (arith, small, l)) (rw r at e)

    pub first_there : Stands chain a → end ≤ a.next → Spreads 0 over
    unfolding pieces_from spread counts
    first_there s h =
        let none : end - a.next ≡ 0 = omega (arith, h) in
        let sum : moved + over ≡ a.piece.count + 0 = rw none at b.sum in
        let r : a.piece.count - moved ≡ over = omega (arith, sum) in
        ends 0 over (omega arith) (omega (arith, sum, s.small)) (rw (none, r) refl)
