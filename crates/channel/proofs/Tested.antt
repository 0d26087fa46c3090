-- The verdict of the channel on an area: the causes of the piece that is tested. No contract cites this file.
--     cause   the verdict
--     here    it is that of the first piece, where that is refused; last   and where no other is behind it
--     next    a piece that passes leaves it to those behind it
use Prim.Native.Nat.{ℕ, ◌-◌, ◌≤◌}
use mathlib.Core.Path.{◌≡◌, refl, sym, ap}
use mathlib.Core.List.{List}
use native.Mathlib.Omega.{arith}
use Rattle.model.specs.declared.ccw.Piece.{Piece}
use Rattle.model.specs.declared.decoded.Area.{Area}
use Rattle.model.specs.Rules.{first_of}
use Rattle.model.specs.Causes.{piece_causes, tested_of}
use Rattle.model.specs.Decoded.{pieces_from, later_of, area_of}
use Rattle.model.proofs.Pieces.{tested_here, tested_next}

abbrev pub cause : List ℕ → ℕ → ℕ → Area → ℕ
cause chain command held a = first_of (piece_causes command held (tested_of command held a.piece (later_of chain a)))

module _ (chain : List ℕ) (command held : ℕ) (a : Area) where
  pub here : (first_of (piece_causes command held a.piece) ≡ 0 → ⊥) → cause chain command held a ≡ first_of (piece_causes command held a.piece)
  here n = ap (λ (p : Piece). first_of (piece_causes command held p)) (tested_here command held a.piece (later_of chain a) n)

  pub last : a.end ≤ a.next → cause chain command held a ≡ first_of (piece_causes command held a.piece)
  unfolding pieces_from tested_of
  last h = let none : a.end - a.next ≡ 0 = omega (arith, h) in rw none refl

  pub next : (r : Area) → area_of chain r ≡ later_of chain a → first_of (piece_causes command held a.piece) ≡ 0 → cause chain command held r ≡ cause chain command held a
  next r e z = sym (ap (λ (p : Piece). first_of (piece_causes command held p)) (rw e at (tested_next command held a.piece r.piece (later_of chain r) z)))
