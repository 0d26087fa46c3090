-- The command that a CCW begins: a run of CCWs with flag 80, and the one behind them.
--     Runs                      the CCWs from one up to the one before another have flag 80; runs_one, runs_more   none, and one more
--     run_command               so these and that other one, which lacks the flag, are one command
--     closes_start, closes_next a chain that cause 5 does not refuse ends; it still does behind a CCW that another follows
--     pieces_first              the pieces of some CCWs: the first of them, and the rest
--     counts_last, final_last   the sum of the counts, and the last piece, of a run with one more
-- No contract cites this file.
use Prim.Native.Nat.{ℕ, zero, suc, ◌+◌, ◌-◌, ◌*◌, ◌≤◌, ◌<◌}
use mathlib.Core.Path.{◌≡◌, refl, sym, ap, ◌∙◌}
use mathlib.Core.Bool.{Bool, true, false, false≢true}
use mathlib.Core.List.{List, ◌∷◌}
use lib.ListN.{length}
use native.Mathlib.Omega.{arith}
use native.Mathlib.Decide.{dec_le}
use Rattle.numbers.proofs.Choice.{pick_true, pick_false}
use Rattle.numbers.proofs.Joined.{both_false}
use Rattle.model.specs.Names.{chain_data}
use Rattle.model.specs.Lent.{ccw_size, code_at, piece_at, flag}
use Rattle.model.specs.Pieces.{begins, continues, commands_from, counts, final_of}
use Rattle.model.specs.Causes.{followed, all_chained}
use Rattle.model.specs.Decoded.{pieces_from}
use Rattle.model.specs.Safe.{Closes}

module _ (chain : List ℕ) where
  -- CCW e - 1 is the last that was read, and it may or may not have the flag
  abbrev pub Runs : ℕ → ℕ → Type 0
  Runs i e = (j : ℕ) → i ≤ j → j + 1 < e → flag (piece_at chain j) chain_data ≡ true

  pub runs_one : (i : ℕ) → Runs i (i + 1)
  runs_one i j a b = absurd (omega (arith, a, b))

  pub runs_more : (i e : ℕ) → Runs i e → flag (piece_at chain (e - 1)) chain_data ≡ true → Runs i (e + 1)
  runs_more i e r f j a b = elim (dec_le (j + 2) e) [
    | yes h ↦ r j a (omega (arith, h))
    | no h ↦ let here : j ≡ e - 1 = omega (arith, h, b) in rw here f
  ]

  -- a CCW without the flag is a command, or the last of one
  last_one : (n i : ℕ) → flag (piece_at chain i) chain_data ≡ false → commands_from chain (suc n) i ≡ begins (code_at chain i) (piece_at chain i) (commands_from chain n (i + 1))
  unfolding commands_from
  last_one n i f = pick_false _ _ _ f

  one_more : (n i : ℕ) → flag (piece_at chain i) chain_data ≡ true → commands_from chain (suc n) i ≡ continues (code_at chain i) (piece_at chain i) (commands_from chain n (i + 1))
  unfolding commands_from
  one_more n i f = pick_true _ _ _ f

  -- k CCWs with flag 80, one more, which is the one before e, and m behind it
  run_of : (k n m i e : ℕ) → n ≡ k + m → e ≡ i + 1 + k → Runs i e → flag (piece_at chain (e - 1)) chain_data ≡ false
      → commands_from chain (suc n) i ≡ record { command = code_at chain i; first = piece_at chain i; later = pieces_from chain (i + 1) k } ∷ commands_from chain m e
  unfolding pieces_from continues
  run_of zero n m i e a b r s =
      let here : e ≡ i + 1 = omega (arith, b) in
      let last : e - 1 ≡ i = omega (arith, b) in
      let all : n ≡ m = omega (arith, a) in
      rw (all, here) (last_one m i (rw last at s))
  run_of (suc k) zero m i e a b r s = absurd (omega (arith, a))
  run_of (suc k) (suc n) m i e a b r s =
      rw (one_more (suc n) i (r i (omega arith) (omega (arith, b))), run_of k n m (i + 1) e (omega (arith, a)) (omega (arith, b)) (λ j l. r j (omega (arith, l))) s) refl

  pub run_command : (i e n : ℕ) → i < e → e ≤ n → Runs i e → flag (piece_at chain (e - 1)) chain_data ≡ false
      → commands_from chain (n - i) i ≡ record { command = code_at chain i; first = piece_at chain i; later = pieces_from chain (i + 1) (e - (i + 1)) } ∷ commands_from chain (n - e) e
  run_command i e n a b r s =
      let all : n - i ≡ suc (n - i - 1) = omega (arith, a, b) in
      rw all (run_of (e - (i + 1)) (n - i - 1) (n - e) i e (omega (arith, a, b)) (omega (arith, a, b)) r s)

  -- where the chain ends

  pub closes_start : (n : ℕ) → n * ccw_size ≤ length chain → all_chained chain n ≡ false → Closes chain 0
  unfolding all_chained
  closes_start zero h e = absurd (false≢true (sym e))
  closes_start (suc n) h e = here (followed (piece_at chain n)) refl (closes_start n (omega (arith, h)))
    where
      here : (b : Bool) → followed (piece_at chain n) ≡ b → (all_chained chain n ≡ false → Closes chain 0) → Closes chain 0
      here true f before = before (both_false _ _ e f)
      here false f before = record { last = n; from = omega arith; lent = omega (arith, h); unfollowed = f }

  pub closes_next : (i : ℕ) → Closes chain i → followed (piece_at chain i) ≡ true → Closes chain (i + 1)
  closes_next i c f = elim (dec_le (i + 1) c.last) [
    | yes h ↦ record { last = c.last; from = h; lent = c.lent; unfollowed = c.unfollowed }
    | no h ↦ let here : i ≡ c.last = omega (arith, h, c.from) in absurd (false≢true (sym c.unfollowed ∙ rw here at f))
  ]

  -- the pieces of CCWs i up to the one before e: the first of them, and one more at the end

  pub pieces_first : (i e : ℕ) → i < e → pieces_from chain i (e - i) ≡ piece_at chain i ∷ pieces_from chain (i + 1) (e - (i + 1))
  unfolding pieces_from
  pieces_first i e h = let some : e - i ≡ suc (e - (i + 1)) = omega (arith, h) in rw some refl

  counts_next : (k i : ℕ) → counts (pieces_from chain i (suc k)) ≡ counts (pieces_from chain i k) + (piece_at chain (i + k)).count
  unfolding pieces_from counts
  counts_next zero i = let e : i + 0 ≡ i = omega arith in rw e (omega arith)
  counts_next (suc k) i =
      let rest = counts_next k (i + 1) in
      let e : i + suc k ≡ i + 1 + k = omega arith in
      rw e (omega (arith, rest))

  pub counts_last : (i e : ℕ) → i ≤ e → counts (pieces_from chain i (e + 1 - i)) ≡ counts (pieces_from chain i (e - i)) + (piece_at chain e).count
  counts_last i e h =
      let more : e + 1 - i ≡ suc (e - i) = omega (arith, h) in
      let here : i + (e - i) ≡ e = omega (arith, h) in
      rw more (rw here at (counts_next (e - i) i))

  final_next : (k i : ℕ) → final_of (piece_at chain i) (pieces_from chain (i + 1) k) ≡ piece_at chain (i + k)
  unfolding pieces_from final_of
  final_next zero i = let e : i + 0 ≡ i = omega arith in rw e refl
  final_next (suc k) i = final_next k (i + 1) ∙ ap (piece_at chain) (omega arith)

  pub final_last : (i e : ℕ) → i < e → final_of (piece_at chain i) (pieces_from chain (i + 1) (e - (i + 1))) ≡ piece_at chain (e - 1)
  final_last i e h = final_next (e - (i + 1)) i ∙ ap (piece_at chain) (omega (arith, h))
