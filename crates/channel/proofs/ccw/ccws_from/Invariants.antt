-- `ccw::ccws_from` meets its contract: the CCWs read so far are a run with flag 80, and with the one that ends it they are one command
use Prim.Native.Nat.{ℕ, ◌+◌, ◌-◌, ◌*◌, ◌/◌, ◌≤◌, ◌<◌}
use mathlib.Core.Path.{◌≡◌, refl, ap, ◌∙◌}
use mathlib.Core.Bool.{true, false, ◌||◌, or-true}
use mathlib.Core.List.{List, ◌∷◌}
use lib.ListN.{length}
use native.Mathlib.Omega.{arith}
use Rattle.numbers.specs.Bits.{bit}
use Rattle.model.specs.declared.ccw.Flags.{Flags}
use Rattle.model.specs.declared.ccw.Piece.{Piece}
use Rattle.model.specs.Names.{chain_data, chain_command}
use Rattle.model.specs.Lent.{ccw_size, code_at, piece_at, flag}
use Rattle.model.specs.Pieces.{commands_from, counts, final_of}
use Rattle.model.specs.Decoded.{pieces_from}
use Rattle.model.specs.Safe.{Closes}
use Rattle.model.proofs.Runs.{Runs, runs_one, runs_more, run_command, closes_next, counts_last, final_last}
use Rattle.channel.proofs.ccw.ccws_from.Given as goal

pub record Read (chain : List ℕ) (i : ℕ) (first : ℕ) (flags : Flags) (count end : ℕ) : Type 0 where
  pub some : i < end
  pub closes : Closes chain (end - 1)
  pub run : Runs chain i end
  pub last : flags ≡ (piece_at chain (end - 1)).flags
  pub sum : count ≡ first + counts (pieces_from chain (i + 1) (end - (i + 1)))
  pub few : count ≤ (end - i) * 65535

pub begun : (chain : List ℕ) (i : ℕ) (p : Piece) → p ≡ piece_at chain i → p.count < 65536 → Closes chain i → Read chain i p.count p.flags p.count (i + 1)
unfolding pieces_from counts
begun chain i p e small closes =
    let here : i + 1 - 1 ≡ i = omega arith in
    let alone : i + 1 - (i + 1) ≡ 0 = omega arith in
    record {
      some = omega arith;
      closes = rw here closes;
      run = runs_one chain i;
      last = rw (here, e) refl;
      sum = rw alone (omega arith);
      few = omega (arith, small);
    }

module _ {chain : List ℕ} {i first : ℕ} {flags : Flags} {count end : ℕ} (r : Read chain i first flags count end) where
  pub in_chain : end * ccw_size ≤ length chain
  in_chain = omega (arith, r.some, r.closes.from, r.closes.lent)

  -- another CCW follows the last one
  pub goes_on : (bit flags.0 chain_data || bit flags.0 chain_command) ≡ true → Closes chain end
  unfolding flag
  goes_on f =
      let behind : end - 1 + 1 ≡ end = omega (arith, r.some) in
      rw behind at (closes_next chain (end - 1) r.closes (rw r.last at f))

  pub continues : bit flags.0 chain_data ≡ true → Closes chain end
  continues on = goes_on (rw on refl)

  pub chains : bit flags.0 chain_command ≡ true → Closes chain end
  chains on = goes_on (rw on (or-true (bit flags.0 chain_data)))

  pub more : (p : Piece) → bit flags.0 chain_data ≡ true → p ≡ piece_at chain end → p.count < 65536 → Read chain i first p.flags (count + p.count) (end + 1)
  unfolding flag
  more p on e small =
      let here : end + 1 - 1 ≡ end = omega arith in
      record {
        some = omega (arith, r.some);
        closes = rw here (continues on);
        run = runs_more chain i end r.run (rw r.last at on);
        last = rw (here, e) refl;
        sum = omega (arith, r.sum, counts_last chain (i + 1) end (omega (arith, r.some)), ap (λ (q : Piece). q.count) e);
        few = omega (arith, r.few, r.some, small);
      }

  pub flags-last : (p : Piece) → p ≡ piece_at chain i → flags ≡ (final_of p (pieces_from chain (i + 1) (end - (i + 1)))).flags
  flags-last p e = r.last ∙ rw (e, final_last chain i end r.some) refl

  pub all : (p : Piece) → p ≡ piece_at chain i → bit flags.0 chain_data ≡ false
      → commands_from chain (length chain / ccw_size - i) i ≡ record { command = code_at chain i; first = p; later = pieces_from chain (i + 1) (end - (i + 1)) } ∷ commands_from chain (length chain / ccw_size - end) end
  unfolding flag
  all p e off = rw e (run_command chain i end (length chain / ccw_size) r.some (omega (arith, in_chain)) r.run (rw r.last at off))

abbrev pub invariant-loop-flags : goal.invariant-loop-flags
invariant-loop-flags l = Read l.chain l.i l.initial.count l.flags l.count l.end

abbrev pub decreases-loop-flags : goal.decreases-loop-flags
decreases-loop-flags l = length l.chain - l.end
