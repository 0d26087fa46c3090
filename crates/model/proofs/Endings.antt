-- Demand 1, of endings: every chain ends, and how many answers it gives.
--     right_store    what a store has where cause 2 is not given; callable   and a call, where none of its causes is
--     call_reached   where the call's cause is 0, from one answer to as many as the chain has CCWs; else none
-- Assumes nothing.
use Prim.Native.Nat.{ℕ, zero, suc, ◌+◌, ◌*◌, ◌/◌, ◌%◌, ◌≤◌, ◌<◌, min}
use mathlib.Core.Path.{◌≡◌, refl}
use mathlib.Core.Bool.{false}
use mathlib.Core.List.{List}
use lib.ListN.{length}
use native.Mathlib.Omega.{arith}
use borrow.Author.Tests.{eqb-true, eqb-false, ltb-true, ltb-false, not-false}
use Rattle.model.specs.declared.record.Record.{Record}
use Rattle.model.specs.declared.device.Device.{Device}
use Rattle.model.specs.Rules.{first_of}
use Rattle.model.specs.Alternates.{map_entries, bad_map}
use Rattle.model.specs.Lent.{ccw_size, store_blocks, block_count}
use Rattle.model.specs.Causes.{bad_store, lent_causes, map_causes, call_causes}
use Rattle.model.specs.Pieces.{commands_in}
use Rattle.model.specs.Answer.{answered}
use Rattle.model.specs.Chain.{System, system, step_at, next, run, start, call_of}
use Rattle.numbers.proofs.Choice.{pick_ind}
use Rattle.numbers.proofs.Joined.{either_false}
use Rattle.model.proofs.Verdicts.{failed_all}
use Rattle.model.specs.Safe.{Closes}
use Rattle.model.proofs.Runs.{closes_start}
use Rattle.model.proofs.Pieces.{ccws_left, all_left, some_commands, next_left}

-- what a call is known to have where its cause is 0
pub record Callable (dev : Device) (chain main store map answers : List ℕ) : Type 0 where
  pub some : 1 ≤ length chain / ccw_size
  pub few : length chain / ccw_size ≤ 32
  pub whole : length chain / ccw_size * ccw_size ≡ length chain
  pub stored : length store ≡ 0 → ⊥
  pub even : length store % dev.block ≡ 0
  pub held : store_blocks dev store ≤ 131072
  pub few_alternates : dev.alternates ≤ map_entries
  pub some_block : 1 ≤ block_count dev store
  pub small : length main ≤ 16777216
  pub answered : length chain ≤ length answers
  pub closes : Closes chain 0
  pub right : bad_map map dev.alternates (block_count dev store) ≡ false

-- what a store is known to have where cause 2 is not given
pub record RightStore (dev : Device) (store : List ℕ) : Type 0 where
  pub stored : length store ≡ 0 → ⊥
  pub even : length store % dev.block ≡ 0
  pub held : store_blocks dev store ≤ 131072
  pub few_alternates : dev.alternates ≤ map_entries
  pub some_primary : dev.alternates < store_blocks dev store

pub right_store : (dev : Device) (store : List ℕ) → bad_store dev store ≡ false → RightStore dev store
right_store dev store e =
    let a = either_false _ _ e in
    let b = either_false _ _ a.0 in
    let r = either_false _ _ b.0 in
    let t = either_false _ _ r.0 in
    record {
      stored = eqb-false _ _ t.0;
      even = eqb-true _ _ (not-false _ t.1);
      held = ltb-false _ _ r.1;
      few_alternates = ltb-false _ _ b.1;
      some_primary = ltb-true _ _ (not-false _ a.1);
    }

-- where none of 1 to 5 holds the store has a primary
pub lent_primary : (dev : Device) (chain main store answers : List ℕ) → first_of (lent_causes dev chain main store answers) ≡ 0 → dev.alternates < store_blocks dev store
unfolding lent_causes
lent_primary dev chain main store answers e = (right_store dev store (failed_all 0 (lent_causes dev chain main store answers) refl e).1.0).some_primary

pub callable : (dev : Device) (chain main store map answers : List ℕ) → first_of (call_causes dev chain main store map answers) ≡ 0 → Callable dev chain main store map answers
unfolding call_causes lent_causes map_causes block_count
callable dev chain main store map answers e =
    let f = failed_all 0 (call_causes dev chain main store map answers) refl e in
    let p = either_false _ _ f.0 in
    let q = either_false _ _ p.0 in
    let nonzero = eqb-false (length chain) 0 q.0 in
    let short = ltb-false 256 (length chain) q.1 in
    let eights = eqb-true (length chain % ccw_size) 0 (not-false _ p.1) in
    let k = right_store dev store f.1.0 in
    record {
      some = omega (arith, nonzero);
      few = omega arith;
      whole = omega (arith, eights);
      stored = k.stored;
      even = k.even;
      held = k.held;
      few_alternates = k.few_alternates;
      some_block = omega (arith, k.some_primary);
      small = ltb-false _ _ f.1.1.0;
      answered = ltb-false _ _ f.1.1.1.0;
      closes = closes_start chain (length chain / ccw_size) (omega arith) f.1.1.1.1.0;
      right = f.1.1.1.1.1.0;
    }

-- a run of the n commands from i on gives an answer, where there is one of them, and no more than they have CCWs
pub run_reached : (dev : Device) (chain : List ℕ) (n i : ℕ) (y : System) → i + n ≤ length (commands_in chain)
    → (y.reached + min 1 n ≤ (run dev chain n i y).reached) × ((run dev chain n i y).reached ≤ y.reached + ccws_left chain i)
unfolding run next answered
run_reached dev chain zero i y h = (omega arith, omega arith)
run_reached dev chain (suc n) i y h =
    let few = next_left chain i (step_at dev chain i y).done (omega arith) in
    pick_ind (λ (z : System). (y.reached + min 1 (suc n) ≤ z.reached) × (z.reached ≤ y.reached + ccws_left chain i)) _ _ _
    (λ _.
    let r = run_reached dev chain n (i + 1) (next dev chain i y) (omega arith) in
    (omega (arith, r.0), omega (arith, r.1, few)))
    (λ _. (omega arith, omega (arith, few)))

pub call_reached : (dev : Device) (chain main store : List ℕ) (u : Record) (map answers : List ℕ)
    → ((call_of dev chain main store u map answers).cause ≡ 0 → 1 ≤ (call_of dev chain main store u map answers).reached)
    × ((call_of dev chain main store u map answers).reached ≤ length chain / ccw_size)
unfolding call_of
call_reached dev chain main store u map answers =
    let w : ℕ = first_of (call_causes dev chain main store map answers) in
    let n : ℕ = length (commands_in chain) in
    let y : System = system (start u map) main store answers 0 in
    let r = run_reached dev chain n 0 y (omega arith) in
    let all = all_left chain in
    pick_ind (λ (z : System). (w ≡ 0 → 1 ≤ z.reached) × (z.reached ≤ length chain / ccw_size)) _ _ _
    (λ b. (λ e. let p = some_commands chain (callable dev chain main store map answers e).some in omega (arith, r.0, p), omega (arith, r.1, all)))
    (λ b. (λ e. absurd (eqb-false _ _ b e), omega arith))
