-- The call keeps bytes bytes, and each answer holds its numbers whole.
--     answer_holds   the eight bytes of an answer are bytes; residual and blocks moved are what its two bytes say
--     IsLent         a unit record, and bytes, in a system
--     call_bytes     a call that was lent a unit record and bytes gives back a unit record and bytes
-- Assumes nothing.
use Prim.Native.Nat.{ℕ, zero, suc, ◌+◌, ◌/◌, ◌≤◌, ◌<◌}
use mathlib.Core.Path.{◌≡◌, refl}
use mathlib.Core.List.{List}
use lib.ListN.{length, get_or}
use native.Mathlib.Nat.{not-suc-le-zero, div-zero}
use native.Mathlib.Omega.{arith}
use borrow.Author.Tests.{eqb-true}
use Rattle.numbers.specs.Bytes.{AreBytes}
use Rattle.numbers.specs.Big.{be2}
use Rattle.numbers.proofs.Bytes.{bytes_nil, bytes_cons, bytes_append}
use Rattle.numbers.proofs.Big.{bytes2_are, bytes2_hold}
use Rattle.slices.proofs.Laws.{bytes_zeros, bytes_put}
use Rattle.model.specs.declared.record.Record.{Record}
use Rattle.model.specs.declared.device.Device.{Device}
use Rattle.model.specs.State.{Done}
use Rattle.model.specs.Rules.{first_of}
use Rattle.model.specs.Alternates.{map_entries, map_size}
use Rattle.model.specs.Lent.{store_blocks, block_count}
use Rattle.model.specs.Pieces.{Command, pieces, commands_in, command_at}
use Rattle.model.specs.Causes.{call_causes, kind_of}
use Rattle.model.specs.Names.{residual_at, cause_at, blocks_at}
use Rattle.model.specs.Answer.{channel_status, residual, answer_of, answers_of, wrong_length}
use Rattle.model.specs.Chain.{System, system, step_at, next, run, start, Called, called, call_of}
use Rattle.numbers.proofs.Choice.{pick_ind}
use Rattle.model.proofs.Pieces.{SmallCounts, spread_small, command_small}
use Rattle.model.proofs.Leaving.{status_byte, channel_byte}
use Rattle.model.proofs.Endings.{callable}
use Rattle.model.proofs.Fields.{Sized, IsRecord, step_fields}

-- an answer

pub record Holds (c : Command) (d : Done) : Type 0 where
  pub are_bytes : AreBytes (answer_of c d)
  pub residual_whole : be2 (answer_of c d) residual_at ≡ residual c d
  pub cause_whole : get_or (answer_of c d) cause_at 0 ≡ d.cause
  pub blocks_whole : be2 (answer_of c d) blocks_at ≡ d.blocks

pub answer_holds : (c : Command) (d : Done) → SmallCounts (pieces c) → d.cause < 256 → d.blocks < 65536 → Holds c d
unfolding answer_of channel_status residual
answer_holds c d n w b =
    record {
      are_bytes =
          bytes_append _ _ (bytes_append _ _ (bytes_append _ _
          (bytes_cons _ _ (status_byte (kind_of d.cause)) (bytes_cons _ _ (channel_byte (kind_of d.cause) (wrong_length c d.can)) bytes_nil))
          (bytes2_are _)) (bytes_cons _ _ w (bytes_cons _ _ (omega arith) bytes_nil))) (bytes2_are _);
      residual_whole = bytes2_hold _ (spread_small c.first c.later d.moved n);
      cause_whole = refl;
      blocks_whole = bytes2_hold d.blocks b;
    }

-- a piece that is filled is answered by zeros
answers_bytes : (c : Command) (d : Done) → AreBytes (answer_of c d) → AreBytes (answers_of c d)
unfolding answers_of
answers_bytes c d b = bytes_append _ _ (bytes_zeros _) b

-- a chain

pub record IsLent (y : System) : Type 0 where
  pub unit_fields : IsRecord y.state.unit
  pub map_fields : Sized map_size y.state.map
  pub main_bytes : AreBytes y.main
  pub store_bytes : AreBytes y.store
  pub answers_bytes : AreBytes y.answers
  pub located_fits : y.state.located.blocks < 65536

module _ (dev : Device) (chain : List ℕ) (h : 1 ≤ dev.block) (few : dev.alternates ≤ map_entries) (b : AreBytes chain) where
  pub next_bytes : (i : ℕ) (y : System) → IsLent y → IsLent (next dev chain i y)
  unfolding next step_at
  next_bytes i y l =
      let c : Command = command_at chain i in
      let f = step_fields dev c y.state y.main y.store h few l.unit_fields l.map_fields l.main_bytes l.store_bytes l.located_fits in
      let n = command_small chain i b in
      record {
        unit_fields = f.unit_fields;
        map_fields = f.map_fields;
        main_bytes = f.main_bytes;
        store_bytes = f.store_bytes;
        answers_bytes = bytes_put y.answers _ _ l.answers_bytes (answers_bytes c _ (answer_holds c _ n f.cause_byte f.blocks_fit).are_bytes);
        located_fits = f.located_fits;
      }

  run_bytes : (n i : ℕ) (y : System) → IsLent y → IsLent (run dev chain n i y)
  unfolding run
  run_bytes zero i y l = l
  run_bytes (suc n) i y l =
      let k = next_bytes i y l in
      pick_ind IsLent _ _ _ (λ _. run_bytes n (i + 1) (next dev chain i y) k) (λ _. k)

-- the call

pub some_size : (dev : Device) (store : List ℕ) → 1 ≤ block_count dev store → 1 ≤ dev.block
unfolding block_count store_blocks
some_size dev store h = go dev.block (omega (arith, h))
  where
    go : (n : ℕ) → 0 < length store / n → 1 ≤ n
    go zero h = absurd (not-suc-le-zero (rw div-zero at h))
    go (suc n) h = omega arith

pub record GivesBytes (r : Called) : Type 0 where
  pub unit_fields : IsRecord r.unit
  pub map_fields : Sized map_size r.map
  pub main_bytes : AreBytes r.main
  pub store_bytes : AreBytes r.store
  pub answers_bytes : AreBytes r.answers

pub call_bytes : (dev : Device) (chain main store : List ℕ) (u : Record) (map answers : List ℕ)
    → AreBytes chain → AreBytes main → AreBytes store → IsRecord u → Sized map_size map → AreBytes answers
    → GivesBytes (call_of dev chain main store u map answers)
unfolding call_of start
call_bytes dev chain main store u map answers b m d r p a =
    let y : System = system (start u map) main store answers 0 in
    let l : IsLent y = record { unit_fields = r; map_fields = p; main_bytes = m; store_bytes = d; answers_bytes = a; located_fits = omega arith } in
    let gives : (z : System) → IsLent z → GivesBytes (called (first_of (call_causes dev chain main store map answers)) z)
    = λ z k. record { unit_fields = k.unit_fields; map_fields = k.map_fields; main_bytes = k.main_bytes; store_bytes = k.store_bytes; answers_bytes = k.answers_bytes } in
    gives _ (pick_ind IsLent _ _ _
    (λ e.
    let k = callable dev chain main store map answers (eqb-true _ _ e) in
    run_bytes dev chain (some_size dev store k.some_block) k.few_alternates b (length (commands_in chain)) 0 y l)
    (λ _. l))
