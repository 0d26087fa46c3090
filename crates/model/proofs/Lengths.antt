-- The buffers keep their lengths: main storage, the store and the answers, whatever the call.
--     delivered_length                       bytes that are stored in main storage
--     step_lengths                           one command
--     Going                                  what holds of a system between two commands of a chain
--     call_lengths                           the call
-- Assumes nothing.
use Prim.Native.Nat.{ℕ, zero, suc, ◌+◌, ◌*◌, ◌≤◌, ◌<◌, min}
use mathlib.Core.Path.{◌≡◌, refl, ◌∙◌}
use mathlib.Core.List.{List}
use lib.ListN.{length, take, length-append}
use native.Mathlib.Omega.{arith}
use borrow.Author.Tests.{eqb-true}
use Rattle.slices.proofs.Laws.{length_zeros, length_put}
use Rattle.model.specs.declared.record.Record.{Record}
use Rattle.model.specs.declared.device.Device.{Device}
use Rattle.model.specs.State.{State, Done}
use Rattle.model.specs.Names.{NO_OPERATION}
use Rattle.model.specs.Rules.{first_of}
use Rattle.model.specs.Lent.{block_count}
use Rattle.model.specs.Pieces.{Command, pieces, commands_in, command_at, total, delivered}
use Rattle.model.specs.Parameters.{writes}
use Rattle.model.specs.Causes.{call_causes}
use Rattle.model.specs.Commands.{Out, out, no_operation, define_extent, locate, sent, sense, sense_type, read_log, read, write, read_ipl, refused, seen, after, step, define_done, ipl_done, locate_done, read_done, write_done}
use Rattle.model.specs.Answer.{answer_size, answer_of, answers_of, answered}
use Rattle.model.specs.Chain.{System, system, step_at, next, run, start, Called, called, call_of}
use Rattle.model.specs.Safe.{Inside, Safe}
use Rattle.numbers.proofs.Choice.{pick_ind}
use Rattle.model.proofs.Pieces.{length_scattered, ccws_left, all_left, next_left}
use Rattle.model.proofs.Blocks.{count_same, blocks_into_length}
use Rattle.model.proofs.Steps.{Admitted, Cases, step_cases}
use Rattle.model.proofs.Endings.{callable}
use Rattle.model.proofs.Safety.{on_device, after_locate, safe_start, step_safe}

pub delivered_length : (c : Command) (main bytes : List ℕ) → Inside (pieces c) main → length (delivered c main bytes) ≡ length main
unfolding delivered
delivered_length c main bytes h = length_scattered (pieces c) main bytes h

-- one command

pub record SameLengths (main store : List ℕ) (o : Out) : Type 0 where
  pub main_length : length o.main ≡ length main
  pub store_length : length o.store ≡ length store

module _ (dev : Device) (c : Command) (s : State) (main store : List ℕ) (h : Safe s (block_count dev store)) where
  lengths_cases : Cases dev c s main store (SameLengths main store)
  unfolding no_operation define_extent define_done locate locate_done sent sense sense_type read_log read read_done write write_done read_ipl ipl_done refused seen after
  lengths_cases =
      let same : (d : Done) → SameLengths main store (out d main store) = λ d. record { main_length = refl; store_length = refl } in
      let moved : (d : Done) (can : ℕ) (bytes : List ℕ) → Admitted c main → (c.command ≡ NO_OPERATION → ⊥)
      → SameLengths main store (out d (delivered c main (take (min (total c) can) bytes)) store)
      = λ d can bytes a x. record { main_length = delivered_length c main _ (a.room x); store_length = refl } in
      record {
        refusal = λ _ _ _. same _;
        no_operation_lem = λ _. same _;
        define_extent_lem = λ _ _ _. same _;
        locate = λ _ _ _. same _;
        read = λ a x _. moved _ _ _ a (λ y. omega arith);
        write = λ _ _ f. record {
          main_length = refl;
          store_length = blocks_into_length dev s.map store _ _ _ (on_device s _ h (after_locate writes s f));
        };
        read_ipl_lem = λ a x _. moved _ _ _ a (λ y. omega arith);
        sense = λ a x. moved _ _ _ a (λ y. omega arith);
        sense_type_lem = λ a x. moved _ _ _ a (λ y. omega arith);
        read_log_lem = λ a x. moved _ _ _ a (λ y. omega arith);
      }

  pub step_lengths : SameLengths main store (step dev c s main store)
  step_lengths = step_cases dev c s main store (SameLengths main store) lengths_cases

-- the chain

-- what holds between two commands of a chain, of the system there and the one that it began with
pub record Going (dev : Device) (first y : System) : Type 0 where
  pub main_length : length y.main ≡ length first.main
  pub store_length : length y.store ≡ length first.store
  pub answers_length : length y.answers ≡ length first.answers
  pub safe : Safe y.state (block_count dev y.store)

pub answer_length : (c : Command) (d : Done) → length (answer_of c d) ≡ answer_size
unfolding answer_of
answer_length c d = refl

pub answers_length : (c : Command) (d : Done) → length (answers_of c d) ≡ answered c d * answer_size
unfolding answers_of answered
answers_length c d = rw (length-append, length_zeros, answer_length) (omega arith)

module _ (dev : Device) (chain : List ℕ) (first : System) (some : 0 < block_count dev first.store) where
  pub next_going : (i : ℕ) (y : System) → i < length (commands_in chain) → (y.reached + ccws_left chain i) * answer_size ≤ length first.answers → Going dev first y
      → Going dev first (next dev chain i y) × (((next dev chain i y).reached + ccws_left chain (i + 1)) * answer_size ≤ length first.answers)
  unfolding next step_at
  next_going i y n h g =
      let c : Command = command_at chain i in
      let l = step_lengths dev c y.state y.main y.store g.safe in
      let more : 0 < block_count dev y.store = rw (count_same dev y.store first.store g.store_length) some in
      let few = next_left chain i (step dev c y.state y.main y.store).done n in (
        record {
          main_length = l.main_length ∙ g.main_length;
          store_length = l.store_length ∙ g.store_length;
          answers_length = length_put y.answers (y.reached * answer_size) _ (rw (answers_length, g.answers_length) (omega (arith, few, h))) ∙ g.answers_length;
          safe = rw (count_same dev _ y.store l.store_length) (step_safe dev c y.state y.main y.store more g.safe);
        },
        omega (arith, few, h),
      )

  pub run_going : (n i : ℕ) (y : System) → i + n ≤ length (commands_in chain) → (y.reached + ccws_left chain i) * answer_size ≤ length first.answers → Going dev first y → Going dev first (run dev chain n i y)
  unfolding run
  run_going zero i y l h g = g
  run_going (suc n) i y l h g =
      let k = next_going i y (omega arith) h g in
      pick_ind (Going dev first) _ _ _ (λ _. run_going n (i + 1) (next dev chain i y) (omega arith) k.1 k.0) (λ _. k.0)

-- the call

pub record SameSizes (main store answers : List ℕ) (r : Called) : Type 0 where
  pub main_length : length r.main ≡ length main
  pub store_length : length r.store ≡ length store
  pub answers_length : length r.answers ≡ length answers

pub call_lengths : (dev : Device) (chain main store : List ℕ) (u : Record) (map answers : List ℕ) → SameSizes main store answers (call_of dev chain main store u map answers)
unfolding call_of
call_lengths dev chain main store u map answers =
    let y : System = system (start u map) main store answers 0 in
    pick_ind (λ (z : System). SameSizes main store answers (called (first_of (call_causes dev chain main store map answers)) z)) _ _ _
    (λ b.
    let k = callable dev chain main store map answers (eqb-true _ _ b) in
    let g = run_going dev chain y k.some_block (length (commands_in chain)) 0 y (omega arith) (omega (arith, k.whole, k.answered, all_left chain))
    (record { main_length = refl; store_length = refl; answers_length = refl; safe = safe_start u map _ }) in
    record { main_length = g.main_length; store_length = g.store_length; answers_length = g.answers_length })
    (λ _. record { main_length = refl; store_length = refl; answers_length = refl })
