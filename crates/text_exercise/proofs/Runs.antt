-- What a run gave is what is printed. No contract cites this file.
use Prim.Native.Nat.{ℕ, ◌*◌, ◌/◌, ◌%◌, ◌≤◌, ◌<◌}
use native.Mathlib.Nat.{zero-add}
use native.Mathlib.Omega.{arith}
use mathlib.Core.Path.{◌≡◌, refl, sym, ap}
use mathlib.Core.List.{List}
use lib.ListN.{length, take, replicate}
use lib.Seq.{take_at}
use Rattle.std.proofs.lemmas.List.{take-replicate}
use Rattle.model.specs.declared.record.UnitRecord.{UnitRecord}
use Rattle.model.specs.Chain.{Called, call_of}
use Rattle.model.specs.Answer.{answer_size}
use Rattle.model.specs.Host.{result_of}
use Rattle.model.proofs.Endings.{call_reached}
use Rattle.model.proofs.Hosts.{result_reads}
use Rattle.slices.specs.Parts.{put, zeros}
use Rattle.text_input.specs.Input.{most_chain}
use Rattle.text_input.specs.declared.Settings.{Settings}
use Rattle.text_input.specs.Reads.{ReadTo}
use Rattle.text_exercise.specs.Exercise.{device, new_store, new_unit, exercised}
use Rattle.in_place.specs.declared.Ran.{Ran}
use Rattle.in_place.specs.Run.{Outcome, outcome, ByValue}
use Rattle.in_place.proofs.Reached.{reached_few}
use Rattle.text_output.specs.Printout.{printout_of, printout}

-- a run on the device, by value
module _ {u : UnitRecord} {chain main store answers : List ℕ} {w : Ran} {main' store' answers' : List ℕ} (a : ByValue u device.alternates chain main store answers w main' store' answers') where
  abbrev made : Called
  made = call_of device chain main store u.unit u.map answers

  code_is : w.code ≡ result_of made.cause made.reached
  unfolding outcome
  code_is = ap (λ (o : Outcome). o.code) a.is

  few : made.reached < 256
  few = omega (arith, reached_few device.alternates chain main store u.unit u.map answers made refl)

  cause_is : w.code / 256 ≡ made.cause
  cause_is = rw code_is (result_reads _ _ few).0

  reached_is : w.code % 256 ≡ made.reached
  reached_is = rw code_is (result_reads _ _ few).1

  pub told : printout_of (w.code / 256) (w.code % 256) answers' main' w.unit.unit.sense ≡ printout made
  unfolding outcome
  told = λ i. printout_of (cause_is i) (reached_is i) (a.is i).answers (a.is i).storage (a.is i).unit.unit.sense

  -- there is an answer for each command reached
  pub answered : length answers' ≡ length chain → w.code % 256 * answer_size ≤ length answers'
  answered e = rw (reached_is, e) (omega (arith, (call_reached device chain main store u.unit u.map answers).1))

-- a call on a device as the settings have it is what the exercise asks for
pub exercised_is : (s : Settings) (chain main store : List ℕ) (u : UnitRecord) → store ≡ new_store s.blocks → u ≡ new_unit s
    → printout (exercised (record { settings = s; storage = main; chain = chain })) ≡ printout (call_of device chain main store u.unit u.map (zeros (length chain)))
unfolding exercised
exercised_is s chain main store u f g = rw (f, g)

-- bytes that were read to the front of a buffer are what is lent of it
pub front_is : {to bytes back : List ℕ} {n : ℕ} → ReadTo to bytes n back → take n back ≡ bytes
unfolding put
front_is {to} {bytes} {back} {n} r = rw (r.front, zero-add) (take_at bytes _ n (sym r.count))

-- answers that were lent of an array of zeros
pub zeros_lent : (chain : List ℕ) → length chain ≤ most_chain → zeros (length chain) ≡ take (length chain) (replicate most_chain 0)
unfolding zeros
zeros_lent chain h = sym (take-replicate (length chain) most_chain 0 h)
