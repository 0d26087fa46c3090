-- No printout is longer than the program's output. No contract cites this file; the program relies on it.
use Prim.Native.Nat.{ℕ, zero, suc, ◌≤◌, ◌<◌}
use native.Mathlib.Omega.{arith}
use mathlib.Core.Path.{◌≡◌, refl}
use mathlib.Core.List.{List}
use lib.Dec.{eqb}
use lib.ListN.{length, replicate}
use borrow.Author.Tests.{eqb-true}
use Rattle.numbers.specs.Bytes.{AreBytes}
use Rattle.numbers.proofs.Bytes.{bytes_nil, bytes_cons, bytes_append}
use Rattle.slices.specs.Parts.{zeros}
use Rattle.slices.proofs.Laws.{bytes_zeros}
use Rattle.model.specs.declared.record.UnitRecord.{UnitRecord}
use Rattle.model.specs.declared.record.Record.{Record}
use Rattle.model.specs.Rules.{first_of}
use Rattle.model.specs.Alternates.{map_size}
use Rattle.model.specs.Lent.{new_record}
use Rattle.model.specs.Causes.{call_causes, lent_causes, map_causes}
use Rattle.model.specs.Chain.{call_of}
use Rattle.numbers.proofs.Choice.{pick_ind}
use Rattle.model.proofs.Fields.{sized_zeros, IsRecord}
use Rattle.model.proofs.Kept.{call_bytes}
use Rattle.model.proofs.Lengths.{call_lengths}
use Rattle.in_place.proofs.Reached.{reached_few}
use Rattle.text_digits.specs.Digits.{six_digits}
use Rattle.text_output.specs.Printout.{printout}
use Rattle.text_output.proofs.Sizes.{most_printed, printout_within, refused_within}
use Rattle.text_input.specs.Input.{lines, wrong_line, Exercise, exercise_in}
use Rattle.text_input.proofs.Sizes.{wrong_few, settings_few, storage_bytes, storage_few, chain_bytes}
use Rattle.text_input.proofs.Rights.{few_blocks}
use Rattle.text_exercise.specs.Exercise.{device, new_store, new_unit, exercised, exercise}

block_bytes : (n b : ℕ) → b < 256 → AreBytes (replicate n b)
block_bytes zero b h = bytes_nil
block_bytes (suc n) b h = bytes_cons b _ h (block_bytes n b h)

new_store_bytes : (n : ℕ) → n ≤ 256 → AreBytes (new_store n)
unfolding new_store
new_store_bytes zero h = bytes_nil
new_store_bytes (suc n) h = bytes_append (new_store n) _ (new_store_bytes n (omega arith)) (block_bytes device.block n (omega arith))

new_fields : (ready readonly : ℕ) → ready < 256 → readonly < 256 → IsRecord (new_record ready readonly)
unfolding new_record
new_fields ready readonly h k =
    record { sense = sized_zeros 24; read = sized_zeros 3; written = sized_zeros 3; movements = sized_zeros 2; ready_byte = h; read_only_byte = k }

small_cause : (chain main store : List ℕ) (u : Record) (map answers : List ℕ) → (call_of device chain main store u map answers).cause < six_digits
unfolding call_of call_causes lent_causes map_causes first_of
small_cause chain main store u map answers =
    pick_ind P _ _ _ (λ _. omega arith) (λ _.
    pick_ind P _ _ _ (λ _. omega arith) (λ _.
    pick_ind P _ _ _ (λ _. omega arith) (λ _.
    pick_ind P _ _ _ (λ _. omega arith) (λ _.
    pick_ind P _ _ _ (λ _. omega arith) (λ _.
    pick_ind P _ _ _ (λ _. omega arith) (λ _. omega arith))))))
  where
    P : ℕ → Type 0
    P n = n < six_digits

exercised_length : (input : List ℕ) → wrong_line input ≡ 0 → length (printout (exercised (exercise_in (lines input)))) ≤ most_printed
unfolding exercised
exercised_length input e =
    let x : Exercise = exercise_in (lines input) in
    let u : UnitRecord = new_unit x.settings in
    let store : List ℕ = new_store x.settings.blocks in
    let answers : List ℕ = zeros (length x.chain) in
    let fields = new_fields x.settings.ready x.settings.readonly (settings_few input).0 (settings_few input).1 in
    let store_Bytes = new_store_bytes x.settings.blocks (omega (arith, few_blocks input e)) in
    let bytes = call_bytes device x.chain x.storage store u.unit u.map answers (chain_bytes input) (storage_bytes input) store_Bytes fields (sized_zeros map_size) (bytes_zeros _) in
    let sizes = call_lengths device x.chain x.storage store u.unit u.map answers in
    printout_within _ _ _ _ _ (small_cause x.chain x.storage store u.unit u.map answers) (reached_few device.alternates x.chain x.storage store u.unit u.map answers _ refl) bytes.answers_bytes
    (omega (arith, sizes.main_length, storage_few input e)) bytes.unit_fields.sense.long

pub printout_fits : (input : List ℕ) → length (exercise input) ≤ most_printed
unfolding exercise
printout_fits input =
    pick_ind (λ (l : List ℕ). length l ≤ most_printed) (eqb (wrong_line input) 0) _ _ (λ e. exercised_length input (eqb-true _ _ e)) (λ _. omega (arith, refused_within (wrong_line input) (omega (arith, wrong_few input))))
