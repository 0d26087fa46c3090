-- The call from C.
--     host_verdict    the first of 1 to 6 and 8 that holds, by the first of 1 to 5
--     host_is_call    where there are 290 bytes of record, it is the call on the unit record that they hold
--     host_no_record  where there are not, it is refused: by the call's own cause, or by 6
--     set_up_record, set_up_none
--                     the same of a record that is set up
--     host_keeps      it keeps the length of each buffer, and bytes bytes
--     result_reads    the one number holds both: the cause, and the commands reached
-- Assumes nothing.
use Prim.Native.Nat.{ℕ, ◌/◌, ◌%◌, ◌<◌}
use mathlib.Core.Path.{◌≡◌, refl, sym, ap, ◌∙◌}
use mathlib.Core.Bool.{not}
use mathlib.Core.List.{List, ◌∷◌}
use lib.ListN.{length, length-append}
use native.Mathlib.Omega.{arith}
use borrow.Author.Tests.{eqb-true, eqb-false, eq-eqb, ne_eqb, not-false}
use Rattle.numbers.specs.Bytes.{AreBytes}
use Rattle.numbers.proofs.Bytes.{bytes_append}
use Rattle.numbers.specs.Choice.{◌=?◌, pick}
use Rattle.model.specs.Rules.{◌when◌, first_of}
use Rattle.model.specs.Lent.{record_size, record_bytes, record_of, map_of, new_record, new_map}
use Rattle.model.specs.Causes.{lent_causes, map_causes, call_causes, host_causes}
use Rattle.model.specs.Chain.{call_of}
use Rattle.model.specs.Host.{Hosted, result_of, hosted, host_call_of, set_up}
use Rattle.numbers.proofs.Choice.{pick_ind, pick_true, pick_false}
use Rattle.model.proofs.Verdicts.{failed_upto, failed_all, none_given, first_append}
use Rattle.model.proofs.Refusals.{call_refused, host_refused}
use Rattle.model.proofs.Lengths.{call_lengths}
use Rattle.model.proofs.Kept.{call_bytes}
use Rattle.model.proofs.Records.{unit_length, unit_bytes_lem, record_of_lem, map_of_lem, bytes_back}
use Rattle.model.specs.declared.device.Device.{Device}

pub result_reads : (cause reached : ℕ) → reached < 256 → (result_of cause reached / 256 ≡ cause) × (result_of cause reached % 256 ≡ reached)
unfolding result_of
result_reads cause reached h = (omega arith, omega arith)

module _ (dev : Device) (chain main store unit answers : List ℕ) where
  -- none of 1 to 6 and 8 holds: none of 1 to 5 and 8 does, and there are 290 bytes
  pub host_passed : first_of (host_causes dev chain main store unit answers) ≡ 0 → (first_of (call_causes dev chain main store (map_of unit) answers) ≡ 0) × (length unit ≡ record_size)
  unfolding host_causes call_causes lent_causes map_causes
  host_passed e =
      let f = failed_upto 0 (lent_causes dev chain main store answers) _ refl e in
      let g = failed_all 0 _ refl f.1 in
      (first_append (lent_causes dev chain main store answers) (map_causes dev store (map_of unit)) refl ∙ pick_true _ _ _ (eq-eqb _ _ (none_given _ f.0)) ∙ none_given _ g.1, eqb-true _ _ (not-false _ g.0))

  -- the verdict of 1 to 6 and 8, by that of 1 to 5
  pub host_verdict : first_of (host_causes dev chain main store unit answers)
      ≡ pick (first_of (lent_causes dev chain main store answers) =? 0) (pick (not (length unit =? record_size)) 6 (first_of (map_causes dev store (map_of unit)))) (first_of (lent_causes dev chain main store answers))
  unfolding host_causes lent_causes map_causes first_of
  host_verdict = first_append (lent_causes dev chain main store answers) (6 when not (length unit =? record_size) ∷ map_causes dev store (map_of unit)) refl

  same_verdict : length unit ≡ record_size → first_of (host_causes dev chain main store unit answers) ≡ first_of (call_causes dev chain main store (map_of unit) answers)
  unfolding call_causes lent_causes
  same_verdict e =
      let w : ℕ = first_of (lent_causes dev chain main store answers) in
      host_verdict
      ∙ rw (eq-eqb _ _ e) (ap (λ (v : ℕ). pick (w =? 0) v w) (pick_false _ 6 (first_of (map_causes dev store (map_of unit))) refl))
      ∙ sym (first_append (lent_causes dev chain main store answers) (map_causes dev store (map_of unit)) refl)

  pub host_is_call : length unit ≡ record_size → host_call_of dev chain main store unit answers ≡ hosted (call_of dev chain main store (record_of unit) (map_of unit) answers)
  unfolding host_call_of
  host_is_call e =
      rw (same_verdict e)
      (pick_ind (λ (r : Hosted). r ≡ hosted (call_of dev chain main store (record_of unit) (map_of unit) answers)) _ _ _ (λ _. refl)
      (λ b. rw (call_refused dev chain main store (record_of unit) (map_of unit) answers _ refl (eqb-false _ _ b), bytes_back unit e)))

  pub host_no_record : (w : ℕ) → (length unit ≡ record_size → ⊥) → first_of (lent_causes dev chain main store answers) ≡ w
      → host_call_of dev chain main store unit answers ≡ record { result = result_of (pick (w =? 0) 6 w) 0; main = main; store = store; unit = unit; answers = answers }
  host_no_record w n e =
      let v : first_of (host_causes dev chain main store unit answers) ≡ pick (w =? 0) 6 w = host_verdict ∙ rw (ne_eqb _ _ n, e) (ap (λ (x : ℕ). pick (w =? 0) x w) (pick_true _ 6 (first_of (map_causes dev store (map_of unit))) refl)) in
      host_refused dev chain main store unit answers _ v (pick_ind (λ (x : ℕ). x ≡ 0 → ⊥) (w =? 0) 6 w (λ _ z. omega arith) (λ b. eqb-false _ _ b))

pub set_up_record : (unit : List ℕ) (ready read_only : ℕ) → length unit ≡ record_size → set_up unit ready read_only ≡ record { result = 0; unit = record_bytes (new_record ready read_only) new_map }
unfolding set_up result_of
set_up_record unit ready read_only e = pick_true _ _ _ (eq-eqb _ _ e)

pub set_up_none : (unit : List ℕ) (ready read_only : ℕ) → (length unit ≡ record_size → ⊥) → set_up unit ready read_only ≡ record { result = result_of 6 0; unit = unit }
unfolding set_up
set_up_none unit ready read_only n = pick_false _ _ _ (ne_eqb _ _ n)

pub record HostKeeps (main store unit answers : List ℕ) (r : Hosted) : Type 0 where
  pub main_length : length r.main ≡ length main
  pub store_length : length r.store ≡ length store
  pub unit_length : length r.unit ≡ length unit
  pub answers_length : length r.answers ≡ length answers
  pub main_bytes : AreBytes r.main
  pub store_bytes : AreBytes r.store
  pub unit_bytes_lem : AreBytes r.unit
  pub answers_bytes : AreBytes r.answers

pub host_keeps : (dev : Device) (chain main store unit answers : List ℕ) → AreBytes chain → AreBytes main → AreBytes store → AreBytes unit → AreBytes answers
    → HostKeeps main store unit answers (host_call_of dev chain main store unit answers)
unfolding host_call_of
host_keeps dev chain main store unit answers b m d u a =
    pick_ind (HostKeeps main store unit answers) _ _ _
    (λ e.
    let p = host_passed dev chain main store unit answers (eqb-true _ _ e) in
    let l = call_lengths dev chain main store (record_of unit) (map_of unit) answers in
    let g = call_bytes dev chain main store (record_of unit) (map_of unit) answers b m d (record_of_lem unit p.1 u) (map_of_lem unit p.1 u) a in
    record {
      main_length = l.main_length;
      store_length = l.store_length;
      answers_length = l.answers_length;
      unit_length = rw (length-append, unit_length _ g.unit_fields, g.map_fields.long) (sym p.1);
      main_bytes = g.main_bytes;
      store_bytes = g.store_bytes;
      answers_bytes = g.answers_bytes;
      unit_bytes_lem = bytes_append _ _ (unit_bytes_lem _ g.unit_fields) g.map_fields.bytes;
    })
    (λ _. record {
      main_length = refl;
      store_length = refl;
      unit_length = refl;
      answers_length = refl;
      main_bytes = m;
      store_bytes = d;
      unit_bytes_lem = u;
      answers_bytes = a;
    })
