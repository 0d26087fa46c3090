-- The call from C, from the run of the library.
--     map_lent, map_whole
--                      of 290 bytes of record the map is lent as those behind the first 34
--     front_kept, map_behind, map_stored
--                      once it is back, the record has the new map, and what stands before it stays
--     sized_first, sized_record
--                      the first of 1 to 6: that of 1 to 5, or where there is none, 6 by the length of the record
--     record_taken     the record stands in the first 34 bytes; new_stored   and one that is set up
--     sized, sized_long, sized_primary
--                      none of them holds: none of 1 to 5 does, there are 290 bytes of record, and a primary
--     front_taken, front_long
--                      there are 34 bytes before the map, and a map that comes back leaves them there
--     refused_sized, refused_map
--                      one of them holds, or 8 does: refused, and nothing changed
--     may_run          none does, and the call may run
--     ran_hosted       the run on the record that the bytes hold, and what it left packed again
--     usable           the device of every call of ours may be used
--     reached_unique, hosted_unique
--                      what `run_hosted` promises allows one result
--     sized_rules, hosted_rules
--                      what the check finds `host_cause` and `run_hosted` by
-- No contract cites this file.
use Prim.Native.Nat.{ℕ, ◌+◌, ◌-◌, ◌≤◌, ◌<◌}
use mathlib.Core.Path.{◌≡◌, refl, sym, ap, ◌∙◌}
use mathlib.Core.List.{List, ◌++◌, append_assoc}
use lib.ListN.{length, take, drop, length-drop, take-append-drop}
use lib.Seq.{take-take, take_all, take_at, length-take-le, get_or-take}
use native.Mathlib.Omega.{arith}
use borrow.Author.Tests.{eq-eqb, ne_eqb, eqb-true, not-false}
use borrow.Rule.Slice.PartMut.{mid_of, put_mid, same_len_mid}
use Rattle.std.specs.Prelude.{Result, Ok, Err, IfOk}
use Rattle.numbers.specs.Choice.{pick}
use Rattle.numbers.proofs.Choice.{pick_true, pick_false}
use Rattle.slices.specs.Parts.{zeros, part, put, pad}
use Rattle.slices.proofs.Laws.{rest_lent, rest_back, drop_take, pad_cleared}
use Rattle.model.specs.declared.cause.Cause.{Cause}
use Rattle.model.specs.declared.device.Device.{Device}
use Rattle.model.specs.Rules.{first_of}
use Rattle.model.specs.Alternates.{map_size}
use Rattle.model.specs.Lent.{map_place, store_blocks, record_size, unit_bytes, record_bytes, record_of, map_of, new_map}
use Rattle.model.specs.Causes.{lent_causes, record_causes, map_causes, call_causes, host_causes}
use Rattle.model.specs.Chain.{call_of, class_a}
use Rattle.model.specs.Host.{result_of, hosted, host_call_of}
use Rattle.model.specs.Safe.{Usable}
use Rattle.model.specs.Told.{cause_number, told}
use Rattle.model.proofs.Verdicts.{first_append, failed_upto, failed_all, none_given}
use Rattle.model.proofs.Endings.{lent_primary}
use Rattle.model.proofs.Refusals.{host_refused}
use Rattle.model.proofs.Records.{record_front}
use Rattle.model.proofs.Safety.{class_a_usable}
use Rattle.model.proofs.Hosts.{host_verdict, host_is_call}
use Rattle.unit_state.specs.declared.Left.{Left}
use Rattle.unit_state.specs.Standing.{unit_left}
use Rattle.chain.specs.Outcome.{reached_in}
use Rattle.chain.proofs.Passed.{never_none, cause_same, table, refused_first, passed_first}
use Rattle.loughrella.specs.Sized.{sized_causes}

-- the record stands in the first 34 bytes
pub record_taken : (l : List ℕ) → record_of (take map_place l) ≡ record_of l
unfolding record_of part
record_taken l =
    let field : (at n : ℕ) → at + n ≤ map_place → take n (drop at (take map_place l)) ≡ take n (drop at l) = λ at n h. ap (take n) (drop_take at map_place l) ∙ take-take n (map_place - at) (drop at l) (omega (arith, h)) in
    λ i. record {
      sense = field 0 24 (omega arith) i;
      blocks_read = field 24 3 (omega arith) i;
      blocks_written = field 27 3 (omega arith) i;
      movements = field 30 2 (omega arith) i;
      ready = get_or-take map_place l 32 0 (omega arith) i;
      read_only = get_or-take map_place l 33 0 (omega arith) i;
    }

-- the first 34 bytes are a new record's, and those behind are cleared
pub new_stored : (unit front back : List ℕ) → length unit ≡ record_size → length front ≡ map_place → let bytes = front ++ drop map_place unit in back ≡ zeros (length (mid_of map_place (length bytes - map_place) bytes))
    → put_mid map_place (length bytes - map_place) bytes back ≡ front ++ new_map
unfolding put pad
new_stored unit front back e f b =
    let stored : front ++ drop map_place unit ≡ put unit 0 front = rw f in
    let padded : pad (length unit) front ≡ front ++ new_map = rw (e, f) (ap (λ (l : List ℕ). l ++ new_map) (take_all record_size front (omega (arith, f)))) in
    pad_cleared unit front (front ++ drop map_place unit) back map_place f (omega (arith, e)) stored b ∙ padded

-- the map as it is lent, and the record's bytes with the map that came back

abbrev pub lent_map : List ℕ → List ℕ
lent_map unit = mid_of map_place (length unit - map_place) unit

abbrev pub with_map : List ℕ → List ℕ → List ℕ
with_map unit map = put_mid map_place (length unit - map_place) unit map

module _ (unit : List ℕ) (whole : length unit ≡ record_size) where
  pub map_lent : lent_map unit ≡ map_of unit
  unfolding map_of part
  map_lent = rest_lent unit map_place ∙ sym (take_all map_size (drop map_place unit) (omega (arith, length-drop map_place unit, whole)))

  pub map_whole : length (lent_map unit) ≡ map_size
  map_whole = ap length (rest_lent unit map_place) ∙ length-drop map_place unit ∙ omega (arith, whole)

  pub front_kept : (map : List ℕ) → take map_place (with_map unit map) ≡ take map_place unit
  front_kept map = take_at (take map_place unit) _ map_place (length-take-le map_place unit (omega (arith, whole)))

  pub map_behind : (map : List ℕ) → drop map_place (with_map unit map) ≡ map
  map_behind map = rest_back unit map map_place (omega (arith, whole))

  pub map_stored : (map : List ℕ) → with_map unit map ≡ record_bytes (record_of unit) map
  map_stored map = sym (take-append-drop map_place (with_map unit map)) ∙ rw (front_kept map, map_behind map, record_front unit (omega (arith, whole)))

pub front_taken : (unit : List ℕ) → length unit ≡ record_size → length (take map_place unit) ≡ map_place
front_taken unit l = length-take-le map_place unit (omega (arith, l))

-- a map of its length put in the place of its own leaves the front its length
pub front_long : (unit map' : List ℕ) → length unit ≡ record_size → length map' ≡ length (lent_map unit) → length (take map_place (with_map unit map')) ≡ map_place
front_long unit map' l e =
    let kept : length (with_map unit map') ≡ record_size = same_len_mid map_place (length unit - map_place) unit map' e ∙ l in
    length-take-le map_place (with_map unit map') (omega (arith, kept))

module _ (dev : Device) (chain storage store unit answers : List ℕ) where
  abbrev lent : ℕ
  lent = first_of (lent_causes dev chain storage store answers)

  abbrev sized_verdict : ℕ
  sized_verdict = first_of (sized_causes dev chain storage store unit answers)

  abbrev map_verdict : ℕ
  map_verdict = first_of (map_causes dev store (map_of unit))

  pub sized_first : (cause : Cause) → cause_number cause ≡ lent → sized_verdict ≡ cause_number cause
  unfolding lent_causes
  sized_first cause e = refused_first (lent_causes dev chain storage store answers) (record_causes unit) refl cause e

  pub sized_record : 0 ≡ lent → sized_verdict ≡ first_of (record_causes unit)
  unfolding lent_causes
  sized_record e = passed_first (lent_causes dev chain storage store answers) (record_causes unit) refl e

  pub sized : sized_verdict ≡ 0 → (lent ≡ 0) × (length unit ≡ record_size)
  unfolding lent_causes
  sized e =
      let f = failed_upto 0 (lent_causes dev chain storage store answers) _ refl e in
      (none_given _ f.0, eqb-true _ _ (not-false _ (failed_all 0 _ refl f.1).0))

  pub sized_long : sized_verdict ≡ 0 → length unit ≡ record_size
  sized_long e = (sized e).1

  pub sized_primary : sized_verdict ≡ 0 → dev.alternates < store_blocks dev store
  sized_primary e = lent_primary dev chain storage store answers (sized e).0

  -- a verdict of 1 to 6 is the call's
  sized_given : (cause : ℕ) → cause ≡ sized_verdict → (cause ≡ 0 → ⊥) → first_of (host_causes dev chain storage store unit answers) ≡ cause
  unfolding host_causes lent_causes
  sized_given cause e n =
      rw append_assoc at (first_append (sized_causes dev chain storage store unit answers) (map_causes dev store (map_of unit)) refl)
      ∙ pick_false _ _ _ (ne_eqb _ _ (λ z. n (e ∙ z))) ∙ sym e

  pub refused_sized : (cause : Cause) → cause_number cause ≡ sized_verdict
      → host_call_of dev chain storage store unit answers ≡ record { result = result_of (cause_number cause) 0; main = storage; store = store; unit = unit; answers = answers }
  refused_sized cause e = host_refused dev chain storage store unit answers _ (sized_given _ e (never_none cause)) (never_none cause)

  -- none of them holds
  module _ (passed : sized_verdict ≡ 0) where
    abbrev map : List ℕ
    map = lent_map unit

    abbrev whole : length unit ≡ record_size
    whole = (sized passed).1

    behind_six : first_of (host_causes dev chain storage store unit answers) ≡ map_verdict
    unfolding pick
    behind_six = host_verdict dev chain storage store unit answers ∙ rw ((sized passed).0, eq-eqb _ _ whole)

    pub refused_map : (cause : Cause) → cause_number cause ≡ first_of (map_causes dev store map)
        → host_call_of dev chain storage store unit answers ≡ record { result = result_of (cause_number cause) 0; main = storage; store = store; unit = unit; answers = answers }
    refused_map cause e = host_refused dev chain storage store unit answers _ (behind_six ∙ sym (rw (map_lent unit whole) at e)) (never_none cause)

    pub may_run : first_of (map_causes dev store map) ≡ 0 → first_of (call_causes dev chain storage store map answers) ≡ 0
    unfolding call_causes lent_causes
    may_run e = first_append (lent_causes dev chain storage store answers) (map_causes dev store map) refl ∙ pick_true _ _ _ (eq-eqb _ _ (sized passed).0) ∙ e

    pub ran_hosted : (map' : List ℕ) (l : Left) (reached : ℕ) (m s a packed : List ℕ)
        → record { cause = 0; reached = reached; unit = unit_left (record_of unit) l; map = map'; main = m; store = s; answers = a } ≡ call_of dev chain storage store (record_of unit) map answers
        → packed ≡ unit_bytes (unit_left (record_of (take map_place (with_map unit map'))) l)
        → record { result = result_of 0 reached; main = m; store = s; unit = packed ++ drop map_place (with_map unit map'); answers = a } ≡ host_call_of dev chain storage store unit answers
    ran_hosted map' l reached m s a packed h b =
        let same-record = ap record_of (front_kept unit whole map') ∙ record_taken unit in
        rw (b, same-record, map_behind unit whole map', host_is_call dev chain storage store unit answers whole, ← (map_lent unit whole)) (ap hosted h)

-- the call's one number determines the cause and the commands reached: what `run_hosted` promises allows one result
pub reached_unique : (result cause r cause' q : ℕ) → result_of cause r ≡ result → result_of cause' q ≡ result → r ≤ 32 → q ≤ 32 → (cause ≡ cause') × (r ≡ q)
unfolding result_of
reached_unique result cause r cause' q e f l k = (omega arith, omega arith)

pub hosted_unique : (result : ℕ) (o q : Result ℕ Cause) → result_of (told o) (reached_in o) ≡ result → result_of (told q) (reached_in q) ≡ result
    → IfOk o (λ reached. reached ≤ 32) → IfOk q (λ reached. reached ≤ 32) → o ≡ q
hosted_unique result (Ok r) (Ok s) e f l k = ap Ok (reached_unique result 0 r 0 s e f l k).1
hosted_unique result (Ok r) (Err b) e f l k = absurd (never_none b (sym (reached_unique result 0 r (cause_number b) 0 e f l (omega arith)).0))
hosted_unique result (Err a) (Ok s) e f l k = absurd (never_none a (reached_unique result (cause_number a) 0 0 s e f (omega arith) k).0)
hosted_unique result (Err a) (Err b) e f l k = ap Err (cause_same a b (reached_unique result (cause_number a) 0 (cause_number b) 0 e f (omega arith) (omega arith)).0)

-- the device of every call of ours
pub usable : (d : Device) (n : ℕ) → d ≡ class_a n → Usable d
usable d n e = rw e (class_a_usable n)

-- what `host_cause` and `run_hosted` stand on

pub ruleset sized_rules = (sized_first, sized_record, table)

pub ruleset hosted_rules = (sized_long, sized_primary, map_whole, may_run, front_long, refused_map)
