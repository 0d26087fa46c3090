-- Request 3's theorem, proved.
--     host_unused       a call leaves the answers behind those that it gave
--     class_one_by_one  what the chains of a class leave
--     class_marked      and so a class that cause 7 does not refuse
-- Assumes nothing.
use Prim.Native.Nat.{ℕ, zero, suc, ◌+◌, ◌-◌, ◌*◌, ◌/◌, ◌%◌, ◌≤◌, ◌<◌}
use native.Mathlib.Nat.{add_assoc}
use native.Mathlib.Omega.{arith}
use mathlib.Core.Path.{◌≡◌, refl, sym, ap, ◌∙◌}
use mathlib.Core.Bool.{false}
use mathlib.Core.Option.{some}
use mathlib.Core.List.{List, [], ◌∷◌, ◌++◌, append_assoc}
use lib.ListN.{length, get_or, take, drop, length-append, length-drop}
use lib.Seq.{get_or-drop}
use borrow.Author.Tests.{eqb-true, le-ltb}
use Rattle.numbers.specs.Big.{be2}
use Rattle.numbers.proofs.Choice.{pick_ind}
use Rattle.slices.specs.Parts.{part}
use Rattle.slices.proofs.Laws.{length_part, get_part, get_behind, part_behind, part_drop, part_between, drop_take}
use Rattle.model.specs.declared.device.Device.{Device}
use Rattle.model.specs.Lent.{record_of, map_of}
use Rattle.model.specs.Answer.{answer_size}
use Rattle.model.specs.Chain.{Called, call_of}
use Rattle.model.specs.Host.{Hosted, result_of, host_call_of}
use Rattle.model.specs.Class.{head_size, result_size, results_of, result_head, Marked, behind, mark_of, mark_each_of, chains_in, bad_class, run_class_of}
use Rattle.model.specs.OneByOne.{Finds, result_at, room_at, room_length, after_call, call_on, found_by, call_at, OneByOne}
use Rattle.model.proofs.Endings.{callable, call_reached}
use Rattle.model.proofs.Lengths.{call_lengths}
use Rattle.model.proofs.Reached.{call_each}
use Rattle.model.proofs.Hosts.{host_passed, result_reads}
use Rattle.model.proofs.Exactly.{host_most, host_never_4}
use Rattle.model.proofs.Class.{class_right}

module _ (dev : Device) (chain main store unit answers : List ℕ) where
  host_answers : length (host_call_of dev chain main store unit answers).answers ≡ length answers
  unfolding host_call_of
  host_answers = pick_ind (λ (h : Hosted). length h.answers ≡ length answers) _ _ _ (λ _. (call_lengths dev chain main store (record_of unit) (map_of unit) answers).answers_length) (λ _. refl)

  pub host_unused : (at : ℕ) → (host_call_of dev chain main store unit answers).result % 256 * answer_size ≤ at
      → get_or (host_call_of dev chain main store unit answers).answers at 0 ≡ get_or answers at 0
  unfolding host_call_of
  host_unused at =
      pick_ind (λ (h : Hosted). h.result % 256 * answer_size ≤ at → get_or h.answers at 0 ≡ get_or answers at 0) _ _ _
      (λ e.
      let c : Called = call_of dev chain main store (record_of unit) (map_of unit) answers in
      let few = (callable dev chain main store (map_of unit) answers (host_passed dev chain main store unit answers (eqb-true _ _ e)).0).few in
      let fits : c.reached < 256 = omega (arith, few, (call_reached dev chain main store (record_of unit) (map_of unit) answers).1) in
      let reads = result_reads c.cause c.reached fits in
      rw reads.1 (λ h. (call_each dev chain main store (record_of unit) (map_of unit) answers).not_reached at h))
      (λ _ _. refl)

head_long : (h : Hosted) → length (result_head h) ≡ head_size
unfolding result_head
head_long h = refl

-- the chains behind the first: where their results lie, and what they find

module _ (dev : Device) (chain : List ℕ) (chains : List (List ℕ)) (f : Finds) (results : List ℕ) where
  abbrev size : ℕ
  size = result_size (length chain)

  abbrev all : List (List ℕ)
  all = chain ∷ chains

  abbrev rest : List ℕ
  rest = drop size results

  abbrev first : Marked
  first = mark_of dev chain f.main f.store f.unit (take size results)

  abbrev next : Finds
  next = record { main = first.main; store = first.store; unit = first.unit }

  -- what the first chain is lent of the results is its room
  first_call_lem : host_call_of dev chain f.main f.store f.unit (drop head_size (take size results)) ≡ call_on dev all results 0 f
  unfolding part results_of
  first_call_lem = rw (drop_take head_size size results)

  call_behind : (i : ℕ) (g : Finds) → call_on dev all results (suc i) g ≡ call_on dev chains rest i g
  unfolding results_of
  call_behind i g = rw (part_drop results size (room_at chains i) (room_length chains i), add_assoc)

  found_behind : (i : ℕ) → found_by dev all results (suc i) f ≡ found_by dev chains rest i next
  unfolding found_by mark_of
  found_behind zero = rw first_call_lem
  found_behind (suc i) = ap after_call (call_behind i _ ∙ ap (call_on dev chains rest i) (found_behind i))

  abbrev lent : List ℕ
  lent = part results (room_at all 0) (room_length all 0)

  abbrev first_call : Hosted
  first_call = call_on dev all results 0 f

  first_results : first.results ≡ result_head first_call ++ first_call.answers
  unfolding mark_of
  first_results = rw first_call_lem

  module _ (enough : size ≤ length results) where
    lent_long : length lent ≡ size - head_size
    unfolding result_size results_of
    lent_long =
        let inside : head_size + (size - head_size) ≤ length results = omega (arith, enough) in
        length_part results head_size (size - head_size) inside

    room_long : length first_call.answers ≡ size - head_size
    room_long = host_answers dev chain f.main f.store f.unit lent ∙ lent_long

    first_long : length first.results ≡ size
    unfolding result_size
    first_long = rw (first_results, length-append, head_long first_call, room_long) (omega arith)

    first_cause : (l : List ℕ) → be2 (first.results ++ l) 0 ≡ first_call.result / 256
    unfolding result_head
    first_cause l = rw first_results (omega (arith, host_most dev chain f.main f.store f.unit lent))

    first_reached : (l : List ℕ) → be2 (first.results ++ l) 2 ≡ first_call.result % 256
    unfolding result_head
    first_reached l = rw first_results (omega arith)

    first_never_4 : first_call.result / 256 ≡ 4 → ⊥
    unfolding result_size results_of
    first_never_4 = host_never_4 dev chain f.main f.store f.unit lent (omega (arith, lent_long))

    first_answers : (l : List ℕ) → part (first.results ++ l) head_size (size - head_size) ≡ first_call.answers
    first_answers l = rw (first_results, append_assoc) (part_between (result_head first_call) first_call.answers l head_size (size - head_size) (head_long first_call) room_long)

-- "used or not": what a call leaves of its room is left of the results
module _ (dev : Device) (chains : List (List ℕ)) (results : List ℕ) (f : Finds) where
  unused_room : (m : Marked) (i at : ℕ) → part m.results (room_at chains i) (room_length chains i) ≡ (call_at dev chains results f i).answers
      → (call_at dev chains results f i).result % 256 * answer_size ≤ at → at < room_length chains i
      → get_or m.results (room_at chains i + at) 0 ≡ get_or results (room_at chains i + at) 0
  unused_room m i at e u h =
      sym (get_part m.results (room_at chains i) (room_length chains i) at h)
      ∙ rw e (host_unused dev _ _ _ _ _ at u)
      ∙ get_part results (room_at chains i) (room_length chains i) at h

-- a chain before others, of which the theorem holds
module _ (dev : Device) (chain : List ℕ) (chains : List (List ℕ)) (f : Finds) (results : List ℕ) (enough : size dev chain chains f results ≤ length results) (m : Marked)
    (k : OneByOne dev chains (next dev chain chains f results) (rest dev chain chains f results) m) where
  abbrev front : List ℕ
  front = (first dev chain chains f results).results

  abbrev call : ℕ → Hosted
  call = call_at dev (chain ∷ chains) results f

  call_again : (i : ℕ) → call (suc i) ≡ call_at dev chains (rest dev chain chains f results) (next dev chain chains f results) i
  call_again i = call_behind dev chain chains f results i _ ∙ ap (call_on dev chains (rest dev chain chains f results) i) (found_behind dev chain chains f results i)

  part_again : (at n : ℕ) → part (front ++ m.results) (result_size (length chain) + at) n ≡ part m.results at n
  part_again at n = part_behind front m.results (result_size (length chain)) at n (first_long dev chain chains f results enough)

  be2_again : (at : ℕ) → be2 (front ++ m.results) (result_size (length chain) + at) ≡ be2 m.results at
  be2_again at =
      let long = first_long dev chain chains f results enough in
      rw (get_behind front m.results _ at long, add_assoc, get_behind front m.results _ (at + 1) long)

  cause_more : (i : ℕ) → i < suc (length chains) → be2 (front ++ m.results) (result_at (chain ∷ chains) i) ≡ (call i).result / 256
  unfolding results_of found_by
  cause_more zero l = first_cause dev chain chains f results enough m.results
  cause_more (suc i) l = be2_again (result_at chains i) ∙ k.cause i (omega arith) ∙ rw (call_again i)

  reached_more : (i : ℕ) → i < suc (length chains) → be2 (front ++ m.results) (result_at (chain ∷ chains) i + 2) ≡ (call i).result % 256
  unfolding results_of found_by
  reached_more zero l = first_reached dev chain chains f results enough m.results
  reached_more (suc i) l = rw add_assoc (be2_again (result_at chains i + 2) ∙ k.reached i (omega arith) ∙ rw (call_again i))

  never_4_more : (i : ℕ) → i < suc (length chains) → (call i).result / 256 ≡ 4 → ⊥
  unfolding found_by
  never_4_more zero l = first_never_4 dev chain chains f results enough
  never_4_more (suc i) l = rw (call_again i) (k.never_4 i (omega arith))

  answers_more : (i : ℕ) → i < suc (length chains) → part (front ++ m.results) (room_at (chain ∷ chains) i) (room_length (chain ∷ chains) i) ≡ (call i).answers
  unfolding results_of found_by
  answers_more zero l = first_answers dev chain chains f results enough m.results
  answers_more (suc i) l =
      let n : ℕ = room_length chains i in
      let place : room_at (chain ∷ chains) (suc i) ≡ result_size (length chain) + room_at chains i = omega arith in
      ap (λ at. part (front ++ m.results) at n) place ∙ part_again (room_at chains i) n ∙ k.answers i (omega arith) ∙ sym (ap (λ (h : Hosted). h.answers) (call_again i))

  past_more : (at : ℕ) → results_of (chain ∷ chains) ≤ at → get_or (front ++ m.results) at 0 ≡ get_or results at 0
  unfolding results_of
  past_more at h =
      let behind_it : at ≡ result_size (length chain) + (at - result_size (length chain)) = omega (arith, h) in
      rw behind_it
      (get_behind front m.results _ (at - result_size (length chain)) (first_long dev chain chains f results enough)
      ∙ k.past (at - result_size (length chain)) (omega (arith, h))
      ∙ get_or-drop (result_size (length chain)) results (at - result_size (length chain)) 0)

  one_more : OneByOne dev (chain ∷ chains) f results (behind front m)
  one_more =
      let found = found_behind dev chain chains f results (length chains) in
      record {
        main = k.main ∙ rw found;
        store = k.store ∙ rw found;
        unit = k.unit ∙ rw found;
        cause = cause_more;
        reached = reached_more;
        never_4 = never_4_more;
        answers = answers_more;
        unused = λ i l at. unused_room dev (chain ∷ chains) results f (behind front m) i at (answers_more i l);
        past = past_more;
      }

pub class_one_by_one : (dev : Device) (chains : List (List ℕ)) (f : Finds) (results : List ℕ) → results_of chains ≤ length results
    → OneByOne dev chains f results (mark_each_of dev chains f.main f.store f.unit results)
unfolding mark_each_of found_by results_of
class_one_by_one dev [] f results h = record {
  main = refl;
  store = refl;
  unit = refl;
  cause = λ i l. absurd (omega arith);
  reached = λ i l. absurd (omega arith);
  never_4 = λ i l. absurd (omega arith);
  answers = λ i l. absurd (omega arith);
  unused = λ i l. absurd (omega arith);
  past = λ at l. refl;
}
class_one_by_one dev (chain ∷ chains) f results h =
    let size : ℕ = result_size (length chain) in
    let there : size ≤ length results = omega (arith, h) in
    let behind_it : results_of chains ≤ length (drop size results) = rw (length-drop size results) (omega (arith, h)) in
    one_more dev chain chains f results there _ (class_one_by_one dev chains (next dev chain chains f results) (drop size results) behind_it)

pub class_marked : (dev : Device) (bytes main store unit results : List ℕ) (chains : List (List ℕ)) → chains_in bytes ≡ some chains → results_of chains ≤ length results
    → ((run_class_of dev bytes main store unit results).result ≡ result_of 0 0)
    × OneByOne dev chains (record { main = main; store = store; unit = unit }) results (run_class_of dev bytes main store unit results).left
unfolding bad_class
class_marked dev bytes main store unit results chains e h =
    let right : bad_class (chains_in bytes) (length results) ≡ false = rw e (le-ltb _ _ h) in
    rw (class_right dev bytes main store unit results right, e) (refl, class_one_by_one dev chains _ results h)
