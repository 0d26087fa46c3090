-- Demands 1 and 2, of a whole chain (`specs/Reached.antt`).
--     run_found            a run leaves what its commands find one after another, and goes on after each but the last; found_after   their answers are dense
--     next_refused         a refused command leaves what it found, but for its answer and its sense
--     found_kept, found_rest
--                          an answer that was put stays; bytes behind the answers that were put are as they were lent
--     run_each, call_each  the run, and the call
--     call_numbers         of a call that is lent bytes, each answer holds its numbers whole
-- Assumes nothing.
use Prim.Native.Nat.{ℕ, zero, suc, ◌+◌, ◌*◌, ◌≤◌, ◌<◌}
use mathlib.Core.Path.{◌≡◌, refl, sym, ap, ◌∙◌}
use mathlib.Core.Logic.{inl}
use mathlib.Core.Bool.{true, false, false≢true}
use mathlib.Core.List.{List, ◌++◌}
use lib.ListN.{length, get_or}
use lib.Seq.{get_or-append-add}
use native.Mathlib.Nat.{add_assoc}
use native.Mathlib.Numerals.{add-one}
use native.Mathlib.Omega.{arith}
use borrow.Author.Tests.{eqb-true, ne_eqb}
use Rattle.numbers.specs.Bytes.{AreBytes}
use Rattle.slices.specs.Parts.{zeros, part, put}
use Rattle.slices.proofs.Laws.{length_zeros, length_put, get_after, get_part, by_place, part_apart, part_put}
use Rattle.model.specs.declared.record.Record.{Record}
use Rattle.model.specs.declared.kind.Kind.{Kind}
use Rattle.model.specs.declared.device.Device.{Device}
use Rattle.model.specs.State.{State, Done}
use Rattle.model.specs.Rules.{first_of}
use Rattle.model.specs.Pieces.{Command, commands_in, command_at}
use Rattle.model.specs.Alternates.{map_entries, map_size}
use Rattle.model.specs.Causes.{call_causes, causes_of, verdict, kind_of}
use Rattle.model.specs.Commands.{after, leaves, sense_given, refused, refusal}
use Rattle.model.specs.Names.{cause_at}
use Rattle.model.specs.Answer.{channel_status, residual, filled, answer_size, answer_of, answers_of, answered, goes_on}
use Rattle.model.specs.Chain.{System, system, step_at, next, more, run, start, Called, called, call_of}
use Rattle.model.specs.Exactly.{GivenExactly}
use Rattle.model.specs.Reached.{found, done_at, answers_at, last_at, refused_answers, Answered, RefusedThere, EachReached, Numbers}
use Rattle.numbers.proofs.Choice.{pick_ind}
use Rattle.model.proofs.Leaving.{leaves_ind, channel_refused}
use Rattle.model.proofs.Steps.{step_cause, step_refused}
use Rattle.model.proofs.Endings.{callable}
use Rattle.model.proofs.Pieces.{ccws_left, all_left, next_left, command_small}
use Rattle.model.proofs.Lengths.{answers_length}
use Rattle.model.proofs.Fields.{Sized, IsRecord, step_fields}
use Rattle.model.proofs.Kept.{answer_holds, IsLent, next_bytes, some_size}
use Rattle.model.proofs.Exactly.{step_exactly}

module _ (dev : Device) (chain : List ℕ) where
  -- one command

  refused_answers_lem : (c : Command) (s : State) (w : ℕ) (p : List ℕ) → (w ≡ 0 → ⊥) → answers_of c (refusal s w p) ≡ refused_answers c w
  unfolding answers_of filled answer_of channel_status residual
  refused_answers_lem c s w p n = rw (channel_refused w _ false n) refl

  refused_map : (k : Kind) (s : State) (sense : List ℕ) → (leaves k s sense).map ≡ s.map
  unfolding after
  refused_map k s sense = leaves_ind (λ (t : State). t.map ≡ s.map) k s sense refl refl refl

  pub next_refused : (i : ℕ) (f : System) → ((step_at dev chain i f).done.cause ≡ 0 → ⊥) → (w : ℕ)
      → RefusedThere (command_at chain i) f (step_at dev chain i f).done.cause (called w (next dev chain i f))
  unfolding next step_at refused after answered filled
  next_refused i f n w =
      let c : Command = command_at chain i in
      let v : ℕ = verdict dev c f.state f.main f.store in
      let given : (v ≡ 0 → ⊥) = λ z. n (step_cause dev c f.state f.main f.store ∙ z) in
      let e = step_refused dev c f.state f.main f.store given in
      record { last = rw e refl; main = rw e refl; store = rw e refl; map = rw e (refused_map (kind_of v) f.state (sense_given v c f.main)); unit = rw e refl; answers = rw (e, refused_answers_lem c f.state v (sense_given v c f.main) given) refl }

  refused_stops : (i : ℕ) (f : System) → ((step_at dev chain i f).done.cause ≡ 0 → ⊥) → more dev chain i f ≡ false
  unfolding more goes_on
  refused_stops i f n = rw (ne_eqb _ _ n)

  -- the commands one after another, from a system y at the chain's beginning

  found_next : (i : ℕ) (y : System) → found dev chain (i + 1) y ≡ next dev chain i (found dev chain i y)
  unfolding found
  found_next i y = rw (add-one i) refl

  -- the last of a command's answers shows its cause, which is given exactly
  last_answer : (c : Command) (d : Done) (l : List ℕ) (at k : ℕ) → k < answer_size → part l (at * answer_size) (answered c d * answer_size) ≡ answers_of c d
      → get_or l ((at + filled c d) * answer_size + k) 0 ≡ get_or (answer_of c d) k 0
  unfolding answers_of answered
  last_answer c d l at k h e =
      let n : ℕ = filled c d * answer_size in
      let there : (at + filled c d) * answer_size + k ≡ at * answer_size + (n + k) = omega arith in
      let front : length (zeros n) ≡ n = length_zeros n in
      rw there
      (sym (get_part l (at * answer_size) ((filled c d + 1) * answer_size) (n + k) (omega (arith, h)))
      ∙ ap (λ (x : List ℕ). get_or x (n + k) 0) e
      ∙ ap (λ (m : ℕ). get_or (zeros n ++ answer_of c d) (m + k) 0) (sym front)
      ∙ get_or-append-add (zeros n) (answer_of c d) k 0)

  answer_cause : (c : Command) (d : Done) → get_or (answer_of c d) cause_at 0 ≡ d.cause
  unfolding answer_of
  answer_cause c d = refl

  put_answers : (l : List ℕ) (at : ℕ) (c : Command) (d : Done) → at + answered c d * answer_size ≤ length l → part (put l at (answers_of c d)) at (answered c d * answer_size) ≡ answers_of c d
  put_answers l at c d h = rw (← (answers_length c d)) (part_put l at (answers_of c d) (rw (answers_length c d) h))

  done_exactly : (i : ℕ) (f : System) → GivenExactly (causes_of dev (command_at chain i) f.state f.main f.store) (step_at dev chain i f).done.cause
  unfolding step_at
  done_exactly i f = step_exactly dev (command_at chain i) f.state f.main f.store

  module _ (y : System) where
    -- what command i adds to the answers
    adds : ℕ → ℕ
    adds i = answered (command_at chain i) (done_at dev chain i y)

    found_reached : (i : ℕ) → (found dev chain (suc i) y).reached ≡ (found dev chain i y).reached + adds i
    unfolding found next adds
    found_reached i = refl

    -- the answers of a command end where those of a later one begin
    found_after : (i k : ℕ) → i < k → (found dev chain i y).reached + adds i ≤ (found dev chain k y).reached
    found_after i zero a = absurd (omega arith)
    found_after i (suc k) a = by_place _ i k 1
        (λ l. omega (arith, found_after i k l, found_reached k))
        (λ j l z. let same : i ≡ k = omega (arith, z, l) in rw same (omega (arith, found_reached k)))
        (λ l. absurd (omega (arith, a, l)))

    found_rises : (i k : ℕ) → i ≤ k → (found dev chain i y).reached ≤ (found dev chain k y).reached
    found_rises i k a = by_place _ i k 1 (λ l. omega (arith, found_after i k l)) (λ j l z. let same : i ≡ k = omega (arith, z, l) in rw same (omega arith)) (λ l. absurd (omega (arith, a, l)))

    module _ (room : (y.reached + ccws_left chain 0) * answer_size ≤ length y.answers) where
      -- the answers keep their length, and there is room for those of all the CCWs that are left
      found_room : (k : ℕ) → k ≤ length (commands_in chain) → (length (found dev chain k y).answers ≡ length y.answers) × (((found dev chain k y).reached + ccws_left chain k) * answer_size ≤ length y.answers)
      unfolding found next
      found_room zero h = (refl, room)
      found_room (suc k) h =
          let e = found_room k (omega arith) in
          let few = next_left chain k (done_at dev chain k y) (omega arith) in
          (length_put _ ((found dev chain k y).reached * answer_size) _ (rw (answers_length, e.0) (omega (arith, few, e.1))) ∙ e.0, rw (← (add-one k)) (omega (arith, few, e.1)))

      -- an answer that was put stays
      found_fits : (k : ℕ) → k < length (commands_in chain) → ((found dev chain k y).reached + adds k) * answer_size ≤ length (found dev chain k y).answers
      unfolding adds
      found_fits k h =
          let e = found_room k (omega arith) in
          omega (arith, next_left chain k (done_at dev chain k y) h, e.0, e.1)

      found_kept : (i k : ℕ) → i < k → k ≤ length (commands_in chain) → part (found dev chain k y).answers (answers_at dev chain i y) (adds i * answer_size) ≡ answers_of (command_at chain i) (done_at dev chain i y)
      unfolding found next adds
      found_kept i zero a h = absurd (omega arith)
      found_kept i (suc k) a h =
          let fits = found_fits k (omega arith) in
          by_place _ i k 1
          (λ l. part_apart _ (answers_at dev chain k y) _ (answers_at dev chain i y) (adds i * answer_size) (rw answers_length (omega (arith, fits))) (inl (omega (arith, found_after i k l))) ∙ found_kept i k l (omega arith))
          (λ j l z. let same : i ≡ k = omega (arith, z, l) in rw same (put_answers _ (answers_at dev chain k y) _ _ (omega (arith, fits))))
          (λ l. absurd (omega (arith, a, l)))

      found_answered : (i k w : ℕ) → i < k → k ≤ length (commands_in chain) → Answered dev chain y i (called w (found dev chain k y))
      unfolding adds
      found_answered i k w a h =
          let e = found_kept i k a h in
          let c : Command = command_at chain i in
          let d : Done = done_at dev chain i y in
          record { kept = e; exact = rw (last_answer c d _ (found dev chain i y).reached cause_at (omega arith) e, answer_cause c d) (done_exactly i (found dev chain i y)) }

      found_rest : (k at : ℕ) → (found dev chain k y).reached * answer_size ≤ at → k ≤ length (commands_in chain) → get_or (found dev chain k y).answers at 0 ≡ get_or y.answers at 0
      unfolding found next adds
      found_rest zero at l h = refl
      found_rest (suc k) at l h =
          let fits = found_fits k (omega arith) in
          get_after _ (answers_at dev chain k y) _ at (rw answers_length (omega (arith, fits))) (rw answers_length (omega (arith, l))) ∙ found_rest k at (omega (arith, l)) (omega arith)

    -- what a run from command i on leaves: `done` commands are done then
    record From (i n : ℕ) (z : System) : Type 0 where
      done : ℕ
      left : z ≡ found dev chain done y
      few : done ≤ i + n
      went_on : (j : ℕ) → i ≤ j → j + 1 < done → more dev chain j (found dev chain j y) ≡ true

    next_from : (i n : ℕ) → From i (suc n) (next dev chain i (found dev chain i y))
    next_from i n = record { done = i + 1; left = sym (found_next i y); few = omega arith; went_on = λ j a b. absurd (omega (arith, a, b)) }

    run_found : (n i : ℕ) → From i n (run dev chain n i (found dev chain i y))
    unfolding run
    run_found zero i = record { done = i; left = refl; few = omega arith; went_on = λ j a b. absurd (omega (arith, a, b)) }
    run_found (suc n) i =
        pick_ind (From i (suc n)) _ _ _
        (λ b.
        let k : From (i + 1) n (run dev chain n (i + 1) (next dev chain i (found dev chain i y))) = rw (← (found_next i y)) (run_found n (i + 1)) in
        record {
          done = k.done;
          left = k.left;
          few = omega (arith, k.few);
          went_on = λ j a l. by_place _ j i 1 (λ h. absurd (omega (arith, a, h))) (λ o h e. let same : j ≡ i = omega (arith, e, h) in rw same b) (λ h. k.went_on j h l);
        })
        (λ _. next_from i n)

    -- the run

    module _ (n : ℕ) (few : n ≤ length (commands_in chain)) (room : (y.reached + ccws_left chain 0) * answer_size ≤ length y.answers) (w : ℕ) where
      pub run_each : EachReached dev chain y (called w (run dev chain n 0 y))
      unfolding found
      run_each =
          let z : System = run dev chain n 0 y in
          let k : From 0 n z = run_found n 0 in
          let m : k.done ≤ length (commands_in chain) = omega (arith, k.few, few) in
          let before : (i : ℕ) → (found dev chain i y).reached < z.reached → i < k.done = λ i h.
          by_place _ i k.done 1 (λ l. l) (λ j l e. absurd (omega (arith, h, ap (λ (q : System). q.reached) k.left, found_rises k.done i (omega (arith, e)))))
          (λ l. absurd (omega (arith, h, ap (λ (q : System). q.reached) k.left, found_rises k.done i (omega (arith, l))))) in
          record {
            answered = λ i h. rw k.left (found_answered room i k.done w (before i h) m);
            refused = λ i h c. by_place _ k.done (i + 1) 1 (λ l. absurd (omega (arith, before i h, l)))
                (λ j l e. let last : k.done ≡ i + 1 = omega (arith, e, l) in rw (k.left, last, found_next) (next_refused i (found dev chain i y) c w))
                (λ l. absurd (false≢true (sym (refused_stops i _ c) ∙ k.went_on i (omega arith) (omega (arith, l)))));
            not_reached = λ at l. rw k.left (found_rest room k.done at (rw k.left at l) m);
          }

-- the call

pub call_each : (dev : Device) (chain main store : List ℕ) (u : Record) (map answers : List ℕ)
    → EachReached dev chain (system (start u map) main store answers 0) (call_of dev chain main store u map answers)
unfolding call_of
call_each dev chain main store u map answers =
    let y : System = system (start u map) main store answers 0 in
    let w : ℕ = first_of (call_causes dev chain main store map answers) in
    pick_ind (λ (z : System). EachReached dev chain y (called w z)) _ _ _
    (λ b.
    let k = callable dev chain main store map answers (eqb-true _ _ b) in
    run_each dev chain y (length (commands_in chain)) (omega arith) (omega (arith, k.whole, k.answered, all_left chain)) w)
    (λ _. record { answered = λ i h. absurd (omega arith); refused = λ i h c. absurd (omega arith); not_reached = λ at h. refl })

-- the numbers of an answer

module _ (dev : Device) (chain : List ℕ) (h : 1 ≤ dev.block) (few : dev.alternates ≤ map_entries) (b : AreBytes chain) where
  found_bytes : (i : ℕ) (y : System) → IsLent y → IsLent (found dev chain i y)
  unfolding found
  found_bytes zero y l = l
  found_bytes (suc i) y l = next_bytes dev chain h few b i _ (found_bytes i y l)

  each_numbers : (y : System) (i : ℕ) (r : Called) → IsLent y → Answered dev chain y i r → Numbers (command_at chain i) (done_at dev chain i y) (last_at dev chain i y) r
  unfolding step_at
  each_numbers y i r l a =
      let f : System = found dev chain i y in
      let c : Command = command_at chain i in
      let d : Done = done_at dev chain i y in
      let k = found_bytes i y l in
      let s = step_fields dev c f.state f.main f.store h few k.unit_fields k.map_fields k.main_bytes k.store_bytes k.located_fits in
      let q = answer_holds c d (command_small chain i b) s.cause_byte s.blocks_fit in
      let at : (n : ℕ) → n < answer_size → get_or r.answers (last_at dev chain i y + n) 0 ≡ get_or (answer_of c d) n 0 = λ n m. last_answer dev chain c d r.answers f.reached n m a.kept in
      record {
        residual_whole = rw (add_assoc _ 2 1, at 2 (omega arith), at 3 (omega arith)) q.residual_whole;
        cause_whole = at 4 (omega arith) ∙ q.cause_whole;
        blocks_whole = rw (add_assoc _ 6 1, at 6 (omega arith), at 7 (omega arith)) q.blocks_whole;
      }

-- a call that reached a command was not refused
reached_ran : (dev : Device) (chain main store : List ℕ) (u : Record) (map answers : List ℕ) (i : ℕ)
    → i < (call_of dev chain main store u map answers).reached → first_of (call_causes dev chain main store map answers) ≡ 0
unfolding call_of
reached_ran dev chain main store u map answers i =
    let w : ℕ = first_of (call_causes dev chain main store map answers) in
    pick_ind (λ (z : System). i < z.reached → w ≡ 0) _ _ _ (λ b _. eqb-true _ _ b) (λ _ l. absurd (omega arith))

pub call_numbers : (dev : Device) (chain main store : List ℕ) (u : Record) (map answers : List ℕ)
    → AreBytes chain → AreBytes main → AreBytes store → IsRecord u → Sized map_size map → AreBytes answers
    → (i : ℕ) → (found dev chain i (system (start u map) main store answers 0)).reached < (call_of dev chain main store u map answers).reached
    → Numbers (command_at chain i) (done_at dev chain i (system (start u map) main store answers 0)) (last_at dev chain i (system (start u map) main store answers 0)) (call_of dev chain main store u map answers)
unfolding start
call_numbers dev chain main store u map answers b m d r p a i l =
    let y : System = system (start u map) main store answers 0 in
    let k = callable dev chain main store map answers (reached_ran dev chain main store u map answers _ l) in
    each_numbers dev chain (some_size dev store k.some_block) k.few_alternates b y i _
    (record { unit_fields = r; map_fields = p; main_bytes = m; store_bytes = d; answers_bytes = a; located_fits = omega arith }) ((call_each dev chain main store u map answers).answered i l)
