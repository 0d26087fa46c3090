-- Laws of `run`, and of what is left beside it: done, one more command, and the command that ends it. No contract cites this file.
--     Underway                     what holds between two turns of the loop; it begins so, goes on so, and ends in the run
--     begins_command               the command that a CCW begins, and the commands behind it
--     left_known                   `Leaves` says all of what a command leaves
--     turned                       one turn of the code is `next`, its answer to "go on" is `more`, and it leaves what the command does
--     sound_same, callable_sound   the device and the state of a run
--     called_left, allowed         a run that no cause refuses is the call
use Prim.Native.Nat.{ℕ, zero, suc, ◌+◌, ◌-◌, ◌*◌, ◌≤◌, ◌<◌}
use mathlib.Core.Path.{◌≡◌, refl, sym, ap, ◌∙◌}
use mathlib.Core.Bool.{Bool, true, false, not, ◌&&◌}
use mathlib.Core.List.{List, [], ◌∷◌, ◌++◌}
use lib.ListN.{length, get_or, drop, length-drop}
use lib.Seq.{drop-nil}
use native.Mathlib.Nat.{sub-zero}
use native.Mathlib.Numerals.{add-one}
use native.Mathlib.Omega.{arith}
use borrow.Author.Tests.{eqb-true, eqb-false}
use Rattle.numbers.specs.Bits.{bit}
use Rattle.numbers.specs.Choice.{◌=?◌, pick, one_of}
use Rattle.numbers.proofs.Choice.{pick_true, pick_false}
use Rattle.numbers.proofs.Joined.{both_true}
use Rattle.slices.specs.Parts.{zeros, put}
use Rattle.model.specs.declared.decoded.Decoded.{Decoded}
use Rattle.model.specs.declared.device.Device.{Device}
use Rattle.model.specs.declared.kind.Kind.{Kind}
use Rattle.model.specs.declared.kind.Kind.TheVariants.{Accepted}
use Rattle.model.specs.declared.record.Record.{Record}
use Rattle.model.specs.declared.record.UnitRecord.{UnitRecord}
use Rattle.model.specs.Alternates.{map_size}
use Rattle.model.specs.State.{Done}
use Rattle.model.specs.Log.{with_counts}
use Rattle.model.specs.Names.{NO_OPERATION, chain_command}
use Rattle.model.specs.Rules.{first_of}
use Rattle.model.specs.Lent.{flag, block_count}
use Rattle.model.specs.Pieces.{Command, commands_from, commands_in, command_at, final}
use Rattle.model.specs.Decoded.{pieces_from, command_of, Decodes}
use Rattle.model.specs.Causes.{call_causes, kind_by, kind_of}
use Rattle.model.specs.Commands.{Out, step}
use Rattle.model.specs.Answer.{answer_size, residual, filled, answers_of, answered, channel_by, channel_status, wrong_length, goes_on}
use Rattle.model.specs.Chain.{System, step_at, next, more, run, called}
use Rattle.model.specs.Safe.{Usable, Closes, Safe}
use Rattle.model.proofs.Leaving.{status_byte, channel_byte}
use Rattle.model.proofs.Endings.{Callable}
use Rattle.model.proofs.Fields.{verdict_small, step_blocks}
use Rattle.model.proofs.Pieces.{ccws_in, ccws_in_lem, ccws_left, some_command}
use Rattle.model.proofs.Refusals.{call_ran}
use Rattle.model.proofs.Lengths.{Going, next_going}
use Rattle.model.proofs.Blocks.{mounted_same}
use Rattle.model.proofs.Safety.{safe_start}
use Rattle.model.proofs.Steps.{step_cause}
use Rattle.unit_state.specs.declared.Left.{Left}
use Rattle.unit_state.specs.declared.Running.{Running}
use Rattle.buffered_log.specs.Counts.{counted}
use Rattle.unit_state.specs.Standing.{holding, started, unit_of, state_of, state_left, unit_left, Sound}
use Rattle.unit_state.proofs.Units.{left_any, left_map, started_state, safe_any}
use Rattle.endings.specs.declared.Answer.{Answer}
use Rattle.endings.specs.declared.Ended.{Ended}
use Rattle.endings.specs.Ending.{answer_words, wrong_by, Leaves, Ends}
use Rattle.endings.proofs.Answers.{answer_bytes_lem}
use Rattle.answers.specs.Reached.{spread_over, answers_given}
use Rattle.chain.specs.Walk.{is_accepted, carried_of, left_of, left_at, left_from, system_of, system_left, ccws_of, Begins, Turned, Walks, Allowed}
use Rattle.chain.specs.declared.run.Turn.{Turn}
use Rattle.chain.specs.declared.run.Walked.{Walked}

-- the commands of a chain, from one on

drop_head : (cs : List Command) (i : ℕ) (d k : Command) (ks : List Command) → drop i cs ≡ k ∷ ks → (get_or cs i d ≡ k) × (drop (suc i) cs ≡ ks)
drop_head [] i d k ks e = absurd (omega (arith, ap length (sym (drop-nil i) ∙ e)))
drop_head (c ∷ cs) zero d k ks e = (ap (λ (l : List Command). get_or l 0 d) e, ap (drop 1) e)
drop_head (c ∷ cs) (suc i) d k ks e = drop_head cs i d k ks e

-- command i is the one that CCW `at` begins, and the next one begins behind it
pub begins_command : (chain : List ℕ) (i at end : ℕ) (k : Command) → Begins chain i at → commands_from chain (ccws_of chain - at) at ≡ k ∷ commands_from chain (ccws_of chain - end) end
    → (command_at chain i ≡ k) × Begins chain (i + 1) end
unfolding command_at
begins_command chain i at end k b e = rw (add-one i) (drop_head (commands_in chain) i _ k _ (b ∙ e))

begins_left : (chain : List ℕ) (i at : ℕ) → Begins chain i at → ccws_left chain i ≡ ccws_of chain - at
unfolding ccws_left
begins_left chain i at b = ap ccws_in b ∙ ccws_in_lem chain (ccws_of chain - at) at

begins_some : (chain : List ℕ) (i at : ℕ) → Begins chain i at → at < ccws_of chain → i < length (commands_in chain)
begins_some chain i at b h =
    let some : 0 < length (commands_from chain (ccws_of chain - at) at) = some_command (commands_from chain (ccws_of chain - at) at) (omega (arith, h, ccws_in_lem chain (ccws_of chain - at) at)) in
    let long : length (commands_in chain) - i ≡ length (commands_from chain (ccws_of chain - at) at) = sym (length-drop i (commands_in chain)) ∙ ap length b in
    omega (arith, some, long)

-- the CCWs of a chain that ends with one of them or behind it
pub closes_some : (chain : List ℕ) (at : ℕ) → Closes chain at → at < ccws_of chain
closes_some chain at c = omega (arith, c.from, c.lent)

pub length_pieces : (chain : List ℕ) (i n : ℕ) → length (pieces_from chain i n) ≡ n
unfolding pieces_from
length_pieces chain i zero = refl
length_pieces chain i (suc n) = ap suc (length_pieces chain (i + 1) n)

-- the CCWs from one on are those of the command that it begins, and those behind it
pub command_ccws : (chain : List ℕ) (at : ℕ) (c : Decoded) → commands_from chain (ccws_of chain - at) at ≡ command_of chain c ∷ commands_from chain (ccws_of chain - c.area.end) c.area.end
    → c.area.end - c.area.next + 1 + (ccws_of chain - c.area.end) ≡ ccws_of chain - at
unfolding ccws_in
command_ccws chain at c e =
    let all = ccws_in_lem chain (ccws_of chain - at) at in
    let behind = ccws_in_lem chain (ccws_of chain - c.area.end) c.area.end in
    let own = length_pieces chain c.area.next (c.area.end - c.area.next) in
    omega (arith, all, behind, own, ap ccws_in e)

module _ (dev : Device) (chain : List ℕ) where
  -- one command is left to do, at least
  run_suc : (m n i : ℕ) (y : System) → m ≡ suc n
      → run dev chain m i y ≡ pick (more dev chain i y) (run dev chain n (i + 1) (next dev chain i y)) (next dev chain i y)
  unfolding run
  run_suc m n i y e = rw e

  left_suc : (m n i : ℕ) (s : Running) (y : System) → m ≡ suc n
      → left_from dev chain m i s y ≡ pick (more dev chain i y)
      (left_from dev chain n (i + 1) (left_at dev chain i s y).state (next dev chain i y)) (left_at dev chain i s y)
  unfolding left_from
  left_suc m n i s y e = rw e

  -- a command after which the chain goes on was accepted, and leaves the state that is carried
  on_left : (u : UnitRecord) (i : ℕ) (s : Running) (y : System) (l : Left) → more dev chain i y ≡ true → l ≡ left_at dev chain i s y
      → state_left u l ≡ state_of u l.state
  unfolding more goes_on left_of one_of
  on_left u i s y l g f =
      let accepted : (step_at dev chain i y).done.cause ≡ 0 = eqb-true _ _ (both_true _ _ (both_true _ _ g).0).0 in
      let kind : l.kind ≡ Accepted = ap (λ (x : Left). x.kind) f ∙ ap kind_of accepted in
      rw kind

  module _ (u : Record) (main₀ store₀ map₀ answers₀ : List ℕ) (n : ℕ) (s₀ : Running) where
    abbrev lent : System
    lent = system_of (holding u map₀) s₀ main₀ store₀ answers₀ 0

    -- what the whole run gives
    abbrev pub Given : System → Left → Type 0
    Given y l = (y ≡ run dev chain n 0 lent) × (l ≡ left_from dev chain n 0 s₀ lent)

    pub given_walks : {w : Walked} {main store map answers : List ℕ} → n ≡ length (commands_in chain) → Given (system_left (holding u map) w.left main store answers w.reached) w.left
        → Walks dev chain (holding u map) s₀ lent w main store answers
    given_walks e g = record { after = rw e at g.0; left = rw e at g.1 }

    -- between two turns: the lengths are kept, the state is safe, command i begins with CCW `at`, from which on the chain ends, there is
    -- room for an answer to each CCW from there on, and what is still to run from here gives what the whole run does
    pub record Underway (main store map answers : List ℕ) (s : Running) (at reached : ℕ) : Type 0 where
      pub command : ℕ
      pub count : n ≡ length (commands_in chain)
      pub begins : Begins chain command at
      pub closes : Closes chain at
      pub main_length : length main ≡ length main₀
      pub store_length : length store ≡ length store₀
      pub map_length : length map ≡ length map₀
      pub answers_length : length answers ≡ length answers₀
      pub room : (reached + (ccws_of chain - at)) * answer_size ≤ length answers₀
      pub safe : Safe (state_of (holding u map) s) (block_count dev store)
      pub same : Given (run dev chain (n - command) command (system_of (holding u map) s main store answers reached))
          (left_from dev chain (n - command) command s (system_of (holding u map) s main store answers reached))

    pub underway_start : n ≡ length (commands_in chain) → Closes chain 0 → length chain ≤ length answers₀ → Safe (state_of (holding u map₀) s₀) (block_count dev store₀) → Underway main₀ store₀ map₀ answers₀ s₀ 0 0
    unfolding commands_in
    underway_start e c l h = record {
      command = 0;
      count = e;
      begins = rw sub-zero refl;
      closes = c;
      main_length = refl;
      store_length = refl;
      map_length = refl;
      answers_length = refl;
      room = omega (arith, l);
      safe = h;
      same = (rw sub-zero refl, rw sub-zero refl);
    }

    module _ (main store map answers : List ℕ) (s : Running) (at reached : ℕ) (w : Underway main store map answers s at reached) where
      abbrev here : System
      here = system_of (holding u map) s main store answers reached

      -- a CCW of the chain begins a command
      underway_more : w.command < n
      underway_more = rw w.count (begins_some chain w.command at w.begins (closes_some chain at w.closes))

      -- a turn that goes on leaves the run underway
      pub underway_next : (main' store' map' answers' : List ℕ) (t : Turn) → 1 ≤ block_count dev store → length map' ≡ length map → Turned dev chain (holding u map') s here at w.command t main' store' answers' → more dev chain w.command here ≡ true
          → Underway main' store' map' answers' t.left.state t.end t.reached
      underway_next main' store' map' answers' t b same_map p g =
          let i : ℕ = w.command in
          let more : i < n = underway_more in
          let e : system_of (holding u map') t.left.state main' store' answers' t.reached ≡ next dev chain i here = rw (on_left (holding u map') i s here t.left g p.left) at p.after in
          let long : length answers ≡ length answers₀ = w.answers_length in
          let left : ccws_left chain i ≡ ccws_of chain - at = begins_left chain i at w.begins in
          let behind : ccws_left chain (i + 1) ≡ ccws_of chain - t.end = begins_left chain (i + 1) t.end p.behind in
          let k = next_going dev chain here b i here (omega (arith, more, w.count)) (omega (arith, long, left, w.room)) (record { main_length = refl; store_length = refl; answers_length = refl; safe = w.safe }) in
          let m : Going dev here (system_of (holding u map') t.left.state main' store' answers' t.reached) = rw e k.0 in
          let given : t.reached ≡ (next dev chain i here).reached = ap (λ (y : System). y.reached) e in
          record {
            command = i + 1;
            count = w.count;
            begins = p.behind;
            closes = p.closes (p.go ∙ g);
            main_length = m.main_length ∙ w.main_length;
            store_length = m.store_length ∙ w.store_length;
            map_length = same_map ∙ w.map_length;
            answers_length = m.answers_length ∙ w.answers_length;
            room = omega (arith, k.1, given, behind, long);
            safe = m.safe;
            same = (
              rw e (sym (run_suc (n - i) (n - (i + 1)) i here (omega (arith, more)) ∙ pick_true _ _ _ g)) ∙ w.same.0,
              rw (e, p.left) (sym (left_suc (n - i) (n - (i + 1)) i s here (omega (arith, more)) ∙ pick_true _ _ _ g)) ∙ w.same.1,
            );
          }

      -- a turn that does not go on ends the run
      pub underway_stop : (y : System) (l : Left) → y ≡ next dev chain w.command here → more dev chain w.command here ≡ false
          → l ≡ left_at dev chain w.command s here → Given y l
      underway_stop y l e g f =
          let i : ℕ = w.command in
          let more : i < n = underway_more in (
            e ∙ sym (run_suc (n - i) (n - (i + 1)) i here (omega (arith, more)) ∙ pick_false _ _ _ g) ∙ w.same.0,
            f ∙ sym (left_suc (n - i) (n - (i + 1)) i s here (omega (arith, more)) ∙ pick_false _ _ _ g) ∙ w.same.1,
          )

-- `Leaves` says all of what is left
pub left_known : (u : UnitRecord) (c : Command) (s : Running) (l : Left) (o : Out) → Leaves u c s l o → l ≡ left_of c s o
unfolding left_of pick state_of unit_of counted with_counts
left_known u c s l o p =
    let state = go (o.done.cause =? 0) refl in
    λ i. record { state = state i; sense = p.sense i; kind = p.kind i }
  where
    go : (b : Bool) → o.done.cause =? 0 ≡ b → l.state ≡ pick b (carried_of (s.kept && c.command =? NO_OPERATION) o.done.state) s
    go true e =
        let z = eqb-true _ _ e in
        let kind : l.kind ≡ Accepted = p.kind ∙ ap kind_of z in
        let same : state_of u l.state ≡ o.done.state = rw kind at p.state in
        rw (← (p.kept z), ← same) refl
    go false e = p.refused (eqb-false _ _ e)

-- one turn is the definition's: the command, the step, the answers

-- of an accepted command, its channel status is zero where its length is not wrong
go_by_kind : (zero channels wrong chained : Bool) → (zero && channel_by (kind_by zero channels) wrong =? 0 && chained) ≡ (is_accepted (kind_by zero channels) && not (wrong_by (kind_by zero channels) wrong) && chained)
go_by_kind true channels true chained = refl
go_by_kind true channels false chained = refl
go_by_kind false true wrong chained = refl
go_by_kind false false wrong chained = refl

-- what is put for a command is its answers
given_answers : (chain : List ℕ) (c : Decoded) (d : Done) (last : Answer) (moved : ℕ) (wrong : Bool) → last ≡ answer_words (kind_of d.cause) d.cause d.blocks → moved ≡ d.moved
    → wrong ≡ wrong_by (kind_of d.cause) (wrong_length (command_of chain c) d.can) → (spread_over chain c.area moved).residual < 65536 → d.cause < 256 → d.blocks < 65536
    → answers_given chain c.area last moved wrong ≡ answers_of (command_of chain c) d
unfolding answers_given answers_of filled residual
given_answers chain c d last moved wrong e f g hr hw hb =
    rw (e, f, g) (ap (λ (l : List ℕ). zeros (filled (command_of chain c) d * answer_size) ++ l) (answer_bytes_lem (command_of chain c) d (rw (← f) hr) hw hb))

pub front_small : {u : UnitRecord} {c : Command} {s : Running} {r : Ended} {main store : List ℕ} {o : Out} → Ends u c s r main store o → r.answer.front < 4294967296
front_small {o = o} f =
    let k : Kind = kind_of o.done.cause in
    rw f.answer (omega (arith, status_byte k, channel_byte k false))

module _ (dev : Device) (chain : List ℕ) (at i : ℕ) (c : Decoded) (u : Record) (s : Running) (main store map answers main' store' map' : List ℕ) (r : Ended) (reached : ℕ)
    (decodes : Decodes chain c) (e : command_at chain i ≡ command_of chain c) (f : Ends (holding u map') (command_of chain c) s r main' store' (step dev (command_of chain c) (state_of (holding u map) s) main store)) where
  abbrev found : System
  found = system_of (holding u map) s main store answers reached

  turned_system : (answers' : List ℕ) (given : ℕ) → answers' ≡ put answers (reached * answer_size) (answers_given chain c.area r.answer r.moved r.wrong)
      → given ≡ reached + ((spread_over chain c.area r.moved).filled + 1) → (spread_over chain c.area r.moved).residual < 65536 → 1 ≤ dev.block → s.located.blocks < 65536
      → system_left (holding u map') r.left main' store' answers' given ≡ next dev chain i found
  unfolding next step_at answered filled state_of
  turned_system answers' given h g m b l =
      let k : Command = command_of chain c in
      let o : Out = step dev k (state_of (holding u map) s) main store in
      let small : o.done.cause < 256 = rw (step_cause dev k (state_of (holding u map) s) main store) (verdict_small dev k (state_of (holding u map) s) main store) in
      let few : o.done.blocks < 65536 = step_blocks dev k (state_of (holding u map) s) main store b l in
      let answer : answers_given chain c.area r.answer r.moved r.wrong ≡ answers_of k o.done = given_answers chain c o.done _ _ _ f.answer f.moved f.wrong m small few in
      rw (e, h, g, answer, f.moved, f.left.state, f.main_same, f.store_same)

  turned_go : (b : Bool) → b ≡ (is_accepted r.left.kind && not r.wrong && bit c.flags.0 chain_command) → b ≡ more dev chain i found
  unfolding more step_at goes_on channel_status flag
  turned_go b g =
      let k : Command = command_of chain c in
      let d : Done = (step dev k (state_of (holding u map) s) main store).done in
      rw e (g ∙ rw (f.left.kind, f.wrong, decodes.flags) (sym (go_by_kind (d.cause =? 0) (one_of (10 ∷ 11 ∷ 12 ∷ 13 ∷ []) d.cause) (wrong_length k d.can) (flag (final k) chain_command))))

  turned_left : r.left ≡ left_at dev chain i s found
  unfolding step_at
  turned_left = rw e (left_known (holding u map') (command_of chain c) s r.left _ f.left)

  -- it goes on after a last piece with flag 40
  turned_on : (b : Bool) → b ≡ (is_accepted r.left.kind && not r.wrong && bit c.flags.0 chain_command) → b ≡ true → bit c.flags.0 chain_command ≡ true
  turned_on b g e = (both_true (is_accepted r.left.kind && not r.wrong) _ (sym g ∙ e)).1

  pub turned : (answers' : List ℕ) (given : ℕ) (b : Bool) → answers' ≡ put answers (reached * answer_size) (answers_given chain c.area r.answer r.moved r.wrong)
      → given ≡ reached + ((spread_over chain c.area r.moved).filled + 1) → (spread_over chain c.area r.moved).residual < 65536 → Usable dev → s.located.blocks < 65536
      → b ≡ (is_accepted r.left.kind && not r.wrong && bit c.flags.0 chain_command) → Begins chain (i + 1) c.area.end → at < c.area.end
      → (bit c.flags.0 chain_command ≡ true → Closes chain c.area.end)
      → Turned dev chain (holding u map') s found at i (record { left = r.left; end = c.area.end; reached = given; go = b }) main' store' answers'
  turned answers' given b h g m d l k y z o = record {
    after = turned_system answers' given h g m d.some_size l;
    go = turned_go b k;
    left = turned_left;
    behind = y;
    on = z;
    closes = λ e. o (turned_on b k e);
  }

-- a store and a map that kept their length are as good
pub sound_same : (dev : Device) (u : UnitRecord) (s t : Running) (store store' map map' : List ℕ) → length store' ≡ length store → length map' ≡ length map → Sound dev s store map → Safe (state_of u t) (block_count dev store')
    → Sound dev t store' map'
sound_same dev u s t store store' map map' e f r h =
    let m = mounted_same dev store map r.mounted store' (sym e) in
    record {
      mounted = record { device = m.device; some_block = m.some_block; few_blocks = m.few_blocks; few_alternates = m.few_alternates; whole_map = f ∙ m.whole_map };
      safe = λ v. safe_any v t u _ h;
    }

-- what the call's tests leave known of the device
pub callable_sound : (dev : Device) (chain main store map answers : List ℕ) (u : Record) → Usable dev → length map ≡ map_size → Callable dev chain main store map answers → Sound dev (started u) store map
callable_sound dev chain main store map answers u usable long k =
    record {
      mounted = record { device = usable; some_block = k.some_block; few_blocks = k.held; few_alternates = k.few_alternates; whole_map = long };
      safe = λ v. safe_any v (started u) (holding u map) _ (rw (started_state (holding u map)) (safe_start u map _));
    }

-- what a call gives, of a run that was not refused
pub called_left : (u : Record) (l : Left) (main store map answers : List ℕ) (reached : ℕ)
    → called 0 (system_left (holding u map) l main store answers reached) ≡ record { cause = 0; reached = reached; unit = unit_left u l; map = map; main = main; store = store; answers = answers }
called_left u l main store map answers reached = λ i. record { cause = 0; reached = reached; unit = left_any u map l i; map = left_map u map l i; main = main; store = store; answers = answers }

-- and the run that they allow is the call
pub allowed : (dev : Device) (chain main store map answers main' store' map' answers' : List ℕ) (u : Record) (t : Running) (w : Walked) → t ≡ started u → first_of (call_causes dev chain main store map answers) ≡ 0
    → Walks dev chain (holding u map') t (system_of (holding u map) t main store answers 0) w main' store' answers' → Allowed dev u chain main store map answers w main' store' map' answers'
allowed dev chain main store map answers main' store' map' answers' u t w e n f = record {
  after = ap (called 0) (rw (e, started_state (holding u map)) at f.after) ∙ sym (call_ran dev chain main store u map answers n);
  left = rw (e, started_state (holding u map)) at f.left;
}
