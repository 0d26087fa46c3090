-- A promise determines its result: two results that it allows are equal. One theorem for each form that a promise takes.
--     same_by                           a result that is named, `r ≡ f x`: most functions, and the call with every buffer in one record
--     told_unique                       a test that is true exactly where a fact holds
--     outcome_unique                    a Result that tells a verdict, `told r ≡ first_of ..`
--     ends_unique                       a command's ending with the two storages and the map, `Ends (holding u map) c s r main store ..`
--     next_unique                       what is left of an area behind a piece
--     decoded_unique                    the command that a CCW begins
--     status_unique, channel_unique     a status that is known by its byte
--     log_unique                        a log that is known by its bytes
--     walks_unique, allowed_unique      the run of a chain, and of one that no cause refuses
--     call_unique                       the call: its Result, and what was lent
--     by_value_unique, in_place_unique  the run, by value and in place
-- docs/PROOFS.md lists which function has which form. Assumes nothing.
use Prim.Native.Nat.{ℕ, ◌+◌, ◌-◌}
use mathlib.Core.Path.{◌≡◌, refl, sym, ap, ◌∙◌}
use mathlib.Core.Bool.{Bool, true, false}
use mathlib.Core.List.{List, ◌∷◌}
use lib.ListN.{length, get_or}
use native.Mathlib.Omega.{arith}
use Rattle.std.specs.Prelude.{Result, Ok, Err, ⊤}
use Rattle.model.specs.declared.cause.Cause.{Cause}
use Rattle.model.specs.declared.ccw.Piece.{Piece}
use Rattle.model.specs.declared.decoded.Area.{Area}
use Rattle.model.specs.declared.decoded.Decoded.{Decoded}
use Rattle.model.specs.Pieces.{Command, pieces, commands_from, total, final}
use Rattle.model.specs.Decoded.{later_of, area_of, command_of, Stands, Decodes}
use Rattle.model.specs.declared.record.Record.{Record}
use Rattle.model.specs.declared.record.UnitRecord.{UnitRecord}
use Rattle.model.specs.declared.record.Counts.{Counts}
use Rattle.model.specs.Log.{log_of}
use Rattle.model.specs.declared.status.UnitStatus.{UnitStatus}
use Rattle.model.specs.declared.status.ChannelStatus.{ChannelStatus}
use Rattle.model.specs.Commands.{Out, after}
use Rattle.model.specs.declared.device.Device.{Device}
use Rattle.model.specs.State.{State}
use Rattle.model.specs.Chain.{System, Called, called}
use Rattle.buffered_log.specs.declared.Log.{Log}
use Rattle.buffered_log.specs.Counts.{counted}
use Rattle.model.proofs.Leaving.{leaves_ind}
use Rattle.sense_table.specs.Sensed.{sense_bytes}
use Rattle.unit_state.specs.declared.Running.{Running}
use Rattle.unit_state.specs.declared.Left.{Left}
use Rattle.unit_state.specs.Standing.{holding, state_of, state_left}
use Rattle.endings.specs.declared.Ended.{Ended}
use Rattle.endings.specs.Ending.{Ends}
use Rattle.chain.specs.declared.run.Walked.{Walked}
use Rattle.model.specs.Told.{told, outcome_of}
use Rattle.model.proofs.Told.{outcome_told}
use Rattle.chain.specs.declared.call.Returned.{Returned}
use Rattle.chain.specs.Walk.{system_left, ccws_of, Walks, Allowed, called_with}
use Rattle.chain.proofs.Passed.{never_none, cause_same}
use Rattle.chain.proofs.Runs.{left_known, length_pieces, command_ccws}
use Rattle.model.specs.Lent.{new_record}
use Rattle.in_place.specs.declared.Ran.{Ran}
use Rattle.in_place.specs.Run.{ByValue, InPlace}

pub same_by : {A : Type 0} (x y z : A) → x ≡ z → y ≡ z → x ≡ y
same_by x y z p q = p ∙ sym q

pub told_unique : (P : Type 0) (a b : Bool) → (a ≡ true → P) × (P → a ≡ true) → (b ≡ true → P) × (P → b ≡ true) → a ≡ b
told_unique P true true f g = refl
told_unique P true false f g = sym (g.1 (f.0 refl))
told_unique P false true f g = f.1 (g.0 refl)
told_unique P false false f g = refl

pub outcome_unique : (n : ℕ) (r q : Result ⊤ Cause) → told r ≡ n → told q ≡ n → r ≡ q
outcome_unique n r q e f = sym (outcome_told r) ∙ ap outcome_of (e ∙ sym f) ∙ outcome_told q

-- the map that a `Left` stands for is the one that is lent
map_left_lem : (u : Record) (map : List ℕ) (l : Left) → (state_left (holding u map) l).map ≡ map
unfolding state_of after
map_left_lem u map l = leaves_ind (λ (t : State). t.map ≡ map) l.kind (state_of (holding u map) l.state) (sense_bytes l.sense) refl refl refl

maps_same : (u : Record) (map map' : List ℕ) (l k : Left) → state_left (holding u map) l ≡ state_left (holding u map') k → map ≡ map'
maps_same u map map' l k e = sym (map_left_lem u map l) ∙ ap (λ (t : State). t.map) e ∙ map_left_lem u map' k

-- the ending of a command: the state, the cause, its sense, the answer, the bytes moved, the wrong length, both storages and the map
pub record SameEnding (d e : Ended) (main main' store store' map map' : List ℕ) : Type 0 where
  pub ended : d ≡ e
  pub main_same : main ≡ main'
  pub store_same : store ≡ store'
  pub map_same : map ≡ map'

pub ends_unique : (o : Out) (u : Record) (c : Command) (s : Running) (d e : Ended) (main main' store store' map map' : List ℕ) → Ends (holding u map) c s d main store o → Ends (holding u map') c s e main' store' o
    → SameEnding d e main main' store store' map map'
ends_unique o u c s d e main main' store store' map map' p q =
    let left = left_known (holding u map) c s d.left o p.left ∙ sym (left_known (holding u map') c s e.left o q.left) in
    let answer = p.answer ∙ sym q.answer in
    let moved = p.moved ∙ sym q.moved in
    let wrong = p.wrong ∙ sym q.wrong in
    record {
      ended = λ i. record { left = left i; answer = answer i; moved = moved i; wrong = wrong i };
      main_same = p.main_same ∙ sym q.main_same;
      store_same = p.store_same ∙ sym q.store_same;
      map_same = maps_same u map map' d.left e.left (p.left.state ∙ sym q.left.state);
    }

-- what is left of an area is known by its pieces, how many there are behind the first, and the CCW where it ends

areas_same : (chain : List ℕ) (r t : Area) → area_of chain r ≡ area_of chain t → r.next ≡ t.next → r.end ≡ t.end → r ≡ t
areas_same chain r t e f g =
    let piece : r.piece ≡ t.piece = ap (λ (l : List Piece). get_or l 0 r.piece) e in
    λ i. record { piece = piece i; next = f i; end = g i }

pub next_unique : (chain : List ℕ) (a r t : Area) → area_of chain r ≡ later_of chain a → area_of chain t ≡ later_of chain a → r.next ≡ a.next + 1 → t.next ≡ a.next + 1 → r.end ≡ a.end → t.end ≡ a.end → r ≡ t
next_unique chain a r t p q f g x y = areas_same chain r t (p ∙ sym q) (f ∙ sym g) (x ∙ sym y)

-- as many pieces behind the first, and one end: one beginning
same_next : (chain : List ℕ) (r t : Area) → Stands chain r → Stands chain t → later_of chain r ≡ later_of chain t → r.end ≡ t.end → r.next ≡ t.next
same_next chain r t s u e f =
    let long = length_pieces chain r.next (r.end - r.next) in
    let long' = length_pieces chain t.next (t.end - t.next) in
    omega (arith, ap length e, long, long', s.order, u.order, f)

pub decoded_unique : (chain : List ℕ) (at : ℕ) (c k : Decoded) → Decodes chain c → Decodes chain k
    → commands_from chain (ccws_of chain - at) at ≡ command_of chain c ∷ commands_from chain (ccws_of chain - c.area.end) c.area.end
    → commands_from chain (ccws_of chain - at) at ≡ command_of chain k ∷ commands_from chain (ccws_of chain - k.area.end) k.area.end → c ≡ k
decoded_unique chain at c k told told' p q =
    let one : command_of chain c ≡ command_of chain k = ap (λ (l : List Command). get_or l 0 (command_of chain c)) (sym p ∙ q) in
    let later : later_of chain c.area ≡ later_of chain k.area = ap (λ (d : Command). d.later) one in
    let long = length_pieces chain c.area.next (c.area.end - c.area.next) in
    let long' = length_pieces chain k.area.next (k.area.end - k.area.next) in
    let end : c.area.end ≡ k.area.end
    = omega (arith, command_ccws chain at c p, command_ccws chain at k q, ap length later, long, long', told.ccws.lent, told'.ccws.lent) in
    let area : c.area ≡ k.area = areas_same chain c.area k.area (ap pieces one) (same_next chain c.area k.area told.ccws told'.ccws later end) end in
    let count : c.count ≡ k.count = told.count ∙ ap total one ∙ sym told'.count in
    let flags : c.flags ≡ k.flags = told.flags ∙ ap (λ (d : Command). (final d).flags) one ∙ sym told'.flags in
    λ i. record { area = area i; count = count i; command = (one i).command; flags = flags i }

pub status_unique : (n : ℕ) (a b : UnitStatus) → a.0 ≡ n → b.0 ≡ n → a ≡ b
status_unique n a b p q = λ i. record { 0 = same_by a.0 b.0 n p q i }

pub channel_unique : (n : ℕ) (a b : ChannelStatus) → a.0 ≡ n → b.0 ≡ n → a ≡ b
channel_unique n a b p q = λ i. record { 0 = same_by a.0 b.0 n p q i }

-- whatever record the counts are those of: of any one
pub log_unique : (k : Counts) (a b : Log) → ((u : Record) → a.0 ≡ log_of (counted u k)) → ((u : Record) → b.0 ≡ log_of (counted u k)) → a ≡ b
log_unique k a b p q = λ i. record { 0 = same_by a.0 b.0 (log_of (counted (new_record 0 0) k)) (p (new_record 0 0)) (q (new_record 0 0)) i }

-- the run of a chain: what is left, the commands reached, and what was lent
pub record SameWalk (v w : Walked) (main main' store store' map map' answers answers' : List ℕ) : Type 0 where
  pub walked : v ≡ w
  pub main_same : main ≡ main'
  pub store_same : store ≡ store'
  pub map_same : map ≡ map'
  pub answers_same : answers ≡ answers'

module _ (u : Record) (v w : Walked) (m₁ s₁ p₁ a₁ m₂ s₂ p₂ a₂ : List ℕ) where
  same_walk : called 0 (system_left (holding u p₁) v.left m₁ s₁ a₁ v.reached) ≡ called 0 (system_left (holding u p₂) w.left m₂ s₂ a₂ w.reached) → v.left ≡ w.left
      → SameWalk v w m₁ m₂ s₁ s₂ p₁ p₂ a₁ a₂
  same_walk e f = record {
    walked = λ i. record { left = f i; reached = (e i).reached };
    main_same = λ i. (e i).main;
    store_same = λ i. (e i).store;
    map_same = sym (map_left_lem u p₁ v.left) ∙ ap (λ (c : Called). c.map) e ∙ map_left_lem u p₂ w.left;
    answers_same = λ i. (e i).answers;
  }

  pub walks_unique : (dev : Device) (chain : List ℕ) (s : Running) (y : System) → Walks dev chain (holding u p₁) s y v m₁ s₁ a₁ → Walks dev chain (holding u p₂) s y w m₂ s₂ a₂
      → SameWalk v w m₁ m₂ s₁ s₂ p₁ p₂ a₁ a₂
  walks_unique dev chain s y p q = same_walk (ap (called 0) (p.after ∙ sym q.after)) (p.left ∙ sym q.left)

  pub allowed_unique : (dev : Device) (chain main store map answers : List ℕ) → Allowed dev u chain main store map answers v m₁ s₁ p₁ a₁ → Allowed dev u chain main store map answers w m₂ s₂ p₂ a₂
      → SameWalk v w m₁ m₂ s₁ s₂ p₁ p₂ a₁ a₂
  allowed_unique dev chain main store map answers p q = same_walk (p.after ∙ sym q.after) (p.left ∙ sym q.left)

-- the call
pub record SameCall (r q : Result Returned Cause) (main main' store store' map map' answers answers' : List ℕ) : Type 0 where
  pub given : r ≡ q
  pub main_same : main ≡ main'
  pub store_same : store ≡ store'
  pub map_same : map ≡ map'
  pub answers_same : answers ≡ answers'

given_same : (u : Record) (r q : Result Returned Cause) (m₁ s₁ p₁ a₁ m₂ s₂ p₂ a₂ : List ℕ) → called_with u r m₁ s₁ p₁ a₁ ≡ called_with u q m₂ s₂ p₂ a₂ → r ≡ q
given_same u (Ok x) (Ok y) m₁ s₁ p₁ a₁ m₂ s₂ p₂ a₂ e = λ i. Ok (record { reached = (e i).reached; unit = (e i).unit })
given_same u (Ok x) (Err b) m₁ s₁ p₁ a₁ m₂ s₂ p₂ a₂ e = absurd (never_none b (sym (ap (λ (c : Called). c.cause) e)))
given_same u (Err a) (Ok y) m₁ s₁ p₁ a₁ m₂ s₂ p₂ a₂ e = absurd (never_none a (ap (λ (c : Called). c.cause) e))
given_same u (Err a) (Err b) m₁ s₁ p₁ a₁ m₂ s₂ p₂ a₂ e = ap Err (cause_same a b (ap (λ (c : Called). c.cause) e))

lent_back : (u : Record) (r : Result Returned Cause) (m s p a : List ℕ) → let c = called_with u r m s p a in (c.main ≡ m) × (c.store ≡ s) × (c.map ≡ p) × (c.answers ≡ a)
lent_back u (Ok x) m s p a = (refl, refl, refl, refl)
lent_back u (Err b) m s p a = (refl, refl, refl, refl)

pub call_unique : (u : Record) (c : Called) (r q : Result Returned Cause) (m₁ s₁ p₁ a₁ m₂ s₂ p₂ a₂ : List ℕ) → called_with u r m₁ s₁ p₁ a₁ ≡ c → called_with u q m₂ s₂ p₂ a₂ ≡ c
    → SameCall r q m₁ m₂ s₁ s₂ p₁ p₂ a₁ a₂
call_unique u c r q m₁ s₁ p₁ a₁ m₂ s₂ p₂ a₂ e f =
    let same = e ∙ sym f in
    let k = lent_back u r m₁ s₁ p₁ a₁ in
    let l = lent_back u q m₂ s₂ p₂ a₂ in
    record {
      given = given_same u r q m₁ s₁ p₁ a₁ m₂ s₂ p₂ a₂ same;
      main_same = sym k.0 ∙ ap (λ (d : Called). d.main) same ∙ l.0;
      store_same = sym k.1 ∙ ap (λ (d : Called). d.store) same ∙ l.1;
      map_same = sym k.2 ∙ ap (λ (d : Called). d.map) same ∙ l.2;
      answers_same = sym k.3 ∙ ap (λ (d : Called). d.answers) same ∙ l.3;
    }

pub record SameRun (v w : Ran) (storage storage' store store' answers answers' : List ℕ) : Type 0 where
  pub unit_same : v.unit ≡ w.unit
  pub code_same : v.code ≡ w.code
  pub storage_same : storage ≡ storage'
  pub store_same : store ≡ store'
  pub answers_same : answers ≡ answers'

pub by_value_unique : (r : UnitRecord) (alternates : ℕ) (chain m s a : List ℕ) (v w : Ran) (m₁ s₁ a₁ m₂ s₂ a₂ : List ℕ)
    → ByValue r alternates chain m s a v m₁ s₁ a₁ → ByValue r alternates chain m s a w m₂ s₂ a₂ → SameRun v w m₁ m₂ s₁ s₂ a₁ a₂
by_value_unique r alternates chain m s a v w m₁ s₁ a₁ m₂ s₂ a₂ p q =
    let e = p.is ∙ sym q.is in
    record {
      unit_same = λ i. (e i).unit;
      code_same = λ i. (e i).code;
      storage_same = λ i. (e i).storage;
      store_same = λ i. (e i).store;
      answers_same = λ i. (e i).answers;
    }

pub in_place_unique : (r : UnitRecord) (alternates : ℕ) (chain m s a : List ℕ) (c d : ℕ) (u v : UnitRecord) (m₁ s₁ a₁ m₂ s₂ a₂ : List ℕ)
    → InPlace r alternates chain m s a c u m₁ s₁ a₁ → InPlace r alternates chain m s a d v m₂ s₂ a₂ → SameRun (record { unit = u; code = c }) (record { unit = v; code = d }) m₁ m₂ s₁ s₂ a₁ a₂
in_place_unique r alternates chain m s a c d u v m₁ s₁ a₁ m₂ s₂ a₂ p q =
    by_value_unique r alternates chain m s a (record { unit = u; code = c }) (record { unit = v; code = d }) m₁ s₁ a₁ m₂ s₂ a₂ (record { is = p.is }) (record { is = q.is })
