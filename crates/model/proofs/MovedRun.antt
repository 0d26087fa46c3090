-- Demand 3, the chain and the theorem: a data set can be moved.
--     Alike         two systems between two commands
--     next_alike, more_same, run_alike
--                   a command, whether the chain goes on, the chain
--     begin_alike   what the demand's sentences say is the relation at the start
--     moved_same    the theorem
--     moved_hosted  the same of calls from C
-- Assumes nothing.
use Prim.Native.Nat.{ℕ, zero, suc, ◌+◌, ◌≤◌, ◌<◌}
use mathlib.Core.Path.{◌≡◌, refl, sym, ap, ◌∙◌}
use mathlib.Core.Logic.{dite}
use mathlib.Core.Bool.{true, ◌&&◌, false≢true}
use mathlib.Core.List.{List}
use lib.ListN.{length, take}
use lib.Seq.{take-append-le, take_all}
use native.Mathlib.Decide.{ℕ_discrete}
use native.Mathlib.Omega.{arith}
use borrow.Author.Tests.{eqb-true}
use Rattle.numbers.specs.Bytes.{AreBytes}
use Rattle.slices.proofs.Laws.{by_place}
use Rattle.model.specs.declared.record.Record.{Record}
use Rattle.model.specs.declared.device.Device.{Device}
use Rattle.model.specs.State.{Done}
use Rattle.model.specs.Names.{chain_command}
use Rattle.numbers.specs.Choice.{◌=?◌, pick}
use Rattle.model.specs.Rules.{first_of}
use Rattle.model.specs.Alternates.{map_entries, map_size}
use Rattle.model.specs.Lent.{flag, store_blocks, block_count, map_place, record_size, unit_bytes, record_bytes, record_of, map_of}
use Rattle.model.specs.Pieces.{Command, commands_in, command_at, final}
use Rattle.model.specs.Parameters.{extent_length, extent_in}
use Rattle.model.specs.Causes.{lent_causes, map_causes, call_causes}
use Rattle.model.specs.Answer.{wrong_length, channel_status, residual, filled, answer_of, answers_of, answered, goes_on}
use Rattle.model.specs.Chain.{System, system, step_at, next, more, run, start, call_of}
use Rattle.model.specs.Host.{hosted, host_call_of}
use Rattle.model.specs.Safe.{Safe}
use Rattle.model.specs.Moved.{Own, InChain, SameMaps, extent_at, Moved, SameAfter, SameHosted}
use Rattle.numbers.proofs.Choice.{pick_both}
use Rattle.numbers.proofs.Joined.{both_true}
use Rattle.model.proofs.Safety.{safe_start, step_safe}
use Rattle.model.proofs.Hosts.{host_is_call, host_no_record}
use Rattle.model.proofs.Alike.{parameter_same, Place, SoundPlace, States, Mains, Stores, Dones, Outs}
use Rattle.model.proofs.Blocks.{count_same}
use Rattle.model.proofs.Endings.{callable}
use Rattle.model.proofs.Fields.{IsRecord}
use Rattle.model.proofs.Kept.{call_bytes}
use Rattle.model.proofs.Records.{unit_length, record_of_lem, map_of_lem, map_back}
use Rattle.model.proofs.AlikeVerdicts.{Fits}
use Rattle.model.proofs.AlikeCommands.{step_alike}

pub record Alike (dev : Device) (F : Place) (y z : System) : Type 0 where
  pub states : States F y.state z.state
  pub mains : Mains F y.main z.main
  pub stores : Stores dev F y.state.map z.state.map y.store z.store
  pub answers : y.answers ≡ z.answers
  pub reached : y.reached ≡ z.reached
  pub safe : Safe y.state (block_count dev y.store)

-- the answer

channel_same : (F : Place) (c : Command) (d e : Done) → Dones F d e → channel_status c d ≡ channel_status c e
unfolding channel_status wrong_length
channel_same F c d e h = rw (h.cause, h.can)

answer_same : (F : Place) (c : Command) (d e : Done) → Dones F d e → (answers_of c d ≡ answers_of c e) × (answered c d ≡ answered c e)
unfolding answers_of answered answer_of filled residual
answer_same F c d e h = (rw (channel_same F c d e h, h.cause, h.moved, h.blocks), rw h.moved)

goes_same : (F : Place) (c : Command) (d e : Done) → Dones F d e → goes_on c d ≡ goes_on c e
unfolding goes_on
goes_same F c d e h = rw (channel_same F c d e h, h.cause)

-- where the chain goes on after a command, its last piece has flag 40
goes_chained : (c : Command) (d : Done) → goes_on c d ≡ true → flag (final c) chain_command ≡ true
unfolding goes_on
goes_chained c d b = (both_true (d.cause =? 0 && channel_status c d =? 0) (flag (final c) chain_command) b).1

-- the chain

module _ (dev : Device) (F : Place) (k : SoundPlace dev F) (chain : List ℕ) (fits : (i : ℕ) → InChain chain i → Fits F (command_at chain i)) where
  at_alike : (i : ℕ) (y z : System) → InChain chain i → Alike dev F y z → Outs dev F (step_at dev chain i y) (step_at dev chain i z)
  unfolding step_at
  at_alike i y z c a = step_alike dev F k (command_at chain i) (fits i c) _ _ a.states _ _ a.mains _ _ a.stores a.safe

  -- a command leaves the state safe on the store that it leaves
  at_safe : (i : ℕ) (y : System) (store : List ℕ) → 0 < block_count dev y.store → Safe y.state (block_count dev y.store) → length y.store ≡ length store
      → Safe (step_at dev chain i y).done.state (block_count dev store)
  unfolding step_at
  at_safe i y store some safe long = rw (← (count_same dev y.store store long)) (step_safe dev (command_at chain i) y.state y.main y.store some safe)

  next_alike : (i : ℕ) (y z : System) → InChain chain i → Alike dev F y z → Alike dev F (next dev chain i y) (next dev chain i z)
  unfolding next
  next_alike i y z c a =
      let o = at_alike i y z c a in
      let some : 0 < block_count dev y.store = rw (count_same dev y.store F.store a.stores.long) (omega (arith, k.room)) in
      record {
        states = o.dones.states;
        mains = o.mains;
        stores = o.stores;
        answers = rw ((answer_same F (command_at chain i) _ _ o.dones).0, a.answers, a.reached);
        reached = rw ((answer_same F (command_at chain i) _ _ o.dones).1, a.reached);
        safe = at_safe i y _ some a.safe (a.stores.long ∙ sym o.stores.long);
      }

  more_same : (i : ℕ) (y z : System) → InChain chain i → Alike dev F y z → more dev chain i y ≡ more dev chain i z
  unfolding more
  more_same i y z c a = goes_same F (command_at chain i) _ _ (at_alike i y z c a).dones

  run_alike : (n i : ℕ) (y z : System) → i + n ≤ length (commands_in chain) → ((j : ℕ) → j < i → flag (final (command_at chain j)) chain_command ≡ true) → Alike dev F y z
      → Alike dev F (run dev chain n i y) (run dev chain n i z)
  unfolding run more
  run_alike zero i y z l p a = a
  run_alike (suc n) i y z l p a =
      let c : InChain chain i = record { lent = omega arith; chained = p } in
      let b = next_alike i y z c a in
      rw (← (more_same i y z c a))
      (pick_both (Alike dev F) (more dev chain i y) _ _ _ _
      (λ m. run_alike n (i + 1) (next dev chain i y) (next dev chain i z) (omega arith)
      (λ j q. by_place (flag (final (command_at chain j)) chain_command ≡ true) j i 1 (p j) (λ r d e. let f : j ≡ i = omega arith in rw f (goes_chained _ _ m)) (λ r. absurd (omega arith))) b)
      (λ _. b))

-- the start

module _ (dev : Device) (chain : List ℕ) (d : ℕ) (map : List ℕ) (l l' : Own) (h : Moved dev chain d map l l') where
  -- what the two runs are about
  here : Place
  here = record { define = command_at chain d; here = extent_at chain d l; there = extent_at chain d l'; map = map; store = l.store; store' = l'.store }

  sound : block_count dev l.store ≤ 131072 → dev.alternates ≤ map_entries → SoundPlace dev here
  unfolding here extent_in
  sound few few_alternates =
      let same = parameter_same (command_at chain d) l.main l'.main h.lent.typed h.lent.lie h.lent.apart in
      let behind : (i : ℕ) → 8 ≤ i → i < extent_length → _ = λ i b m. same i m (λ k. omega (arith, k)) in
      record {
        mask = same 0 (omega arith) (λ k. omega (arith, k));
        first = rw (behind 8 (omega arith) (omega arith), behind 9 (omega arith) (omega arith), behind 10 (omega arith) (omega arith), behind 11 (omega arith) (omega arith));
        last = rw (behind 12 (omega arith) (omega arith), behind 13 (omega arith) (omega arith), behind 14 (omega arith) (omega arith), behind 15 (omega arith) (omega arith));
        apart = h.lent.apart;
        sizes = h.lent.sizes;
        room = h.lent.room;
        room' = h.lent.room';
        few = few;
        few_alternates = few_alternates;
      }

  fits : (i : ℕ) → InChain chain i → Fits here (command_at chain i)
  unfolding here
  fits i c = record {
    own = λ e. let f = h.lent.one.only i c e in rw f;
    apart = λ n. h.lent.alone i c (λ f. n (rw f h.lent.one.defines));
    no_ipl = h.lent.one.no_ipl i c;
  }

  few_primaries : store_blocks dev l.store ≤ 131072 → block_count dev l.store ≤ 131072
  unfolding block_count
  few_primaries h = omega arith

  -- the one map is equal to itself, for no entry of it names a block of either place
  begin_maps : SameMaps (extent_at chain d l) (extent_at chain d l') map map
  unfolding pick
  begin_maps i = rw (h.unmapped i, h.unmapped' i)

  begin_alike : (u : Record) (answers : List ℕ) → length map ≡ map_size → Alike dev here (system (start u map) l.main l.store answers 0) (system (start u map) l'.main l'.store answers 0)
  unfolding here start
  begin_alike u answers long = record {
    states = record { unit = refl; defined = refl; before = refl; located = refl; mask = refl; first = refl; last = refl; set = λ e. absurd (false≢true e) };
    mains = record { but = h.lent.typed; lie = h.lent.lie; here = refl; there = refl };
    stores = record {
      long = refl;
      long' = refl;
      map_long = long;
      map_long' = long;
      maps = begin_maps;
      alternates = h.lent.alternates;
      same = h.lent.blocks;
      kept = λ _ _ _. refl;
      kept' = λ _ _ _. refl;
    };
    answers = refl;
    reached = refl;
    safe = safe_start u map _;
  }

  lent_same : (answers : List ℕ) → first_of (lent_causes dev chain l.main l.store answers) ≡ first_of (lent_causes dev chain l'.main l'.store answers)
  unfolding lent_causes store_blocks
  lent_same answers = rw (h.lent.typed.long, h.lent.sizes)

  cause_same : (answers : List ℕ) → first_of (call_causes dev chain l.main l.store map answers) ≡ first_of (call_causes dev chain l'.main l'.store map answers)
  unfolding call_causes lent_causes map_causes block_count store_blocks
  cause_same answers = rw (h.lent.typed.long, h.lent.sizes)

  -- a data set can be moved
  pub moved_same : (u : Record) (answers : List ℕ) → length map ≡ map_size
      → SameAfter dev chain d map l l' (call_of dev chain l.main l.store u map answers) (call_of dev chain l'.main l'.store u map answers)
  unfolding call_of here
  moved_same u answers long =
      let a = begin_alike u answers long in
      let z = pick_both (Alike dev here) (first_of (call_causes dev chain l.main l.store map answers) =? 0) _ _ _ _
      (λ b.
      let c = callable dev chain l.main l.store map answers (eqb-true _ _ b) in
      run_alike dev here (sound (few_primaries c.held) c.few_alternates) chain fits (length (commands_in chain)) 0 _ _ (omega arith) (λ j b. absurd (omega arith)) a) (λ _. a) in
      rw (← (cause_same answers)) (record {
        cause = refl;
        reached = z.reached;
        unit = z.states.unit;
        answers = z.answers;
        lent = record { maps = z.stores.maps; storage = z.mains.but; alternates = z.stores.alternates; blocks = z.stores.same; outside = z.stores.kept; outside' = z.stores.kept' };
      })

-- and so it can where C calls, whose buffers hold bytes

pub record LendsBytes (chain : List ℕ) (l : Own) (unit answers : List ℕ) : Type 0 where
  pub chain_bytes : AreBytes chain
  pub main_bytes : AreBytes l.main
  pub store_bytes : AreBytes l.store
  pub unit_bytes_lem : AreBytes unit
  pub answers_bytes : AreBytes answers

-- of a record as bytes, what stands before the map and the map
front_of : (u : Record) (map : List ℕ) → IsRecord u → take map_place (record_bytes u map) ≡ unit_bytes u
front_of u map r = take-append-le map_place (unit_bytes u) map (omega (arith, unit_length u r)) ∙ take_all map_place (unit_bytes u) (omega (arith, unit_length u r))

module _ (dev : Device) (chain : List ℕ) (d : ℕ) (unit : List ℕ) (l l' : Own) (h : Moved dev chain d (map_of unit) l l') (answers : List ℕ) where
  hosted_same : length unit ≡ record_size → LendsBytes chain l unit answers → LendsBytes chain l' unit answers
      → SameHosted dev chain d (map_of unit) l l' (hosted (call_of dev chain l.main l.store (record_of unit) (map_of unit) answers)) (hosted (call_of dev chain l'.main l'.store (record_of unit) (map_of unit) answers))
  hosted_same e b b' =
      let p = map_of_lem unit e b.unit_bytes_lem in
      let r = record_of_lem unit e b.unit_bytes_lem in
      let s = moved_same dev chain d (map_of unit) l l' h (record_of unit) answers p.long in
      let g = call_bytes dev chain l.main l.store (record_of unit) (map_of unit) answers b.chain_bytes b.main_bytes b.store_bytes r p b.answers_bytes in
      let g' = call_bytes dev chain l'.main l'.store (record_of unit) (map_of unit) answers b'.chain_bytes b'.main_bytes b'.store_bytes r p b'.answers_bytes in
      record {
        result = rw (s.cause, s.reached);
        unit = front_of _ _ g.unit_fields ∙ ap unit_bytes s.unit ∙ sym (front_of _ _ g'.unit_fields);
        answers = s.answers;
        lent = rw (map_back _ _ g.unit_fields g.map_fields.long, map_back _ _ g'.unit_fields g'.map_fields.long) s.lent;
      }

  pub moved_hosted : LendsBytes chain l unit answers → LendsBytes chain l' unit answers
      → SameHosted dev chain d (map_of unit) l l' (host_call_of dev chain l.main l.store unit answers) (host_call_of dev chain l'.main l'.store unit answers)
  moved_hosted b b' =
      dite (ℕ_discrete (length unit) record_size)
      (λ e. rw (host_is_call dev chain l.main l.store unit answers e, host_is_call dev chain l'.main l'.store unit answers e) (hosted_same e b b'))
      (λ n.
      let w = lent_same dev chain d (map_of unit) l l' h answers in
      rw (host_no_record dev chain l.main l.store unit answers _ n w, host_no_record dev chain l'.main l'.store unit answers _ n refl)
      (record {
        result = refl;
        unit = refl;
        answers = refl;
        lent = record { maps = begin_maps dev chain d (map_of unit) l l' h; storage = h.lent.typed; alternates = h.lent.alternates; blocks = h.lent.blocks; outside = λ _ _ _. refl; outside' = λ _ _ _. refl };
      }))
