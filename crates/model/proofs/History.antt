-- The alternates counted from a device's history (02, ask 6). Each step, of a command, of a chain, of a call, leaves a history that counts
-- what its map shows, if it found one (`Kept` in Counts.antt).
--     step_kept         a command: a format that is done is one event more, and nothing else changes the map
--     run_kept          a chain
--     ran, marked, returned
--                       a call: a chain run, a class marked, a block given back, refused or not
--     history_counted   so, starting from an empty map, used, unused and defective, each counted from the history of formats and returns,
--                       are as the map shows, and sum to the device's alternates
-- Assumes nothing.
use Prim.Native.Nat.{ℕ, zero, suc, ◌+◌, ◌<◌}
use mathlib.Core.Path.{◌≡◌, refl}
use mathlib.Core.Bool.{Bool, true, false, ◌&&◌}
use mathlib.Core.Logic.{dite}
use mathlib.Core.Option
use mathlib.Core.Option.{Option, none, some, get_or}
use mathlib.Core.List.{List, [], ◌∷◌, ◌++◌, append_assoc, append-nil}
use lib.ListN.{length, take, drop}
use native.Mathlib.Omega.{arith}
use native.Mathlib.Decide.{ℕ_discrete}
use borrow.Author.Tests.{eqb-true, eq-eqb, ne_eqb}
use Rattle.numbers.specs.Bytes.{AreBytes}
use Rattle.numbers.specs.Choice.{◌=?◌, pick}
use Rattle.numbers.proofs.Bytes.{bytes_take, bytes_drop}
use Rattle.numbers.proofs.Choice.{pick_ind, pick_false, pick_both}
use Rattle.slices.proofs.Laws.{bytes_part}
use Rattle.model.specs.declared.device.Device.{Device}
use Rattle.model.specs.declared.extent.Located.{Located}
use Rattle.model.specs.State.{State}
use Rattle.model.specs.Names.{LOCATE, format}
use Rattle.model.specs.Rules.{first_of}
use Rattle.model.specs.Alternates.{unused_in}
use Rattle.model.specs.Lent.{block_count, record_of, map_of, new_map}
use Rattle.model.specs.Pieces.{Command, fetched, commands_in, command_at}
use Rattle.model.specs.Parameters.{locate_length, located_in}
use Rattle.model.specs.Causes.{kind_of, host_causes, give_back_causes}
use Rattle.model.specs.Commands.{Out, after, extent_set, locate_set, first_block, map_after, no_operation, define_extent, locate, sent, sense, sense_type, read_log, read, write, read_ipl, sense_given, refused, seen, step, define_done, ipl_done, locate_done, read_done, write_done}
use Rattle.model.specs.Chain.{System, system, step_at, next, more, run, start}
use Rattle.model.specs.Host.{Hosted, host_call_of}
use Rattle.model.specs.Class.{length_size, head_size, result_size, chains_from, chains_in, mark_of, mark_each_of, bad_class, ClassRun, run_class_of}
use Rattle.model.specs.History.{Event, Act, Runs, Marks, GivesBack, Held, held, format_of, formats_in, formats_of, formats_each, acted, events_of, held_after, history_of, LentBytes, Counted}
use Rattle.model.proofs.Leaving.{leaves_ind}
use Rattle.model.proofs.Steps.{Cases, step_cases}
use Rattle.model.proofs.Safety.{locate_ok, format_takes, located_below}
use Rattle.model.proofs.Mapped.{Sound, next_sound, start_sound}
use Rattle.model.proofs.Refusals.{call_ran}
use Rattle.model.proofs.Kept.{call_bytes}
use Rattle.model.proofs.Records.{record_of_lem, map_of_lem, map_back}
use Rattle.model.proofs.Hosts.{host_passed, host_keeps}
use Rattle.model.proofs.Class.{first_length, first_chain, first_taken, others}
use Rattle.model.proofs.GiveBack.{returnable, give_back_refused, give_back_done, give_back_map, give_back_keeps}
use Rattle.model.proofs.Counts.{Kept, none_kept, formatted_kept, returned_kept}

-- a command

-- a command that is refused, or is no LOCATE, is no format

neither : (a b : Bool) → a ≡ false → a && b ≡ false
neither a b e = rw e refl

refused_none : (c : Command) (s : State) (main : List ℕ) (cause : ℕ) → (cause ≡ 0 → ⊥) → format_of c s main cause ≡ []
unfolding format_of
refused_none c s main cause n = pick_false _ _ _ (neither (cause =? 0) _ (ne_eqb cause 0 n))

other_none : (c : Command) (s : State) (main : List ℕ) → (c.command ≡ LOCATE → ⊥) → format_of c s main 0 ≡ []
unfolding format_of
other_none c s main n = pick_false _ _ _ (neither (c.command =? LOCATE) _ (ne_eqb c.command LOCATE n))

module _ (dev : Device) (c : Command) (s : State) (main store : List ℕ) (h : Sound dev s store) (history : List Event) (k : Kept dev.alternates history s.map) where
  abbrev Follows : Out → Type 0
  Follows o = Kept dev.alternates (format_of c s main o.done.cause ++ history) o.done.state.map

  -- what an accepted LOCATE locates
  abbrev located : Located
  located = located_in (fetched c main locate_length)

  -- its map is another exactly where it is an event
  located_kept : c.command ≡ LOCATE → ((located.operation =? format) ≡ true → unused_in s.map dev.alternates < dev.alternates) → first_block s.extent located < block_count dev store
      → Kept dev.alternates (format_of c s main 0 ++ history) (map_after dev s.map s.extent located)
  unfolding format_of map_after
  located_kept x takes on =
      rw (eq-eqb c.command LOCATE x) (pick_both (λ (es : List Event) (m : List ℕ). Kept dev.alternates (es ++ history) m) (located.operation =? format) _ _ _ _
      (λ b. formatted_kept s.map dev.alternates _ h.few_alternates h.whole_map (takes b) (omega (arith, on, h.few_blocks)) history k)
      (λ _. k))

  kept_cases : Cases dev c s main store Follows
  unfolding no_operation define_extent define_done locate locate_done read read_done write write_done read_ipl ipl_done sense sense_type read_log sent refused seen after extent_set locate_set
  kept_cases =
      let none : (c.command ≡ LOCATE → ⊥) → Kept dev.alternates (format_of c s main 0 ++ history) s.map = λ n. rw (other_none c s main n) k in
      record {
        refusal = λ w n _. rw (refused_none c s main w n) (leaves_ind (λ (t : State). Kept dev.alternates history t.map) (kind_of w) s (sense_given w c main) k k k);
        no_operation_lem = λ x. none (λ y. omega arith);
        define_extent_lem = λ _ x _. none (λ y. omega arith);
        locate = λ _ x g.
            let l = locate_ok dev c s _ g in
            let below = located_below s.extent located _ (h.safe.extent l.defined) l.placed in
            located_kept x (λ b. format_takes dev c s _ g b) (omega (arith, below, l.placed.some));
        read = λ _ x _. none (λ y. omega arith);
        write = λ _ x _. none (λ y. omega arith);
        read_ipl_lem = λ _ x _. none (λ y. omega arith);
        sense = λ _ x. none (λ y. omega arith);
        sense_type_lem = λ _ x. none (λ y. omega arith);
        read_log_lem = λ _ x. none (λ y. omega arith);
      }

  pub step_kept : Follows (step dev c s main store)
  step_kept = step_cases dev c s main store Follows kept_cases

-- a chain

module _ (dev : Device) (chain : List ℕ) where
  next_kept : (i : ℕ) (y : System) (history : List Event) → Sound dev y.state y.store → Kept dev.alternates history y.state.map
      → Kept dev.alternates (format_of (command_at chain i) y.state y.main (step_at dev chain i y).done.cause ++ history) (next dev chain i y).state.map
  unfolding next step_at
  next_kept i y history h k = step_kept dev (command_at chain i) y.state y.main y.store h history k

  pub run_kept : (n i : ℕ) (y : System) (history : List Event) → Sound dev y.state y.store → Kept dev.alternates history y.state.map
      → Kept dev.alternates (formats_in dev chain n i y ++ history) (run dev chain n i y).state.map
  unfolding run formats_in
  run_kept zero i y history h k = k
  run_kept (suc n) i y history h k =
      let j = next_kept i y history h k in
      rw append_assoc
      (pick_both (λ (es : List Event) (z : System). Kept dev.alternates (es ++ (format_of (command_at chain i) y.state y.main (step_at dev chain i y).done.cause ++ history)) z.state.map) (more dev chain i y) _ _ _ _
      (λ _. run_kept n (i + 1) (next dev chain i y) _ (next_sound dev chain i y h) j)
      (λ _. j))

-- a call

-- what a call finds of a device: bytes, and a history that counts what the map shows
record Tallied (dev : Device) (history : List Event) (d : Held) : Type 0 where
  store_bytes : AreBytes d.store
  unit_bytes_lem : AreBytes d.unit
  kept : Kept dev.alternates history (map_of d.unit)

module _ (dev : Device) (history : List Event) (d : Held) (f : Tallied dev history d) where
  abbrev store : List ℕ
  store = d.store

  abbrev unit : List ℕ
  unit = d.unit

  ran_kept : (chain main answers : List ℕ) → AreBytes chain → AreBytes main → AreBytes answers
      → Kept dev.alternates (formats_of dev chain main d answers ++ history) (map_of (host_call_of dev chain main store unit answers).unit)
  unfolding formats_of host_call_of start
  ran_kept chain main answers b m a =
      pick_both (λ (es : List Event) (r : Hosted). Kept dev.alternates (es ++ history) (map_of r.unit)) (first_of (host_causes dev chain main store unit answers) =? 0) _ _ _ _
      (λ e.
      let p = host_passed dev chain main store unit answers (eqb-true _ _ e) in
      let old = map_of_lem unit p.1 f.unit_bytes_lem in
      let g = call_bytes dev chain main store (record_of unit) (map_of unit) answers b m f.store_bytes (record_of_lem unit p.1 f.unit_bytes_lem) old a in
      rw (map_back _ _ g.unit_fields g.map_fields.long, call_ran dev chain main store (record_of unit) (map_of unit) answers p.0)
      (run_kept dev chain (length (commands_in chain)) 0 (system (start (record_of unit) (map_of unit)) main store answers 0) history
      (start_sound dev chain main store (record_of unit) (map_of unit) answers old.long p.0) f.kept))
      (λ _. f.kept)

  ran : (chain main answers : List ℕ) → AreBytes chain → AreBytes main → AreBytes answers
      → let r = host_call_of dev chain main store unit answers in Tallied dev (formats_of dev chain main d answers ++ history) (held r.store r.unit) × AreBytes r.main
  ran chain main answers b m a =
      let k = host_keeps dev chain main store unit answers b m f.store_bytes f.unit_bytes_lem a in
      (record { store_bytes = k.store_bytes; unit_bytes_lem = k.unit_bytes_lem; kept = ran_kept chain main answers b m a }, k.main_bytes)

  returned : (block : ℕ) → Tallied dev (events_of dev d (GivesBack block) ++ history) (acted dev d (GivesBack block))
  unfolding events_of acted pick
  returned block =
      let given : ℕ = first_of (give_back_causes dev store unit block) in
      let k = give_back_keeps dev store unit block f.store_bytes f.unit_bytes_lem in
      record {
        store_bytes = k.store_bytes;
        unit_bytes_lem = k.unit_bytes_lem;
        kept = dite (ℕ_discrete given 0)
            (λ e.
            let p = returnable dev store unit block e in
            rw (eq-eqb given 0 e, give_back_map dev store unit block (rw (give_back_done dev store unit block e) refl))
            (returned_kept (map_of unit) dev.alternates (block_count dev store) block p.stored.few_alternates p.map_long p.mapped (omega (arith, p.on, p.small)) p.right history f.kept))
            (λ n. rw (ne_eqb given 0 n, give_back_refused dev store unit block given refl n) f.kept);
      }

-- a class: its chains, one after the other

AllBytes : List (List ℕ) → Type 0
AllBytes [] = Unit {0}
AllBytes (chain ∷ chains) = AreBytes chain × AllBytes chains

each_kept : (dev : Device) (chains : List (List ℕ)) (main : List ℕ) (d : Held) (results : List ℕ) (history : List Event) → AllBytes chains → AreBytes main → AreBytes results → Tallied dev history d
    → let m = mark_each_of dev chains main d.store d.unit results in Tallied dev (formats_each dev chains main d results ++ history) (held m.store m.unit)
unfolding AllBytes formats_each mark_each_of mark_of
each_kept dev [] main d results history b m r f = f
each_kept dev (chain ∷ chains) main d results history b m r f =
    let size : ℕ = result_size (length chain) in
    let k = ran dev history d f chain main (drop head_size (take size results)) b.0 m (bytes_drop head_size _ (bytes_take size results r)) in
    rw append_assoc (each_kept dev chains _ _ (drop size results) _ b.1 k.1 (bytes_drop size results r) k.0)

-- chains of bytes are bytes
chain_more : (chain : List ℕ) (chains : Option (List (List ℕ))) → AreBytes chain → AllBytes (get_or chains []) → AllBytes (get_or (Option.map (λ cs. chain ∷ cs) chains) [])
unfolding AllBytes
chain_more chain none b c = c
chain_more chain (some chains) b c = (b, c)

chains_bytes : (n : ℕ) (bytes : List ℕ) → AreBytes bytes → AllBytes (get_or (chains_from n bytes) [])
unfolding chains_from AllBytes
chains_bytes zero bytes b = tt
chains_bytes (suc n) bytes b =
    let P : Option (List (List ℕ)) → Type 0 = λ chains. AllBytes (get_or chains []) in
    pick_ind P _ _ _ (λ _. tt)
    (λ _. pick_ind P _ _ _ (λ _. tt)
    (λ _. chain_more (first_chain bytes) (chains_from n (others bytes)) (bytes_part bytes length_size (first_length bytes) b) (chains_bytes n (others bytes) (bytes_drop (first_taken bytes) bytes b))))

marked : (dev : Device) (history : List Event) (d : Held) (chains main results : List ℕ) → AreBytes chains → AreBytes main → AreBytes results → Tallied dev history d
    → Tallied dev (events_of dev d (Marks chains main results) ++ history) (acted dev d (Marks chains main results))
unfolding events_of acted run_class_of chains_in
marked dev history d chains main results b m r f =
    pick_both (λ (es : List Event) (c : ClassRun). Tallied dev (es ++ history) (held c.left.store c.left.unit)) (bad_class (chains_in chains) (length results)) _ _ _ _
    (λ _. f)
    (λ _. each_kept dev (get_or (chains_in chains) []) main d results history (chains_bytes (length chains) chains b) m r f)

-- calls one after the other

act_kept : (dev : Device) (history : List Event) (d : Held) (a : Act) (acts : List Act) → LentBytes (a ∷ acts) → Tallied dev history d
    → Tallied dev (events_of dev d a ++ history) (acted dev d a) × LentBytes acts
unfolding events_of acted
act_kept dev history d (Runs chain main answers) acts b f = ((ran dev history d f chain main answers b.0.0 b.0.1 b.0.2).0, b.1)
act_kept dev history d (Marks chains main results) acts b f = (marked dev history d chains main results b.0.0 b.0.1 b.0.2 f, b.1)
act_kept dev history d (GivesBack block) acts b f = (returned dev history d f block, b)

acts_kept : (dev : Device) (acts : List Act) (history : List Event) (d : Held) → LentBytes acts → Tallied dev history d → Tallied dev (history_of dev acts d ++ history) (held_after dev acts d)
unfolding history_of held_after
acts_kept dev [] history d b f = f
acts_kept dev (a ∷ acts) history d b f =
    let k = act_kept dev history d a acts b f in
    rw append_assoc (acts_kept dev acts (events_of dev d a ++ history) (acted dev d a) k.1 k.0)

pub history_counted : (dev : Device) (acts : List Act) (d : Held) → map_of d.unit ≡ new_map → LentBytes acts → AreBytes d.store → AreBytes d.unit
    → Counted dev.alternates (history_of dev acts d) (map_of (held_after dev acts d).unit)
history_counted dev acts d e b s u =
    let f : Tallied dev [] d = record { store_bytes = s; unit_bytes_lem = u; kept = rw e (none_kept dev.alternates) } in
    rw append-nil at (acts_kept dev acts [] d b f).kept.counted
