-- The map in a chain, and the alternates that no block lies at (02, ask 4).
--     Sound            what a command finds: a device with its store, a state that is safe on it, and a map that cause 8 passes
--     step_map         a command leaves the map as it was, or as a format of a block of the device leaves it
--     next_sound       a command leaves such a system to the next
--     call_right       the map that a call leaves passes cause 8: the next call on the device is not refused by it
--     step_place       a command changes no place of the store at which no block of the device lies
--     step_alternate   so it never writes an alternate that is unused or defective
--     step_blind       nor reads one: stores that show the same blocks give the same answer, state and main storage
--     Spared           an alternate that was defective is so at the end, one that is unused at the end was so; either holds what it held
--     call_spared      so does every call leave each alternate
--     write_shown      a WRITE changes exactly its blocks as READ shows them, and no other
-- Assumes nothing.
use Prim.Native.Nat.{ℕ, zero, suc, ◌+◌, ◌*◌, ◌≤◌, ◌<◌, min}
use mathlib.Core.Path.{◌≡◌, refl, sym, ap, ◌∙◌}
use mathlib.Core.Logic.{◌⊎◌, inl, inr}
use mathlib.Core.Bool.{false}
use mathlib.Core.List.{List}
use lib.ListN.{length, drop}
use native.Mathlib.Omega.{arith}
use borrow.Author.Tests.{eqb-true}
use Rattle.numbers.specs.Choice.{◌=?◌, pick}
use Rattle.numbers.proofs.Choice.{pick_ind, pick_both}
use Rattle.numbers.proofs.Lowest.{lowest_holds}
use Rattle.slices.specs.Parts.{part, pad}
use Rattle.model.specs.declared.record.Record.{Record}
use Rattle.model.specs.declared.device.Device.{Device}
use Rattle.model.specs.State.{State}
use Rattle.model.specs.Names.{UNUSED, DEFECTIVE, WRITE}
use Rattle.model.specs.Rules.{first_of}
use Rattle.model.specs.Alternates.{map_entries, map_size, entry_at, name_of, lies, unused_in, formatted, bad_map}
use Rattle.model.specs.Lent.{block_count, alternate_at, block_at, blocks_from}
use Rattle.model.specs.Pieces.{Command, total, fetched, commands_in, command_at}
use Rattle.model.specs.Parameters.{locate_length, located_in, reads, writes}
use Rattle.model.specs.Causes.{map_causes, call_causes, own_causes, causes_of, verdict, kind_of}
use Rattle.model.specs.Commands.{Out, after, extent_set, locate_set, first_block, map_after, no_operation, define_extent, locate, sent, sense, sense_type, read_log, can_move, read, write, read_ipl, sense_given, refused, accepted, seen, decided, step, define_done, ipl_done, locate_done, read_done, write_done}
use Rattle.model.specs.Chain.{System, system, step_at, next, run, start, call_of}
use Rattle.model.specs.Safe.{Safe}
use Rattle.model.proofs.Leaving.{leaves_ind}
use Rattle.model.proofs.Alternates.{length_formatted, unused_apart}
use Rattle.model.proofs.Formats.{entry_cases, Right, right_of, right_is, format_right}
use Rattle.model.proofs.Blocks.{count_same, place_kept, block_kept, block_stored, blocks_from_same}
use Rattle.model.proofs.Steps.{Cases, accepted_as, accepted_cases, step_cases, step_cause}
use Rattle.model.proofs.Refusals.{call_ran}
use Rattle.model.proofs.Endings.{callable}
use Rattle.model.proofs.Safety.{locate_ok, format_takes, located_below, on_device, after_locate, safe_start, step_safe}
use Rattle.model.proofs.Lengths.{step_lengths}

pub record Sound (dev : Device) (s : State) (store : List ℕ) : Type 0 where
  pub some_block : 0 < block_count dev store
  pub few_blocks : block_count dev store ≤ 131072
  pub few_alternates : dev.alternates ≤ map_entries
  pub whole_map : length s.map ≡ map_size
  pub safe : Safe s (block_count dev store)
  pub right : bad_map s.map dev.alternates (block_count dev store) ≡ false

-- an alternate, before and after
pub record Spared (dev : Device) (i : ℕ) (map store map' store' : List ℕ) : Type 0 where
  pub defective : entry_at map i ≡ DEFECTIVE → (entry_at map' i ≡ DEFECTIVE) × (alternate_at dev store' i ≡ alternate_at dev store i)
  pub unused : entry_at map' i ≡ UNUSED → (entry_at map i ≡ UNUSED) × (alternate_at dev store' i ≡ alternate_at dev store i)

-- two commands that answer alike, leave the same state and the same main storage
pub record Same (o o' : Out) : Type 0 where
  pub done : o.done ≡ o'.done
  pub main : o.main ≡ o'.main

-- a format keeps entries that are defective, and makes none unused

module _ (map : List ℕ) (alternates block : ℕ) (few : alternates ≤ map_entries) (long : length map ≡ map_size) (takes : unused_in map alternates < alternates) (small : name_of block < DEFECTIVE) (i : ℕ) where
  was_unused : entry_at map (unused_in map alternates) ≡ UNUSED
  was_unused = eqb-true _ _ (lowest_holds (λ i. entry_at map i =? UNUSED) alternates takes)

  defective_stays : entry_at map i ≡ DEFECTIVE → entry_at (formatted map alternates block) i ≡ DEFECTIVE
  defective_stays e =
      entry_cases map alternates block few long takes small (λ (v : ℕ). v ≡ DEFECTIVE) i
      (λ t. absurd (omega (arith, sym e ∙ ap (entry_at map) t ∙ was_unused))) (λ _ _. refl) (λ _ _. e)

  unused_was : entry_at (formatted map alternates block) i ≡ UNUSED → entry_at map i ≡ UNUSED
  unused_was =
      entry_cases map alternates block few long takes small (λ (v : ℕ). v ≡ UNUSED → entry_at map i ≡ UNUSED) i
      (λ _ z. absurd (omega (arith, z))) (λ _ _ z. absurd (omega (arith, z))) (λ _ _ z. z)

-- a command

module _ (dev : Device) (c : Command) (s : State) (main store : List ℕ) (safe : Safe s (block_count dev store)) where
  map_cases : (P : List ℕ → Type 0) → P s.map
      → ((block : ℕ) → block < block_count dev store → unused_in s.map dev.alternates < dev.alternates → P (formatted s.map dev.alternates block))
      → Cases dev c s main store (λ o. P o.done.state.map)
  unfolding no_operation define_extent define_done locate locate_done read read_done write write_done read_ipl ipl_done sense sense_type read_log sent refused seen after extent_set locate_set map_after
  map_cases P p f = record {
    refusal = λ w _ _. leaves_ind (λ (t : State). P t.map) (kind_of w) s (sense_given w c main) p p p;
    no_operation_lem = λ _. p;
    define_extent_lem = λ _ _ _. p;
    locate = λ _ _ g.
        let l = locate_ok dev c s _ g in
        let below = located_below s.extent (located_in (fetched c main locate_length)) _ (safe.extent l.defined) l.placed in
        pick_ind P _ _ _ (λ b. f _ (omega (arith, below, l.placed.some)) (format_takes dev c s _ g b)) (λ _. p);
    read = λ _ _ _. p;
    write = λ _ _ _. p;
    read_ipl_lem = λ _ _ _. p;
    sense = λ _ _. p;
    sense_type_lem = λ _ _. p;
    read_log_lem = λ _ _. p;
  }

  pub step_map : (P : List ℕ → Type 0) → P s.map
      → ((block : ℕ) → block < block_count dev store → unused_in s.map dev.alternates < dev.alternates → P (formatted s.map dev.alternates block))
      → P (step dev c s main store).done.state.map
  step_map P p f = step_cases dev c s main store (λ o. P o.done.state.map) (map_cases P p f)

  -- a place at which no block lies

  place_cases : (place : ℕ) → ((block : ℕ) → block < block_count dev store → lies s.map dev.alternates (block_count dev store) block ≡ place → ⊥)
      → Cases dev c s main store (λ o. part o.store (place * dev.block) dev.block ≡ part store (place * dev.block) dev.block)
  unfolding no_operation define_extent locate read write read_ipl sense sense_type read_log sent refused seen after
  place_cases place off = record {
    refusal = λ _ _ _. refl;
    no_operation_lem = λ _. refl;
    define_extent_lem = λ _ _ _. refl;
    locate = λ _ _ _. refl;
    read = λ _ _ _. refl;
    write = λ _ _ f.
        let on = on_device s _ safe (after_locate writes s f) in
        place_kept dev s.map store _ _ _ place on (λ j b. off _ (omega (arith, on, b)));
    read_ipl_lem = λ _ _ _. refl;
    sense = λ _ _. refl;
    sense_type_lem = λ _ _. refl;
    read_log_lem = λ _ _. refl;
  }

  pub step_place : (place : ℕ) → ((block : ℕ) → block < block_count dev store → lies s.map dev.alternates (block_count dev store) block ≡ place → ⊥)
      → part (step dev c s main store).store (place * dev.block) dev.block ≡ part store (place * dev.block) dev.block
  step_place place off = step_cases dev c s main store (λ o. part o.store (place * dev.block) dev.block ≡ part store (place * dev.block) dev.block) (place_cases place off)

  pub step_alternate : (i : ℕ) → block_count dev store ≤ 131072 → (entry_at s.map i ≡ UNUSED) ⊎ (entry_at s.map i ≡ DEFECTIVE)
      → alternate_at dev (step dev c s main store).store i ≡ alternate_at dev store i
  unfolding alternate_at
  step_alternate i few u =
      rw (count_same dev _ store (step_lengths dev c s main store safe).store_length)
      (step_place (block_count dev store + i) (λ block b. unused_apart s.map dev.alternates (block_count dev store) block i b (omega (arith, few)) u))

module _ (dev : Device) (c : Command) (s : State) (main store : List ℕ) (h : Sound dev s store) where
  small_block : (block : ℕ) → block < block_count dev store → name_of block < DEFECTIVE
  small_block block b = omega (arith, b, h.few_blocks)

  step_long : length (step dev c s main store).done.state.map ≡ map_size
  step_long = step_map dev c s main store h.safe (λ m. length m ≡ map_size) h.whole_map (λ block _ t. length_formatted s.map dev.alternates block h.few_alternates h.whole_map t)

  step_right : bad_map (step dev c s main store).done.state.map dev.alternates (block_count dev store) ≡ false
  step_right =
      let n : ℕ = block_count dev store in
      right_is _ dev.alternates n
      (step_map dev c s main store h.safe (λ m. Right m dev.alternates n) (right_of s.map dev.alternates n h.right)
      (λ block b t. format_right s.map dev.alternates n block h.few_alternates h.whole_map t b (omega (arith, h.few_blocks)) (right_of s.map dev.alternates n h.right)))

  pub step_sound : Sound dev (step dev c s main store).done.state (step dev c s main store).store
  step_sound =
      let e = count_same dev (step dev c s main store).store store (step_lengths dev c s main store h.safe).store_length in
      record {
        some_block = rw e h.some_block;
        few_blocks = rw e h.few_blocks;
        few_alternates = h.few_alternates;
        whole_map = step_long;
        safe = rw e (step_safe dev c s main store h.some_block h.safe);
        right = rw e step_right;
      }

  pub step_spared : (i : ℕ) → Spared dev i s.map store (step dev c s main store).done.state.map (step dev c s main store).store
  step_spared i =
      let kept = step_alternate dev c s main store h.safe i h.few_blocks in
      record {
        defective = λ e. (
          step_map dev c s main store h.safe (λ m. entry_at m i ≡ DEFECTIVE) e
              (λ block b t. defective_stays s.map dev.alternates block h.few_alternates h.whole_map t (small_block block b) i e),
          kept (inr e),
        );
        unused = λ e.
            let was = step_map dev c s main store h.safe (λ m. entry_at m i ≡ UNUSED → entry_at s.map i ≡ UNUSED) (λ z. z)
            (λ block b t. unused_was s.map dev.alternates block h.few_alternates h.whole_map t (small_block block b) i) e in
            (was, kept (inl was));
      }

-- two stores in which READ shows the same blocks

module _ (dev : Device) (c : Command) (s : State) (main store store' : List ℕ) (safe : Safe s (block_count dev store)) (some : 0 < block_count dev store) (sizes : length store ≡ length store')
    (shown : (block : ℕ) → block < block_count dev store → block_at dev s.map store block ≡ block_at dev s.map store' block) where
  verdict_blind : verdict dev c s main store ≡ verdict dev c s main store'
  unfolding verdict causes_of own_causes
  verdict_blind = rw (count_same dev store store' sizes)

  from_blind : (block n : ℕ) → block + n ≤ block_count dev store → blocks_from dev s.map store block n ≡ blocks_from dev s.map store' block n
  from_blind block n h = blocks_from_same dev s.map s.map store store' block block n (λ i b. shown (block + i) (omega arith))

  blind_cases : verdict dev c s main store ≡ 0 → Cases dev c s main store (λ o. Same o (accepted dev c (seen c s) main store'))
  unfolding no_operation define_extent locate read write read_ipl sense sense_type read_log sent seen after
  blind_cases v =
      let did = accepted_as dev c (seen c s) main store' in
      record {
        refusal = λ w n z. absurd (n (sym z ∙ v));
        no_operation_lem = λ x. rw (did.no_operation_lem x) (record { done = refl; main = refl });
        define_extent_lem = λ _ x _. rw (did.define_extent_lem x) (record { done = refl; main = refl });
        locate = λ _ x _. rw (did.locate x) (record { done = refl; main = refl });
        read = λ _ x f.
            let e = from_blind (first_block s.extent s.located) s.located.blocks (on_device s _ safe (after_locate reads s f)) in
            rw (did.read x) (record { done = refl; main = rw e });
        write = λ _ x _. rw (did.write x) (record { done = refl; main = refl });
        read_ipl_lem = λ _ x _. rw (did.read_ipl_lem x) (record { done = rw (count_same dev store store' sizes); main = rw (from_blind 0 1 (omega (arith, some))) });
        sense = λ _ x. rw (did.sense x) (record { done = refl; main = refl });
        sense_type_lem = λ _ x. rw (did.sense_type_lem x) (record { done = refl; main = refl });
        read_log_lem = λ _ x. rw (did.read_log_lem x) (record { done = refl; main = refl });
      }

  pub step_blind : Same (step dev c s main store) (step dev c s main store')
  unfolding step decided refused
  step_blind =
      rw (← verdict_blind)
      (pick_both Same (verdict dev c s main store =? 0) _ _ _ _
      (λ b. let v = eqb-true _ _ b in accepted_cases dev c s main store (λ o. Same o (accepted dev c (seen c s) main store')) (blind_cases v) v)
      (λ _. record { done = refl; main = refl }))

-- an accepted WRITE

pub record Shown (dev : Device) (s : State) (store bytes store' : List ℕ) : Type 0 where
  pub stored : (i : ℕ) → i < s.located.blocks → block_at dev s.map store' (first_block s.extent s.located + i) ≡ pad dev.block (drop (i * dev.block) bytes)
  pub kept : (block : ℕ) → block < block_count dev store → (block < first_block s.extent s.located) ⊎ (first_block s.extent s.located + s.located.blocks ≤ block)
      → block_at dev s.map store' block ≡ block_at dev s.map store block

module _ (dev : Device) (c : Command) (s : State) (main store : List ℕ) (safe : Safe s (block_count dev store)) where
  abbrev bytes_of : List ℕ
  bytes_of = fetched c main (min (total c) (can_move dev s.located))

  shown_cases : verdict dev c s main store ≡ 0 → c.command ≡ WRITE → Cases dev c s main store (λ o. Shown dev s store bytes_of o.store)
  unfolding write seen after
  shown_cases v e = record {
    refusal = λ w n z. absurd (n (sym z ∙ v));
    no_operation_lem = λ x. absurd (omega (arith, sym x ∙ e));
    define_extent_lem = λ _ x _. absurd (omega (arith, sym x ∙ e));
    locate = λ _ x _. absurd (omega (arith, sym x ∙ e));
    read = λ _ x _. absurd (omega (arith, sym x ∙ e));
    write = λ _ _ f.
        let on = on_device s _ safe (after_locate writes s f) in
        record { stored = λ i b. block_stored dev s.map store _ _ bytes_of i on b; kept = λ block b o. block_kept dev s.map store _ _ bytes_of block on b o };
    read_ipl_lem = λ _ x _. absurd (omega (arith, sym x ∙ e));
    sense = λ _ x. absurd (omega (arith, sym x ∙ e));
    sense_type_lem = λ _ x. absurd (omega (arith, sym x ∙ e));
    read_log_lem = λ _ x. absurd (omega (arith, sym x ∙ e));
  }

  pub write_shown : (step dev c s main store).done.cause ≡ 0 → c.command ≡ WRITE → Shown dev s store bytes_of (step dev c s main store).store
  write_shown z e = step_cases dev c s main store (λ o. Shown dev s store bytes_of o.store) (shown_cases (sym (step_cause dev c s main store) ∙ z) e)

-- the chain

spared_none : (dev : Device) (i : ℕ) (map store : List ℕ) → Spared dev i map store map store
spared_none dev i map store = record { defective = λ e. (e, refl); unused = λ e. (e, refl) }

spared_more : (dev : Device) (i : ℕ) (map store map' store' map'' store'' : List ℕ) → Spared dev i map store map' store' → Spared dev i map' store' map'' store'' → Spared dev i map store map'' store''
spared_more dev i map store map' store' map'' store'' p q = record {
  defective = λ e.
      let f = p.defective e in
      let g = q.defective f.0 in
      (g.0, g.1 ∙ f.1);
  unused = λ e.
      let g = q.unused e in
      let f = p.unused g.0 in
      (f.0, g.1 ∙ f.1);
}

module _ (dev : Device) (chain : List ℕ) where
  pub next_sound : (i : ℕ) (y : System) → Sound dev y.state y.store → Sound dev (next dev chain i y).state (next dev chain i y).store
  unfolding next step_at
  next_sound i y h = step_sound dev (command_at chain i) y.state y.main y.store h

  pub run_sound : (n i : ℕ) (y : System) → Sound dev y.state y.store → Sound dev (run dev chain n i y).state (run dev chain n i y).store
  unfolding run
  run_sound zero i y h = h
  run_sound (suc n) i y h =
      let k = next_sound i y h in
      pick_ind (λ (z : System). Sound dev z.state z.store) _ _ _ (λ _. run_sound n (i + 1) (next dev chain i y) k) (λ _. k)

  next_spared : (j i : ℕ) (y : System) → Sound dev y.state y.store → Spared dev j y.state.map y.store (next dev chain i y).state.map (next dev chain i y).store
  unfolding next step_at
  next_spared j i y h = step_spared dev (command_at chain i) y.state y.main y.store h j

  pub run_spared : (j n i : ℕ) (y : System) → Sound dev y.state y.store → Spared dev j y.state.map y.store (run dev chain n i y).state.map (run dev chain n i y).store
  unfolding run
  run_spared j zero i y h = spared_none dev j _ _
  run_spared j (suc n) i y h =
      let k = next_spared j i y h in
      pick_ind (λ (z : System). Spared dev j y.state.map y.store z.state.map z.store) _ _ _
      (λ _. spared_more dev j _ _ _ _ _ _ k (run_spared j n (i + 1) (next dev chain i y) (next_sound i y h))) (λ _. k)

-- the call

module _ (dev : Device) (chain main store : List ℕ) (u : Record) (map answers : List ℕ) (long : length map ≡ map_size) where
  pub start_sound : first_of (call_causes dev chain main store map answers) ≡ 0 → Sound dev (start u map) store
  unfolding start block_count
  start_sound e =
      let k = callable dev chain main store map answers e in
      record { some_block = k.some_block; few_blocks = omega (arith, k.held); few_alternates = k.few_alternates; whole_map = long; safe = safe_start u map _; right = k.right }

  given : (call_of dev chain main store u map answers).cause ≡ first_of (call_causes dev chain main store map answers)
  unfolding call_of
  given = refl

  pub call_right : (call_of dev chain main store u map answers).cause ≡ 0
      → first_of (map_causes dev (call_of dev chain main store u map answers).store (call_of dev chain main store u map answers).map) ≡ 0
  unfolding map_causes first_of pick
  call_right z =
      let e = sym given ∙ z in
      let k = run_sound dev chain (length (commands_in chain)) 0 (system (start u map) main store answers 0) (start_sound e) in
      rw (call_ran dev chain main store u map answers e, k.right) refl

  pub call_spared : (i : ℕ) → Spared dev i map store (call_of dev chain main store u map answers).map (call_of dev chain main store u map answers).store
  unfolding call_of start
  call_spared i =
      let y : System = system (start u map) main store answers 0 in
      pick_ind (λ (z : System). Spared dev i map store z.state.map z.store) _ _ _
      (λ b. run_spared dev chain i (length (commands_in chain)) 0 y (start_sound (eqb-true _ _ b)))
      (λ _. spared_none dev i map store)
