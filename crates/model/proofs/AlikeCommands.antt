-- Demand 3, the commands: what one command does to two runs that are alike leaves them alike.
--     refused_alike     a command that was given a cause
--     no_operation_alike, define_alike, locate_alike, sent_alike, read_alike, write_alike
--                       each accepted command, those that send bytes in one; READ IPL is not in the chain
--     accepted_alike    any accepted command
--     step_alike        any command
-- No contract cites this file.
use Prim.Native.Nat.{ℕ, ◌+◌, ◌-◌, ◌*◌, ◌<◌, min}
use mathlib.Core.Path.{◌≡◌, refl, sym, ap, ◌∙◌}
use mathlib.Core.Bool.{true}
use mathlib.Core.List.{List, []}
use lib.ListN.{take}
use native.Mathlib.Omega.{arith}
use borrow.Author.Tests.{eqb-true}
use Rattle.slices.specs.Parts.{zeros}
use Rattle.model.specs.declared.extent.Displacement.{Displacement}
use Rattle.model.specs.declared.extent.Extent.{Extent}
use Rattle.model.specs.declared.extent.Located.{Located}
use Rattle.model.specs.declared.record.Record.{Record}
use Rattle.model.specs.declared.device.Device.{Device}
use Rattle.model.specs.State.{State}
use Rattle.model.specs.Names.{NO_OPERATION, DEFINE_EXTENT, LOCATE, READ, WRITE, format}
use Rattle.model.specs.Alternates.{unused_in}
use Rattle.numbers.specs.Choice.{◌=?◌}
use Rattle.model.specs.Rules.{Rule, first_of}
use Rattle.model.specs.Lent.{block_count, blocks_from}
use Rattle.model.specs.Pieces.{Command, pieces, total, fetched, delivered}
use Rattle.model.specs.Parameters.{locate_length, located_in, address, reads, writes}
use Rattle.model.specs.Causes.{channel_causes, unit_causes, extent_causes, define_extent_causes, read_ipl_causes, transfer_causes, verdict, a_locate, kind_of}
use Rattle.model.specs.Sense.{shown}
use Rattle.model.specs.Log.{with_sense, movement_counted, log_of, log_reset}
use Rattle.model.specs.Commands.{Out, sense_given, after, extent_set, locate_set, map_after, no_operation, define_extent, locate, sent, sense, sense_type, read_log, begun, read, write, accepted, refused, cleared, seen, decided, step, define_done, locate_done, read_done, write_done}
use Rattle.model.specs.Safe.{Inside, InExtent, Safe}
use Rattle.model.specs.Exactly.{absent}
use Rattle.numbers.proofs.Choice.{pick_both}
use Rattle.model.proofs.Verdicts.{never_given}
use Rattle.model.proofs.Leaving.{leaves_both}
use Rattle.model.proofs.Steps.{Admitted, accepted_cases, past_channel, own_cases, accepted_as}
use Rattle.model.proofs.Safety.{after_locate, locate_ok, format_takes, safe_seen}
use Rattle.model.proofs.Alike.{Place, SoundPlace, States, Mains, Stores, Outs, states_after, mains_scattered}
use Rattle.model.proofs.AlikeStores.{stores_read, stores_write, stores_formatted}
use Rattle.model.proofs.AlikeVerdicts.{Fits, fetched_same, extent_here, extent_there, verdict_same}

-- a refused command

-- cause 39 alone shows parameters, and it is a LOCATE's
locate_shows : (dev : Device) (c : Command) (s : State) (m x : List ℕ) → verdict dev c s m x ≡ 39 → c.command ≡ LOCATE
unfolding channel_causes unit_causes extent_causes define_extent_causes read_ipl_causes transfer_causes
locate_shows dev c s m x e =
    let elsewhere : (rs : List Rule) → absent 39 rs ≡ true → first_of rs ≡ 39 → c.command ≡ LOCATE = λ rs a v. absurd (never_given 39 rs a (λ z. omega arith) v) in
    own_cases dev c s m x (λ rs. first_of rs ≡ 39 → c.command ≡ LOCATE)
    (λ _. elsewhere _ refl) (λ l _. l) (λ _. elsewhere _ refl) (λ _. elsewhere _ refl) (λ _. elsewhere _ refl) (elsewhere [] refl)
    (past_channel dev c s m x 39 refl e).1

module _ (dev : Device) (F : Place) (c : Command) (f : Fits F c) (s t : State) (r : States F s t) (m m' : List ℕ) (g : Mains F m m') (x x' : List ℕ) (h : Stores dev F s.map t.map x x') where
  shown_same : (w : ℕ) → verdict dev c s m x ≡ w → shown w (fetched c m locate_length) ≡ shown w (fetched c m' locate_length)
  unfolding shown
  shown_same w e =
      pick_both ◌≡◌ (w =? 39) _ _ _ _
      (λ b. let l = locate_shows dev c s m x (e ∙ eqb-true _ _ b) in fetched_same F c m m' f g locate_length (λ d. omega (arith, l)))
      (λ _. refl)

  refused_alike : (w : ℕ) → verdict dev c s m x ≡ w → Outs dev F (refused c s m x w) (refused c t m' x' w)
  unfolding refused after
  refused_alike w e =
      let left = leaves_both (States F) (kind_of w) s t (sense_given w c m) (sense_given w c m') r (states_after F s t _ _ _ _ r.unit refl r) (states_after F s t _ _ _ _ (rw (r.unit, shown_same w e)) refl r) in
      let stores = leaves_both (λ (y z : State). Stores dev F y.map z.map x x') (kind_of w) s t (sense_given w c m) (sense_given w c m') h h h in
      record { dones = record { cause = refl; moved = refl; can = refl; blocks = refl; states = left }; mains = g; stores = stores }

  -- commands that move no block

  no_operation_alike : Outs dev F (no_operation s m x) (no_operation t m' x')
  unfolding no_operation after
  no_operation_alike = record { dones = record { cause = refl; moved = refl; can = refl; blocks = refl; states = states_after F s t _ _ _ _ r.unit refl r }; mains = g; stores = h }

  define_alike : SoundPlace dev F → c.command ≡ DEFINE_EXTENT → Outs dev F (define_extent c s m x) (define_extent c t m' x')
  unfolding define_extent define_done extent_set
  define_alike k e =
      let a = extent_here F c m m' f g e in
      let b = extent_there F c m m' f g e in
      record {
        dones = record {
          cause = refl;
          moved = refl;
          can = refl;
          blocks = refl;
          states = record {
            unit = r.unit;
            defined = refl;
            before = refl;
            located = r.located;
            mask = rw (a, b) k.mask;
            first = rw (a, b) k.first;
            last = rw (a, b) k.last;
            set = λ _. (a, b);
          };
        };
        mains = g;
        stores = h;
      }

  -- a format takes the same alternate in both; another LOCATE leaves the maps
  map_alike : SoundPlace dev F → (l : Located) → (s.extent ≡ F.here) × (t.extent ≡ F.there) → InExtent s.extent l
      → (l.operation =? format ≡ true → unused_in s.map dev.alternates < dev.alternates) → Stores dev F (map_after dev s.map s.extent l) (map_after dev t.map t.extent l) x x'
  unfolding map_after address
  map_alike k l at within takes =
      let i : ℕ = l.displacement.0 - F.here.first.0 in
      let in-here : InExtent F.here l = rw (← at.0) within in
      let p : address s.extent l.displacement ≡ F.here.offset.0 + i = ap (λ (e : Extent). address e l.displacement) at.0 ∙ omega arith in
      let first : F.here.first.0 ≡ F.there.first.0 = ap (λ (d : Displacement). d.0) k.first in
      let q : address t.extent l.displacement ≡ F.there.offset.0 + i = ap (λ (e : Extent). address e l.displacement) at.1 ∙ omega (arith, first) in
      pick_both (λ (a b : List ℕ). Stores dev F a b x x') (l.operation =? format) _ _ _ _
      (λ b. rw (p, q) (stores_formatted dev F k s.map t.map x x' h i (omega (arith, in-here.from_first, in-here.to_last, in-here.some)) (takes b)))
      (λ _. h)

  locate_alike : SoundPlace dev F → s.defined ≡ true → InExtent s.extent (located_in (fetched c m locate_length))
      → ((located_in (fetched c m locate_length)).operation =? format ≡ true → unused_in s.map dev.alternates < dev.alternates) → c.command ≡ LOCATE → Outs dev F (locate dev c s m x) (locate dev c t m' x')
  unfolding locate locate_done locate_set
  locate_alike k defined within takes e =
      let p = fetched_same F c m m' f g locate_length (λ d. omega arith) in
      record {
        dones = record {
          cause = refl;
          moved = refl;
          can = refl;
          blocks = refl;
          states = record {
            unit = ap movement_counted r.unit;
            defined = r.defined;
            before = refl;
            located = ap located_in p;
            mask = r.mask;
            first = r.first;
            last = r.last;
            set = r.set;
          };
        };
        mains = g;
        stores = rw (← p) (map_alike k (located_in (fetched c m locate_length)) (r.set defined) within takes);
      }

  -- bytes delivered to another command's data area
  delivered_alike : (bytes bytes' : List ℕ) (n : ℕ) → bytes ≡ bytes' → (c.command ≡ DEFINE_EXTENT → ⊥) → Inside (pieces c) m → Mains F (delivered c m (take n bytes)) (delivered c m' (take n bytes'))
  unfolding delivered
  delivered_alike bytes bytes' n e o room = rw (← e) (mains_scattered F (pieces c) m m' (take n bytes) room (f.apart o) g)

  sent_alike : (can : ℕ) (bytes bytes' : List ℕ) (u u' : Record) → bytes ≡ bytes' → u ≡ u' → Admitted c m → (c.command ≡ DEFINE_EXTENT → ⊥) → (c.command ≡ NO_OPERATION → ⊥)
      → Outs dev F (sent c s m x can bytes u) (sent c t m' x' can bytes' u')
  unfolding sent after
  sent_alike can bytes bytes' u u' b e a o n = record {
    dones = record { cause = refl; moved = refl; can = refl; blocks = refl; states = states_after F s t u u' _ _ e refl r };
    mains = delivered_alike bytes bytes' (min (total c) can) b o (a.room n);
    stores = h;
  }

  -- commands that move blocks

  module _ (k : SoundPlace dev F) (w : Safe s (block_count dev x)) (l : a_locate s.before ≡ true) where
    -- the LOCATE before lies in the extent, in both runs
    here : s.extent ≡ F.here
    here = (r.set (w.located l).0).0

    there : t.extent ≡ F.there
    there = (r.set (w.located l).0).1

    within : InExtent F.here s.located
    within = rw (← here) (w.located l).1

    read_alike : Admitted c m → c.command ≡ READ → Outs dev F (read dev c s m x) (read dev c t m' x')
    unfolding read read_done after
    read_alike a e =
        let can : s.located.blocks * dev.block ≡ t.located.blocks * dev.block = rw r.located in
        let bytes : blocks_from dev s.map x (address s.extent s.located.displacement) s.located.blocks ≡ blocks_from dev t.map x' (address t.extent t.located.displacement) t.located.blocks
        = rw (here, there, ← r.located) (stores_read dev F k s.map t.map x x' h s.located within) in
        record {
          dones = record {
            cause = refl;
            moved = ap (min (total c)) can;
            can = can;
            blocks = ap (λ (n : ℕ). begun dev (min (total c) n)) can;
            states = states_after F s t _ _ _ _ (rw (can, r.unit)) refl r;
          };
          mains = rw (← can) (delivered_alike _ _ (min (total c) (s.located.blocks * dev.block)) bytes (λ d. omega arith) (a.room (λ z. omega arith)));
          stores = h;
        }

    write_alike : Admitted c m → c.command ≡ WRITE → Outs dev F (write dev c s m x) (write dev c t m' x')
    unfolding write write_done after
    write_alike a e =
        let can : s.located.blocks * dev.block ≡ t.located.blocks * dev.block = rw r.located in
        let bytes = fetched_same F c m m' f g (min (total c) (s.located.blocks * dev.block)) (λ d. omega arith) in
        record {
          dones = record {
            cause = refl;
            moved = ap (min (total c)) can;
            can = can;
            blocks = ap (λ (n : ℕ). begun dev (min (total c) n)) can;
            states = states_after F s t _ _ _ _ (rw (r.located, r.unit)) refl r;
          };
          mains = g;
          stores = rw (here, there, ← r.located, ← bytes) (stores_write dev F k s.map t.map x x' h s.located within _);
        }

-- any command

states_seen : (F : Place) (c : Command) (s t : State) → States F s t → States F (seen c s) (seen c t)
unfolding seen cleared after
states_seen F c s t r = states_after F s t _ _ _ _ (rw r.unit) r.before r

module _ (dev : Device) (F : Place) (k : SoundPlace dev F) (c : Command) (f : Fits F c) (s t : State) (r : States F s t) (m m' : List ℕ) (g : Mains F m m') (x x' : List ℕ) (h : Stores dev F s.map t.map x x')
    (w : Safe s (block_count dev x)) where
  accepted_alike : verdict dev c s m x ≡ 0 → Outs dev F (accepted dev c (seen c s) m x) (accepted dev c (seen c t) m' x')
  unfolding seen after sense sense_type read_log
  accepted_alike v =
      let y : State = seen c s in
      let z : State = seen c t in
      let q : States F y z = states_seen F c s t r in
      let safe : Safe y (block_count dev x) = safe_seen c s _ w in
      let P : Out → Type 0 = λ o. Outs dev F o (accepted dev c z m' x') in
      let sends : (can : ℕ) (bytes bytes' : List ℕ) (u u' : Record) → bytes ≡ bytes' → u ≡ u' → Admitted c m → (c.command ≡ DEFINE_EXTENT → ⊥) → (c.command ≡ NO_OPERATION → ⊥) → Outs dev F (sent c y m x can bytes u) (sent c z m' x' can bytes' u')
      = sent_alike dev F c f y z q m m' g x x' h in
      accepted_cases dev c s m x P
      (record {
        refusal = λ n o e. absurd (o (sym e ∙ v));
        no_operation_lem = λ e. rw ((accepted_as dev c z m' x').no_operation_lem e) (no_operation_alike dev F c f y z q m m' g x x' h);
        define_extent_lem = λ a e _. rw ((accepted_as dev c z m' x').define_extent_lem e) (define_alike dev F c f y z q m m' g x x' h k e);
        locate = λ a e l. rw ((accepted_as dev c z m' x').locate e) (locate_alike dev F c f y z q m m' g x x' h k (locate_ok dev c s _ l).defined (locate_ok dev c s _ l).placed (format_takes dev c s _ l) e);
        read = λ a e l. rw ((accepted_as dev c z m' x').read e) (read_alike dev F c f y z q m m' g x x' h k safe (after_locate reads s l) a e);
        write = λ a e l. rw ((accepted_as dev c z m' x').write e) (write_alike dev F c f y z q m m' g x x' h k safe (after_locate writes s l) a e);
        read_ipl_lem = λ a e _. absurd (f.no_ipl e);
        sense = λ a e. rw ((accepted_as dev c z m' x').sense e) (sends 24 _ _ _ _ (ap (λ (u : Record). u.sense) q.unit) (ap (λ (u : Record). with_sense u (zeros 24)) q.unit) a (λ d. omega arith) (λ d. omega arith));
        sense_type_lem = λ a e. rw ((accepted_as dev c z m' x').sense_type_lem e) (sends 7 _ _ _ _ refl q.unit a (λ d. omega arith) (λ d. omega arith));
        read_log_lem = λ a e. rw ((accepted_as dev c z m' x').read_log_lem e) (sends 24 _ _ _ _ (ap log_of q.unit) (ap log_reset q.unit) a (λ d. omega arith) (λ d. omega arith));
      })
      v

  pub step_alike : Outs dev F (step dev c s m x) (step dev c t m' x')
  unfolding step decided
  step_alike =
      let e = verdict_same dev F k c f s t r m m' g x x' h in
      rw (← e)
      (pick_both (Outs dev F) (verdict dev c s m x =? 0) _ _ _ _
      (λ b. accepted_alike (eqb-true _ _ b)) (λ b. refused_alike dev F c f s t r m m' g x x' h (verdict dev c s m x) refl))
