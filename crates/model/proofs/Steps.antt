-- Laws of `step`: a command is refused, or accepted as one of nine. Callers use these, not its text.
--     step_refused                  by the verdict
--     Admitted                      what a command is known to have where the channel passed it on
--     past_channel                  a verdict that the channel and the unit do not give is the command's own
--     own_as, accepted_as           the table and the effect of each command
--     performed_as                  so of one that the channel and the unit passed on
--     step_cases                    what holds of a refusal and of each accepted command holds of `step`
--     step_cause                    the cause that a command ends with is the verdict of its table
-- No contract cites this file.
use Prim.Native.Nat.{ℕ, ◌<◌}
use mathlib.Core.Path.{◌≡◌, refl, sym, ap, ◌∙◌}
use mathlib.Core.Bool.{Bool, true, false, ◌||◌, false≢true}
use mathlib.Core.List.{List, [], ◌∷◌, ◌++◌}
use lib.ListN.{length}
use borrow.Author.Tests.{eqb-true, eqb-false, ne_eqb, not-false}
use Rattle.model.specs.declared.device.Device.{Device}
use Rattle.model.specs.State.{State}
use Rattle.model.specs.Names.{NO_OPERATION, DEFINE_EXTENT, LOCATE, READ, WRITE, READ_IPL, SENSE, SENSE_TYPE, READ_LOG}
use Rattle.numbers.specs.Choice.{pick, one_of}
use Rattle.model.specs.Rules.{Rule, first_of}
use Rattle.model.specs.Lent.{block_count}
use Rattle.model.specs.Pieces.{Command, pieces, total, fetched}
use Rattle.model.specs.Parameters.{extent_length, locate_length, reads, writes}
use Rattle.model.specs.Causes.{channel_causes, commands, unit_causes, extent_causes, define_extent_causes, permission_causes, location_causes, locate_causes, read_ipl_causes, transfer_causes, own_causes, causes_of, verdict}
use Rattle.model.specs.Commands.{Out, no_operation, define_extent, locate, read, write, read_ipl, sense, sense_type, read_log, accepted, after, sent, refused, cleared, seen, decided, performed, step, define_done, ipl_done, locate_done, read_done, write_done}
use Rattle.model.specs.Exactly.{Failed, absent}
use Rattle.numbers.proofs.Choice.{pick_ind, pick_true, pick_false}
use Rattle.model.specs.Safe.{Inside}
use Rattle.model.proofs.Verdicts.{first_append, failed_upto, failed_all, none_given}
use Rattle.model.proofs.Pieces.{AllPassed, all_passed, some_counts, all_inside}

-- what the channel's tests leave known of a command, and the unit's
pub record Admitted (c : Command) (main : List ℕ) : Type 0 where
  pub some : 0 < total c
  pub room : (c.command ≡ NO_OPERATION → ⊥) → Inside (pieces c) main
  pub listed : one_of commands c.command ≡ true

either_cases : (P : Type 0) (a b : Bool) → a || b ≡ true → (a ≡ true → P) → (b ≡ true → P) → P
either_cases P true b e f g = f refl
either_cases P false b e f g = g e

-- a number is the first of those listed, or among the others
pub one_of_lem : (P : Type 0) (k : ℕ) (ks : List ℕ) (n : ℕ) → one_of (k ∷ ks) n ≡ true → (n ≡ k → P) → (one_of ks n ≡ true → P) → P
unfolding one_of
one_of_lem P k ks n e f g = either_cases P _ _ e (λ b. f (eqb-true n k b)) g

pub none_of : (n : ℕ) → one_of [] n ≡ true → ⊥
unfolding one_of
none_of n e = false≢true e

-- by the command: its own table, what it does, and both

pub record OwnAs (dev : Device) (c : Command) (s : State) (main store : List ℕ) (own : List Rule) : Type 0 where
  pub define_extent_lem : c.command ≡ DEFINE_EXTENT → own ≡ define_extent_causes dev (block_count dev store) c s (fetched c main extent_length)
  pub locate : c.command ≡ LOCATE → own ≡ locate_causes dev c s (fetched c main locate_length)
  pub read : c.command ≡ READ → own ≡ transfer_causes reads s
  pub write : c.command ≡ WRITE → own ≡ transfer_causes writes s
  pub read_ipl_lem : c.command ≡ READ_IPL → own ≡ read_ipl_causes s

pub record AcceptedAs (dev : Device) (c : Command) (s : State) (main store : List ℕ) (o : Out) : Type 0 where
  pub no_operation_lem : c.command ≡ NO_OPERATION → o ≡ no_operation s main store
  pub define_extent_lem : c.command ≡ DEFINE_EXTENT → o ≡ define_extent c s main store
  pub locate : c.command ≡ LOCATE → o ≡ locate dev c s main store
  pub read : c.command ≡ READ → o ≡ read dev c s main store
  pub write : c.command ≡ WRITE → o ≡ write dev c s main store
  pub read_ipl_lem : c.command ≡ READ_IPL → o ≡ read_ipl dev c s main store
  pub sense : c.command ≡ SENSE → o ≡ sense c s main store
  pub sense_type_lem : c.command ≡ SENSE_TYPE → o ≡ sense_type c s main store
  pub read_log_lem : c.command ≡ READ_LOG → o ≡ read_log c s main store

pub record PerformedAs (dev : Device) (c : Command) (s : State) (main store : List ℕ) (o : Out) : Type 0 where
  pub no_operation_lem : c.command ≡ NO_OPERATION → o ≡ no_operation s main store
  pub define_extent_lem : c.command ≡ DEFINE_EXTENT
      → o ≡ decided c s main store (first_of (define_extent_causes dev (block_count dev store) c s (fetched c main extent_length))) (define_extent c (cleared s) main store)
  pub locate : c.command ≡ LOCATE → o ≡ decided c s main store (first_of (locate_causes dev c s (fetched c main locate_length))) (locate dev c (cleared s) main store)
  pub read : c.command ≡ READ → o ≡ decided c s main store (first_of (transfer_causes reads s)) (read dev c (cleared s) main store)
  pub write : c.command ≡ WRITE → o ≡ decided c s main store (first_of (transfer_causes writes s)) (write dev c (cleared s) main store)
  pub read_ipl_lem : c.command ≡ READ_IPL → o ≡ decided c s main store (first_of (read_ipl_causes s)) (read_ipl dev c (cleared s) main store)
  pub sense : c.command ≡ SENSE → o ≡ sense c s main store
  pub sense_type_lem : c.command ≡ SENSE_TYPE → o ≡ sense_type c (cleared s) main store
  pub read_log_lem : c.command ≡ READ_LOG → o ≡ read_log c (cleared s) main store

module _ (dev : Device) (c : Command) (s : State) (main store : List ℕ) where
  own_as : OwnAs dev c s main store (own_causes dev c s main store)
  unfolding own_causes pick
  own_as = record { define_extent_lem = λ e. rw e; locate = λ e. rw e; read = λ e. rw e; write = λ e. rw e; read_ipl_lem = λ e. rw e }

  pub accepted_as : AcceptedAs dev c s main store (accepted dev c s main store)
  unfolding accepted pick
  accepted_as = record { no_operation_lem = λ e. rw e; define_extent_lem = λ e. rw e; locate = λ e. rw e; read = λ e. rw e; write = λ e. rw e; read_ipl_lem = λ e. rw e; sense = λ e. rw e; sense_type_lem = λ e. rw e; read_log_lem = λ e. rw e }

  pub performed_as : PerformedAs dev c s main store (performed dev c s main store)
  unfolding performed decided own_causes accepted seen cleared after pick one_of first_of
  performed_as = record { no_operation_lem = λ e. rw e; define_extent_lem = λ e. rw e; locate = λ e. rw e; read = λ e. rw e; write = λ e. rw e; read_ipl_lem = λ e. rw e; sense = λ e. rw e; sense_type_lem = λ e. rw e; read_log_lem = λ e. rw e }

module _ (dev : Device) (c : Command) (s : State) (main store : List ℕ) where
  pub step_refused : (verdict dev c s main store ≡ 0 → ⊥) → step dev c s main store ≡ refused c s main store (verdict dev c s main store)
  unfolding step decided
  step_refused n = pick_false _ _ _ (ne_eqb _ _ n)

  -- the verdict of the channel, and of the unit where the channel passes the command on
  pub early_channel : (w : ℕ) → first_of (channel_causes c main) ≡ w → (w ≡ 0 → ⊥) → first_of (channel_causes c main ++ unit_causes c s) ≡ w
  unfolding channel_causes
  early_channel w e n = first_append (channel_causes c main) (unit_causes c s) refl ∙ rw e (pick_false _ _ _ (ne_eqb _ _ n))

  pub early_unit : (w : ℕ) → first_of (channel_causes c main) ≡ 0 → first_of (unit_causes c s) ≡ w → first_of (channel_causes c main ++ unit_causes c s) ≡ w
  unfolding channel_causes
  early_unit w e f = first_append (channel_causes c main) (unit_causes c s) refl ∙ rw (e, f) (pick_true _ _ _ refl)

  -- each piece passes the channel's tests where the command does
  channel_passed : Failed (channel_causes c main) → AllPassed c.command (length main) (pieces c)
  unfolding channel_causes
  channel_passed f = all_passed c.command (length main) c.first c.later (none_given _ f.1)

  pub channel_room : first_of (channel_causes c main) ≡ 0 → (c.command ≡ NO_OPERATION → ⊥) → Inside (pieces c) main
  unfolding channel_causes
  channel_room e n = all_inside c.command main (pieces c) n (channel_passed (failed_all 0 (channel_causes c main) refl e))

  -- the channel or the unit itself refuses the command
  pub step_early : (w : ℕ) → first_of (channel_causes c main ++ unit_causes c s) ≡ w → (w ≡ 0 → ⊥) → step dev c s main store ≡ refused c s main store w
  unfolding verdict causes_of channel_causes unit_causes
  step_early w e n =
      let v : verdict dev c s main store ≡ w =
      first_append (channel_causes c main ++ unit_causes c s) (own_causes dev c s main store) refl ∙ rw e (pick_false _ _ _ (ne_eqb _ _ n)) in
      rw v at (step_refused (λ z. n (sym v ∙ z)))

  pub past_channel : (w : ℕ) → absent w (channel_causes c main ++ unit_causes c s) ≡ true → verdict dev c s main store ≡ w → Admitted c main × (first_of (own_causes dev c s main store) ≡ w)
  unfolding verdict causes_of channel_causes unit_causes
  past_channel w a e =
      let f = failed_upto w (channel_causes c main ++ unit_causes c s) (own_causes dev c s main store) a e in
      let passed = channel_passed (f.0.0, (f.0.1.0, (f.0.1.1.0, (f.0.1.1.1.0, _)))) in (
        record {
          some = some_counts c.command (length main) c.first c.later passed;
          room = λ n. all_inside c.command main (pieces c) n passed;
          listed = not-false _ f.0.1.1.1.1.1.0;
        },
        f.1,
      )

  -- neither the channel nor the unit itself refuses the command: its own table decides
  pub step_performed : first_of (channel_causes c main ++ unit_causes c s) ≡ 0 → step dev c s main store ≡ performed dev c s main store
  unfolding step performed verdict causes_of channel_causes unit_causes
  step_performed e =
      let v : verdict dev c s main store ≡ first_of (own_causes dev c s main store) =
      first_append (channel_causes c main ++ unit_causes c s) (own_causes dev c s main store) refl ∙ rw e (pick_true _ _ _ refl) in
      ap (λ (w : ℕ). decided c s main store w (accepted dev c (seen c s) main store)) v

  -- what holds of each command's own table, and of an empty one, holds of the one that the command has
  pub own_cases : (P : List Rule → Type 0)
      → (c.command ≡ DEFINE_EXTENT → P (define_extent_causes dev (block_count dev store) c s (fetched c main extent_length)))
      → (c.command ≡ LOCATE → P (locate_causes dev c s (fetched c main locate_length)))
      → (c.command ≡ READ_IPL → P (read_ipl_causes s))
      → (c.command ≡ READ → P (transfer_causes reads s))
      → (c.command ≡ WRITE → P (transfer_causes writes s))
      → P [] → P (own_causes dev c s main store)
  unfolding own_causes
  own_cases P d l i r w n =
      pick_ind P _ _ _ (λ b. d (eqb-true _ _ b)) (λ _.
      pick_ind P _ _ _ (λ b. l (eqb-true _ _ b)) (λ _.
      pick_ind P _ _ _ (λ b. i (eqb-true _ _ b)) (λ _.
      pick_ind P _ _ _ (λ b. r (eqb-true _ _ b)) (λ _.
      pick_ind P _ _ _ (λ b. w (eqb-true _ _ b)) (λ _. n)))))

  -- a verdict of the command's own table is one of the table's that the command has
  own_failed : (rs : List Rule) → own_causes dev c s main store ≡ rs → absent 0 rs ≡ true → first_of (own_causes dev c s main store) ≡ 0 → Failed rs
  own_failed rs e a f = failed_all 0 rs a (sym (ap first_of e) ∙ f)

-- a property of every refusal and of what each accepted command does
pub record Cases (dev : Device) (c : Command) (s : State) (main store : List ℕ) (P : Out → Type 0) : Type 0 where
  pub refusal : (w : ℕ) → (w ≡ 0 → ⊥) → verdict dev c s main store ≡ w → P (refused c s main store w)
  pub no_operation_lem : c.command ≡ NO_OPERATION → P (no_operation (seen c s) main store)
  pub define_extent_lem : Admitted c main → c.command ≡ DEFINE_EXTENT → Failed (define_extent_causes dev (block_count dev store) c s (fetched c main extent_length)) → P (define_extent c (seen c s) main store)
  pub locate : Admitted c main → c.command ≡ LOCATE → Failed (locate_causes dev c s (fetched c main locate_length)) → P (locate dev c (seen c s) main store)
  pub read : Admitted c main → c.command ≡ READ → Failed (transfer_causes reads s) → P (read dev c (seen c s) main store)
  pub write : Admitted c main → c.command ≡ WRITE → Failed (transfer_causes writes s) → P (write dev c (seen c s) main store)
  pub read_ipl_lem : Admitted c main → c.command ≡ READ_IPL → Failed (read_ipl_causes s) → P (read_ipl dev c (seen c s) main store)
  pub sense : Admitted c main → c.command ≡ SENSE → P (sense c (seen c s) main store)
  pub sense_type_lem : Admitted c main → c.command ≡ SENSE_TYPE → P (sense_type c (seen c s) main store)
  pub read_log_lem : Admitted c main → c.command ≡ READ_LOG → P (read_log c (seen c s) main store)

pub accepted_cases : (dev : Device) (c : Command) (s : State) (main store : List ℕ) (P : Out → Type 0) → Cases dev c s main store P → verdict dev c s main store ≡ 0 → P (accepted dev c (seen c s) main store)
unfolding channel_causes unit_causes define_extent_causes extent_causes locate_causes location_causes permission_causes read_ipl_causes transfer_causes
accepted_cases dev c s main store P k e =
    let p = past_channel dev c s main store 0 refl e in
    let a = p.0 in
    let t : State = seen c s in
    let Q : Type 0 = P (accepted dev c t main store) in
    let own = own_failed dev c s main store in
    one_of_lem Q _ _ _ a.listed (λ x. rw ((accepted_as dev c t main store).no_operation_lem x) (k.no_operation_lem x)) (λ l.
    one_of_lem Q _ _ _ l (λ x. rw ((accepted_as dev c t main store).define_extent_lem x) (k.define_extent_lem a x (own _ ((own_as dev c s main store).define_extent_lem x) refl p.1))) (λ l.
    one_of_lem Q _ _ _ l (λ x. rw ((accepted_as dev c t main store).locate x) (k.locate a x (own _ ((own_as dev c s main store).locate x) refl p.1))) (λ l.
    one_of_lem Q _ _ _ l (λ x. rw ((accepted_as dev c t main store).read x) (k.read a x (own _ ((own_as dev c s main store).read x) refl p.1))) (λ l.
    one_of_lem Q _ _ _ l (λ x. rw ((accepted_as dev c t main store).write x) (k.write a x (own _ ((own_as dev c s main store).write x) refl p.1))) (λ l.
    one_of_lem Q _ _ _ l (λ x. rw ((accepted_as dev c t main store).read_ipl_lem x) (k.read_ipl_lem a x (own _ ((own_as dev c s main store).read_ipl_lem x) refl p.1))) (λ l.
    one_of_lem Q _ _ _ l (λ x. rw ((accepted_as dev c t main store).sense x) (k.sense a x)) (λ l.
    one_of_lem Q _ _ _ l (λ x. rw ((accepted_as dev c t main store).sense_type_lem x) (k.sense_type_lem a x)) (λ l.
    one_of_lem Q _ _ _ l (λ x. rw ((accepted_as dev c t main store).read_log_lem x) (k.read_log_lem a x)) (λ l. absurd (none_of _ l))))))))))

pub step_cases : (dev : Device) (c : Command) (s : State) (main store : List ℕ) (P : Out → Type 0) → Cases dev c s main store P → P (step dev c s main store)
unfolding step decided
step_cases dev c s main store P k =
    pick_ind P _ _ _ (λ b. accepted_cases dev c s main store P k (eqb-true _ _ b)) (λ b. k.refusal _ (eqb-false _ _ b) refl)

module _ (dev : Device) (c : Command) (s : State) (main store : List ℕ) where
  -- an accepted command has cause 0
  accepted_cause : verdict dev c s main store ≡ 0 → Cases dev c s main store (λ o. o.done.cause ≡ 0)
  unfolding no_operation define_extent define_done locate locate_done read read_done write write_done read_ipl ipl_done sense sense_type read_log sent
  accepted_cause e = record {
    refusal = λ w n v. absurd (n (sym v ∙ e));
    no_operation_lem = λ _. refl;
    define_extent_lem = λ _ _ _. refl;
    locate = λ _ _ _. refl;
    read = λ _ _ _. refl;
    write = λ _ _ _. refl;
    read_ipl_lem = λ _ _ _. refl;
    sense = λ _ _. refl;
    sense_type_lem = λ _ _. refl;
    read_log_lem = λ _ _. refl;
  }

  pub step_cause : (step dev c s main store).done.cause ≡ verdict dev c s main store
  unfolding step decided refused
  step_cause =
      pick_ind (λ (o : Out). o.done.cause ≡ verdict dev c s main store) _ _ _
      (λ b.
      let e = eqb-true _ _ b in
      accepted_cases dev c s main store (λ o. o.done.cause ≡ 0) (accepted_cause e) e ∙ sym e)
      (λ _. refl)
