-- Demand 2: every cause is given exactly when its rule says.
--     command_once, call_once, host_once  no table has a cause twice: computed, for each command's whole table
--     step_exactly     a command: for each line of its whole table, the channel's, the unit's and its own
--     call_exactly     the call: causes 1 to 5 and 8
--     host_exactly     the call from C: causes 1 to 6 and 8, as its one number shows them
--     host_most, host_never_4
--                      it is one of those, and not 4 where the answers are as long as the chain
--     class_exactly    a class: cause 7
-- Assumes nothing.
use Prim.Native.Nat.{ℕ, ◌/◌, ◌≤◌, ◌<◌}
use mathlib.Core.Path.{◌≡◌, refl, sym, ◌∙◌}
use mathlib.Core.Bool.{Bool, true, false}
use mathlib.Core.List.{List, [], ◌∷◌, ◌++◌}
use lib.ListN.{length}
use native.Mathlib.Omega.{arith}
use borrow.Author.Tests.{eqb-true, ne_eqb, ltb-true, ltb-false}
use Rattle.model.specs.declared.record.Record.{Record}
use Rattle.model.specs.declared.device.Device.{Device}
use Rattle.model.specs.State.{State}
use Rattle.model.specs.Rules.{Rule, ◌when◌, first_of}
use Rattle.model.specs.Lent.{record_of, map_of}
use Rattle.model.specs.Pieces.{Command}
use Rattle.model.specs.Causes.{lent_causes, map_causes, call_causes, host_causes, channel_causes, unit_causes, extent_causes, define_extent_causes, permission_causes, location_causes, locate_causes, read_ipl_causes, transfer_causes, causes_of, verdict}
use Rattle.model.specs.Commands.{step}
use Rattle.model.specs.Chain.{Called, call_of}
use Rattle.model.specs.Host.{Hosted, result_of, host_call_of}
use Rattle.model.specs.Class.{ClassRun, chains_in, bad_class, run_class_of}
use Rattle.model.specs.Exactly.{once, GivenExactly}
use Rattle.numbers.specs.Choice.{◌<?◌, ◌=?◌}
use Rattle.numbers.proofs.Choice.{pick_ind, pick_both}
use Rattle.model.proofs.Verdicts.{exactly}
use Rattle.model.proofs.Steps.{own_cases, step_cause}
use Rattle.model.proofs.Endings.{call_reached, callable}
use Rattle.model.proofs.Hosts.{host_passed, result_reads}

-- a command

module _ (dev : Device) (c : Command) (s : State) (main store : List ℕ) where
  command_once : once (causes_of dev c s main store) ≡ true
  unfolding causes_of channel_causes unit_causes define_extent_causes extent_causes locate_causes location_causes permission_causes read_ipl_causes transfer_causes
  command_once =
      own_cases dev c s main store (λ (rs : List Rule). once (channel_causes c main ++ unit_causes c s ++ rs) ≡ true) (λ _. refl) (λ _. refl) (λ _. refl) (λ _. refl) (λ _. refl) refl

  pub step_exactly : GivenExactly (causes_of dev c s main store) (step dev c s main store).done.cause
  unfolding verdict
  step_exactly = rw (step_cause dev c s main store) (exactly (causes_of dev c s main store) command_once)

-- the call

module _ (dev : Device) (chain main store answers : List ℕ) where
  call_once : (map : List ℕ) → once (call_causes dev chain main store map answers) ≡ true
  unfolding call_causes lent_causes map_causes
  call_once map = refl

  pub call_exactly : (u : Record) (map : List ℕ) → GivenExactly (call_causes dev chain main store map answers) (call_of dev chain main store u map answers).cause
  unfolding call_of
  call_exactly u map = exactly (call_causes dev chain main store map answers) (call_once map)

  -- from C

  host_once : (unit : List ℕ) → once (host_causes dev chain main store unit answers) ≡ true
  unfolding host_causes lent_causes map_causes
  host_once unit = refl

  -- the cause is read from the one number
  pub host_exactly : (unit : List ℕ) → GivenExactly (host_causes dev chain main store unit answers) ((host_call_of dev chain main store unit answers).result / 256)
  unfolding host_call_of call_of
  host_exactly unit = rw cause (exactly (host_causes dev chain main store unit answers) (host_once unit))
    where
      cause : (host_call_of dev chain main store unit answers).result / 256 ≡ first_of (host_causes dev chain main store unit answers)
      cause =
          let w : ℕ = first_of (host_causes dev chain main store unit answers) in
          let r : Called = call_of dev chain main store (record_of unit) (map_of unit) answers in
          pick_ind (λ (h : Hosted). h.result / 256 ≡ w) _ _ _
          (λ b.
          let p = host_passed dev chain main store unit answers (eqb-true _ _ b) in
          let few : r.reached < 256 = omega (arith, (callable dev chain main store (map_of unit) answers p.0).few, (call_reached dev chain main store (record_of unit) (map_of unit) answers).1) in
          (result_reads r.cause r.reached few).0 ∙ p.0 ∙ sym (eqb-true _ _ b))
          (λ b. (result_reads w 0 (omega arith)).0)

module _ (dev : Device) (chain main store unit answers : List ℕ) where
  -- it is one of the seven, and at most 8; and where there are answers for the chain it is not 4

  pub host_most : (host_call_of dev chain main store unit answers).result / 256 ≤ 8
  unfolding host_causes lent_causes map_causes
  host_most = go (8 <? w) refl
    where
      w : ℕ
      w = (host_call_of dev chain main store unit answers).result / 256

      go : (more : Bool) → (8 <? w) ≡ more → w ≤ 8
      go false t = ltb-false 8 w t
      go true t =
          let h : 8 < w = ltb-true 8 w t in
          let other : (n : ℕ) → n ≤ 8 → (n =? w) ≡ false = λ n l. ne_eqb n w (λ e. omega (arith, h, l, e)) in
          let none : w ≡ 0 = (host_exactly dev chain main store answers unit).listed (rw (other 1 (omega arith), other 2 (omega arith), other 3 (omega arith), other 4 (omega arith), other 5 (omega arith), other 6 (omega arith), other 8 (omega arith))) in
          omega (arith, none)

  pub host_never_4 : length chain ≤ length answers → (host_call_of dev chain main store unit answers).result / 256 ≡ 4 → ⊥
  unfolding host_causes lent_causes map_causes
  host_never_4 h e =
      let short = (((host_exactly dev chain main store answers unit).line (_ ∷ _ ∷ _ ∷ []) (4 when (length answers <? length chain)) _ refl).0 e).1 in
      omega (arith, h, ltb-true (length answers) (length chain) short)

-- a class

pub class_exactly : (dev : Device) (bytes main store unit results : List ℕ)
    → GivenExactly (7 when bad_class (chains_in bytes) (length results) ∷ []) ((run_class_of dev bytes main store unit results).result / 256)
unfolding run_class_of result_of first_of
class_exactly dev bytes main store unit results = rw cause (exactly (7 when bad ∷ []) refl)
  where
    bad : Bool
    bad = bad_class (chains_in bytes) (length results)

    cause : (run_class_of dev bytes main store unit results).result / 256 ≡ first_of (7 when bad ∷ [])
    cause = pick_both (λ (r : ClassRun) (w : ℕ). r.result / 256 ≡ w) bad _ _ _ _ (λ _. refl) (λ _. refl)
