-- A chain's state stays on the device: the extent that stands is on it, and so are the blocks of the LOCATE before.
--     DefineOk, LocateOk   what is known of the parameters where no cause of the table holds
--     location_ok, location_takes
--                          a LOCATE that its parameters do not refuse is in the extent; a format has an alternate to take
--     located_below        the blocks of a LOCATE in an extent of a device are below its count
--     class_a_usable       blocks of 512 bytes may be
--     step_safe            a command leaves a safe state
--     on_device            the blocks of the LOCATE before are blocks of the device
-- No contract cites this file.
use Prim.Native.Nat.{ℕ, ◌+◌, ◌≤◌, ◌<◌}
use mathlib.Core.Path.{◌≡◌, refl, sym, ◌∙◌}
use mathlib.Core.Bool.{Bool, true, false, false≢true}
use mathlib.Core.List.{List}
use native.Mathlib.Omega.{arith}
use borrow.Author.Tests.{eqb-false, ltb-true, ltb-false, not-false}
use Rattle.model.specs.declared.extent.Extent.{Extent}
use Rattle.model.specs.declared.extent.Located.{Located}
use Rattle.model.specs.declared.record.Record.{Record}
use Rattle.model.specs.declared.state.Before.{Before}
use Rattle.model.specs.declared.device.Device.{Device}
use Rattle.model.specs.State.{State}
use Rattle.numbers.specs.Choice.{◌<?◌, ◌=?◌}
use Rattle.model.specs.Names.{format}
use Rattle.model.specs.Alternates.{unused_in}
use Rattle.model.specs.Lent.{block_count}
use Rattle.model.specs.Pieces.{Command, total}
use Rattle.model.specs.Parameters.{extent_length, extent_in, locate_length, located_in, replication_in, processed, address, outside}
use Rattle.model.specs.Causes.{extent_causes, define_extent_causes, permission_causes, location_causes, locate_causes, transfer_causes, a_locate, kind_of}
use Rattle.model.specs.Commands.{after, extent_set, locate_set, no_operation, define_extent, locate, sent, sense, sense_type, read_log, read, write, whole_device, read_ipl, sense_given, refused, seen, step, define_done, ipl_done, locate_done, read_done, write_done}
use Rattle.model.specs.Safe.{Usable, OnDevice, InExtent, Safe}
use Rattle.model.specs.Chain.{start}
use Rattle.model.specs.Exactly.{Failed}
use Rattle.numbers.proofs.Choice.{pick_ind}
use Rattle.numbers.proofs.Joined.{both_false, either_false}
use Rattle.model.specs.Chain.{class_a}
use Rattle.model.proofs.Leaving.{leaves_ind}
use Rattle.model.proofs.Steps.{Cases, step_cases}

pub class_a_usable : (alternates : ℕ) → Usable (class_a alternates)
class_a_usable alternates = record { some_size = omega arith; small_size = omega arith }

-- parameters that no cause refuses

pub record DefineOk (c : Command) (e : Extent) (blocks : ℕ) : Type 0 where
  pub long : extent_length ≤ total c
  pub placed : OnDevice e blocks

pub define_ok : (dev : Device) (blocks : ℕ) (c : Command) (s : State) (p : List ℕ) → Failed (define_extent_causes dev blocks c s p) → DefineOk c (extent_in p) blocks
unfolding define_extent_causes extent_causes
define_ok dev blocks c s p f = record {
  long = ltb-false _ _ f.0;
  placed = record { order = ltb-false _ _ f.1.1.1.1.1.0; inside = ltb-true _ _ (not-false _ f.1.1.1.1.1.1.0) };
}

pub record LocateOk (c : Command) (s : State) (l : Located) : Type 0 where
  pub defined : s.defined ≡ true
  pub long : locate_length ≤ total c
  pub placed : InExtent s.extent l

-- a replicated read processes at least the blocks of one unit
processed_covers : (dev : Device) (s : State) (p : List ℕ) → Failed (location_causes dev s p) → (located_in p).blocks ≤ processed (located_in p) (replication_in p)
unfolding location_causes permission_causes processed
processed_covers dev s p f =
    pick_ind (λ (n : ℕ). (located_in p).blocks ≤ n) _ _ _
    (λ b. ltb-false _ _ (either_false _ _ (both_false _ _ f.1.1.1.0 b)).0)
    (λ b. omega arith)

pub location_ok : (dev : Device) (s : State) (p : List ℕ) → Failed (location_causes dev s p) → InExtent s.extent (located_in p)
unfolding location_causes permission_causes outside
location_ok dev s p f =
    let k = processed_covers dev s p f in
    let n = eqb-false (located_in p).blocks 0 (either_false _ _ f.1.1.0).0 in
    let o = either_false ((located_in p).displacement.0 <? s.extent.first.0) (s.extent.last.0 + 1 <? (located_in p).displacement.0 + processed (located_in p) (replication_in p)) f.1.1.1.1.0 in
    let h : (located_in p).displacement.0 + processed (located_in p) (replication_in p) ≤ s.extent.last.0 + 1 = ltb-false _ _ o.1 in
    record { some = omega (arith, n); from_first = ltb-false _ _ o.0; to_last = omega (arith, k, h) }

-- a format that no cause refuses has an alternate to take
pub location_takes : (dev : Device) (s : State) (p : List ℕ) → Failed (location_causes dev s p) → (located_in p).operation =? format ≡ true → unused_in s.map dev.alternates < dev.alternates
unfolding location_causes permission_causes
location_takes dev s p f b = ltb-true _ _ (not-false _ (both_false _ _ f.1.1.1.1.1.1.1.0 b))

pub locate_ok : (dev : Device) (c : Command) (s : State) (p : List ℕ) → Failed (locate_causes dev c s p) → LocateOk c s (located_in p)
unfolding locate_causes
locate_ok dev c s p f = record { defined = not-false _ f.0; long = ltb-false _ _ f.1.0; placed = location_ok dev s p f.1.1 }

pub format_takes : (dev : Device) (c : Command) (s : State) (p : List ℕ) → Failed (locate_causes dev c s p) → (located_in p).operation =? format ≡ true → unused_in s.map dev.alternates < dev.alternates
unfolding locate_causes
format_takes dev c s p f = location_takes dev s p f.1.1

-- the blocks of a LOCATE in an extent of a device are below its count
pub located_below : (e : Extent) (l : Located) (blocks : ℕ) → OnDevice e blocks → InExtent e l → address e l.displacement + l.blocks ≤ blocks
unfolding address
located_below e l blocks d i = omega (arith, i.from_first, i.to_last, d.order, d.inside)

pub after_locate : (follows : ℕ → Bool) (s : State) → Failed (transfer_causes follows s) → a_locate s.before ≡ true
unfolding transfer_causes
after_locate follows s f = not-false _ f.0

-- the state

pub on_device : (s : State) (blocks : ℕ) → Safe s blocks → a_locate s.before ≡ true → address s.extent s.located.displacement + s.located.blocks ≤ blocks
on_device s blocks h b =
    let l = h.located b in
    located_below s.extent s.located blocks (h.extent l.0) l.1

pub safe_start : (u : Record) (map : List ℕ) (blocks : ℕ) → Safe (start u map) blocks
unfolding start
safe_start u map blocks = record { extent = λ e. absurd (false≢true e); located = λ e. absurd (false≢true e) }

-- a state with the same extent, after a command that is no LOCATE
safe_after : (s : State) (u : Record) (b : Before) (blocks : ℕ) → a_locate b ≡ false → Safe s blocks → Safe (after s u b) blocks
unfolding after
safe_after s u b blocks e h = record { extent = h.extent; located = λ f. absurd (false≢true (sym e ∙ f)) }

pub safe_seen : (c : Command) (s : State) (blocks : ℕ) → Safe s blocks → Safe (seen c s) blocks
unfolding seen after
safe_seen c s blocks h = record { extent = h.extent; located = h.located }

module _ (dev : Device) (c : Command) (s : State) (main store : List ℕ) (some : 0 < block_count dev store) (h : Safe s (block_count dev store)) where
  safe_cases : Cases dev c s main store (λ o. Safe o.done.state (block_count dev store))
  unfolding no_operation define_extent define_done locate locate_done read read_done write write_done read_ipl ipl_done sense sense_type read_log sent refused seen after extent_set locate_set whole_device address
  safe_cases =
      let n : ℕ = block_count dev store in
      let t : State = seen c s in
      let k : Safe t n = safe_seen c s n h in
      record {
        refusal = λ w _ _. leaves_ind (λ (t : State). Safe t n) (kind_of w) s (sense_given w c main) h (safe_after s _ _ n refl h) (safe_after s _ _ n refl h);
        no_operation_lem = λ _. safe_after t _ _ n refl k;
        define_extent_lem = λ _ _ f.
            let d = define_ok dev n c s _ f in
            record { extent = λ _. d.placed; located = λ e. absurd (false≢true e) };
        locate = λ _ _ f.
            let l = locate_ok dev c s _ f in
            record { extent = k.extent; located = λ _. (l.defined, l.placed) };
        read = λ _ _ _. safe_after t _ _ n refl k;
        write = λ _ _ _. safe_after t _ _ n refl k;
        read_ipl_lem = λ _ _ _. record { extent = λ _. record { order = omega arith; inside = omega arith }; located = λ e. absurd (false≢true e) };
        sense = λ _ _. safe_after t _ _ n refl k;
        sense_type_lem = λ _ _. safe_after t _ _ n refl k;
        read_log_lem = λ _ _. safe_after t _ _ n refl k;
      }

  pub step_safe : Safe (step dev c s main store).done.state (block_count dev store)
  step_safe = step_cases dev c s main store (λ o. Safe o.done.state (block_count dev store)) safe_cases
