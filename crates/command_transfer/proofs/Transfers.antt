-- What a sound state says of a transfer, which cause refuses one, and that a transfer that was done is the command.
-- No contract cites this file.
--     placed                               the located blocks are the device's, and not too many
--     Transfer, reading, writing           a sound READ or WRITE
--     transfer_refused, passed             by the cause that the code found: refused, or let through
--     Passed, move_asks, done_asks         what that says of the blocks to move, and of the ending
--     read_ends, write_ends, ipl_ends      the bytes that were moved, and the ending, are the command
use Prim.Native.Nat.{ℕ, ◌+◌, ◌*◌, ◌≤◌, ◌<◌, min}
use mathlib.Core.Path.{◌≡◌, refl, sym, ap, ◌∙◌}
use mathlib.Core.Bool.{Bool, true, not, and-false}
use mathlib.Core.List.{List}
use lib.ListN.{take}
use native.Mathlib.Nat.{mul-le-mul_left, mul-le-mul_right}
use native.Mathlib.Omega.{arith}
use borrow.Author.Tests.{not-false}
use Rattle.numbers.specs.Choice.{◌=?◌, pick, one_of}
use Rattle.numbers.proofs.Choice.{pick_both}
use Rattle.model.specs.declared.decoded.Decoded.{Decoded}
use Rattle.model.specs.declared.device.Device.{Device}
use Rattle.model.specs.declared.extent.Located.{Located}
use Rattle.model.specs.declared.record.Counts.{Counts}
use Rattle.model.specs.declared.record.Record.{Record}
use Rattle.model.specs.declared.record.UnitRecord.{UnitRecord}
use Rattle.model.specs.declared.state.Before.TheVariants.{Other, ReadIpl}
use Rattle.model.specs.State.{State}
use Rattle.model.specs.Names.{write_check, READ, WRITE, READ_IPL}
use Rattle.model.specs.Rules.{first_of}
use Rattle.model.specs.Lent.{block_count, blocks_from, blocks_into}
use Rattle.model.specs.Pieces.{pieces, bytes_in, fetched, scattered, delivered}
use Rattle.model.specs.Decoded.{command_of}
use Rattle.model.specs.Parameters.{address, reads, writes}
use Rattle.model.specs.Causes.{bytes_read, a_locate, transfer_rules, transfer_causes, read_ipl_causes}
use Rattle.model.specs.Log.{written_counted}
use Rattle.model.specs.Safe.{Usable}
use Rattle.model.specs.Commands.{Out, ended, decided, after, cleared, begun, read_done, read, write_done, write, whole_device, ipl_done, read_ipl, performed}
use Rattle.model.proofs.Verdicts.{first_later, first_none, failed_all}
use Rattle.model.proofs.Read.{table_reads}
use Rattle.model.proofs.Safety.{on_device}
use Rattle.model.proofs.Blocks.{mounted_primaries}
use Rattle.model.proofs.Fields.{begun_within}
use Rattle.model.proofs.Steps.{performed_as}
use Rattle.buffered_log.specs.Counts.{counted, with_read, with_movement}
use Rattle.buffered_log.proofs.Counting.{read_counted_lem, written_counted_lem, movement_counted_lem}
use Rattle.blocks.specs.Places.{Movable}
use Rattle.unit_state.specs.declared.Running.{Running}
use Rattle.unit_state.specs.Standing.{holding, went_on, with_extent, state_of, Sound, Handed}
use Rattle.unit_state.proofs.Units.{empty, went_on_lem, with_extent_lem, same_counts}
use Rattle.endings.specs.declared.Ended.{Ended}
use Rattle.endings.specs.Ending.{refused_end, Performs}
use Rattle.std.specs.Prelude.{Err}
use Rattle.model.specs.declared.cause.Cause.{Cause}
use Rattle.model.specs.Told.{cause_number}
use Rattle.model.proofs.Told.{refused_told}
use Rattle.endings.proofs.Ends.{refused_by, accepted_by}
use Rattle.command_transfer.specs.declared.Move.{Move}
use Rattle.command_transfer.specs.Transferred.{Placed, move_of, read_end, written_by, write_end, ipl_end}

-- the blocks of the LOCATE before are the device's
located_on : (dev : Device) (s : Running) (store map : List ℕ) → Sound dev s store map → a_locate s.before ≡ true → address s.extent s.located.displacement + s.located.blocks ≤ block_count dev store
unfolding state_of
located_on dev s store map h b = on_device (state_of empty s) (block_count dev store) (h.safe empty) b

pub placed : (dev : Device) (s : Running) (store map : List ℕ) → Sound dev s store map → a_locate s.before ≡ true → Placed dev s.extent s.located
unfolding state_of
placed dev s store map h b =
    let safe = h.safe empty in
    let n : ℕ = s.located.blocks in
    let few : address s.extent s.located.displacement + n ≤ 131072 = omega (arith, located_on dev s store map h b, mounted_primaries dev store map h.mounted) in
    let less : n ≤ 131072 = omega (arith, few) in
    let p = mul-le-mul_right dev.block less in
    let q = mul-le-mul_left 131072 h.mounted.device.small_size in
    record { from_first = (safe.located b).1.from_first; few = few; product = omega (arith, p, q) }

-- a sound READ or WRITE: its table is that of a transfer, and what it does where that gives no cause
pub record Transfer (follows : ℕ → Bool) (dev : Device) (chain : List ℕ) (c : Decoded) (s : Running) (main store map : List ℕ) : Type 0 where
  pub sound : Sound dev s store map
  pub handed : Handed chain c main
  pub does : State → Out
  pub is : (t : State) → performed dev (command_of chain c) t main store ≡ decided (command_of chain c) t main store (first_of (transfer_causes follows t)) (does t)

module _ {dev : Device} {chain : List ℕ} {c : Decoded} {s : Running} {main store map : List ℕ} where
  pub reading : Sound dev s store map × Handed chain c main × (c.command ≡ READ) → Transfer reads dev chain c s main store map
  reading h = record { sound = h.0; handed = h.1; does = λ t. read dev (command_of chain c) (cleared t) main store; is = λ t. (performed_as dev (command_of chain c) t main store).read h.2 }

  pub writing : Sound dev s store map × Handed chain c main × (c.command ≡ WRITE) → Transfer writes dev chain c s main store map
  writing h = record { sound = h.0; handed = h.1; does = λ t. write dev (command_of chain c) (cleared t) main store; is = λ t. (performed_as dev (command_of chain c) t main store).write h.2 }

-- one that both lines of its table let through
pub record Passed (follows : ℕ → Bool) (dev : Device) (chain : List ℕ) (c : Decoded) (s : Running) (main store map : List ℕ) : Type 0 where
  pub transfer : Transfer follows dev chain c s main store map
  pub located : a_locate s.before ≡ true
  pub allowed : follows s.located.operation ≡ true

-- `f` is what the code asked, whether the command may follow the operation; w is the cause that it then found
module _ {follows : ℕ → Bool} {dev : Device} {chain : List ℕ} {c : Decoded} {s : Running} {main store map : List ℕ} (t : Transfer follows dev chain c s main store map) {f : Bool} (located : f ≡ follows s.located.operation)
    {w : ℕ} (found : w ≡ first_of (transfer_rules s.before f)) where
  given : (u : UnitRecord) → first_of (transfer_causes follows (state_of u s)) ≡ w
  unfolding transfer_causes state_of
  given u = rw (← located) (sym found)

  pub transfer_refused : {u : UnitRecord} {r : Ended} (cause : Cause) → w ≡ cause_number cause → r ≡ refused_end s (Err cause) → Performs dev chain c s r u main store u main store
  unfolding transfer_causes bytes_read one_of pick
  transfer_refused {u} {r} cause n e =
      let verdict : first_of (transfer_causes follows (state_of u s)) ≡ cause_number cause = given u ∙ n in
      refused_by u chain c t.handed.told s main store _ _ _ cause r (t.is (state_of u s)) e verdict (rw verdict at (table_reads 0 (transfer_causes follows (state_of u s)) refl (rw verdict (refused_told cause))))

  pub passed : w ≡ 0 → Passed follows dev chain c s main store map
  unfolding transfer_causes state_of
  passed z =
      let no = failed_all 0 (transfer_causes follows (state_of empty s)) refl (given empty ∙ z) in
      record { transfer = t; located = not-false _ no.0; allowed = not-false _ no.1.0 }

-- no cause refuses it, and the code may move the blocks, and end

no_cause : {follows : ℕ → Bool} {dev : Device} {chain : List ℕ} {c : Decoded} {s : Running} {main store map : List ℕ} (u : UnitRecord) → Passed follows dev chain c s main store map → first_of (transfer_causes follows (state_of u s)) ≡ 0
unfolding transfer_causes state_of
no_cause u p = first_later _ _ (ap not p.located) ∙ first_later _ _ (ap not p.allowed) ∙ first_none

module _ {follows : ℕ → Bool} {dev : Device} {chain : List ℕ} {c : Decoded} {s : Running} {main store map : List ℕ} (p : Passed follows dev chain c s main store map) {m : Move} (e : m ≡ move_of dev c s) where
  pub move_asks : Movable dev store map m.block s.located.blocks chain c.area main m.n
  move_asks =
      let h = p.transfer.handed in
      record {
        mounted = p.transfer.sound.mounted;
        stored = rw e (located_on dev s store map p.transfer.sound p.located);
        bytes = rw e (omega arith);
        area = record { ccws = h.told.ccws; inside = h.inside; left = rw e (omega (arith, h.told.count)) };
      }

  -- no more blocks are begun than were located, and two bytes count those
  pub done_asks : s.located.blocks < 65536 → Usable dev × (m.n ≤ 2097120) × (begun dev m.n < 65536)
  done_asks few =
      let usable = p.transfer.sound.mounted.device in
      let n : ℕ = min c.count (s.located.blocks * dev.block) in
      let within : begun dev n ≤ s.located.blocks = begun_within dev n s.located.blocks usable.some_size (omega arith) in
      (usable, rw e (omega (arith, p.transfer.handed.told.few)), rw e (omega (arith, few, within)))

-- the endings, as the definition has them

module _ (u : UnitRecord) (dev : Device) (s : Running) where
  read_state : (n can : ℕ) → ended (state_of u (went_on s (with_read (begun dev n) s.counts) Other)) n can (begun dev n) ≡ read_done dev (cleared (state_of u s)) n can
  unfolding read_done
  read_state n can = rw (went_on_lem u s (with_read (begun dev n) s.counts) Other, read_counted_lem (cleared (state_of u s)).unit s.counts (begun dev n), same_counts u s) refl

  located_same : (cleared (state_of u s)).located ≡ s.located
  unfolding cleared after state_of
  located_same = refl

  written_unit : (l : Located) → counted (cleared (state_of u s)).unit (written_by l.operation l.blocks s.counts)
      ≡ pick (l.operation =? write_check) (written_counted l.blocks (cleared (state_of u s)).unit) (cleared (state_of u s)).unit
  unfolding written_by
  written_unit l =
      pick_both (λ (k : Counts) (v : Record). counted (cleared (state_of u s)).unit k ≡ v) (l.operation =? write_check) _ _ _ _
      (λ _. written_counted_lem _ _ _ ∙ ap (written_counted l.blocks) (same_counts u s)) (λ _. same_counts u s)

  write_state : (n can : ℕ) → ended (state_of u (went_on s (written_by s.located.operation s.located.blocks s.counts) Other)) n can (begun dev n) ≡ write_done dev (cleared (state_of u s)) n can
  unfolding write_done
  write_state n can =
      rw (went_on_lem u s (written_by s.located.operation s.located.blocks s.counts) Other, written_unit s.located, located_same) refl

  ipl_state : (n blocks : ℕ) → ended (state_of u (with_extent s (with_movement (with_read 1 s.counts)) (whole_device blocks) ReadIpl)) n dev.block 1 ≡ ipl_done dev (cleared (state_of u s)) n blocks
  unfolding ipl_done
  ipl_state n blocks =
      rw (with_extent_lem u s (with_movement (with_read 1 s.counts)) (whole_device blocks) ReadIpl, movement_counted_lem (cleared (state_of u s)).unit (with_read 1 s.counts), read_counted_lem (cleared (state_of u s)).unit s.counts 1, same_counts u s) refl

-- a transfer is what its code moved, and its ending

module _ {u : Record} {dev : Device} {chain : List ℕ} {c : Decoded} {s : Running} {main store map : List ℕ} {r : Ended} {m : Move} where
  pub read_ends : Passed reads dev chain c s main store map → {main' : List ℕ} → c.command ≡ READ → r ≡ read_end dev c s m → m ≡ move_of dev c s
      → main' ≡ scattered (pieces (command_of chain c)) main (take m.n (blocks_from dev map store m.block s.located.blocks)) → Performs dev chain c s r (holding u map) main store (holding u map) main' store
  unfolding read cleared after state_of delivered
  read_ends p {main'} k e f d =
      let told = p.transfer.handed.told in
      let found : UnitRecord = holding u map in
      accepted_by found chain c told s main store _ _ _ _ _ _ _ r main' store ((performed_as dev (command_of chain c) (state_of found s) main store).read k) (no_cause found p) (rw f at e) (rw k (sym (and-false s.kept)))
      (rw (read_state found dev s (move_of dev c s).n (move_of dev c s).can, d, f, told.count) refl)

  pub write_ends : Passed writes dev chain c s main store map → {store' : List ℕ} → c.command ≡ WRITE → r ≡ write_end dev c s m → m ≡ move_of dev c s
      → store' ≡ blocks_into dev map store m.block s.located.blocks (take m.n (bytes_in (pieces (command_of chain c)) main)) → Performs dev chain c s r (holding u map) main store (holding u map) main store'
  unfolding write cleared after state_of fetched
  write_ends p {store'} k e f d =
      let told = p.transfer.handed.told in
      let found : UnitRecord = holding u map in
      accepted_by found chain c told s main store _ _ _ _ _ _ _ r main store' ((performed_as dev (command_of chain c) (state_of found s) main store).write k) (no_cause found p) (rw f at e) (rw k (sym (and-false s.kept)))
      (rw (write_state found dev s (move_of dev c s).n (move_of dev c s).can, d, f, told.count) refl)

module _ (u : Record) (dev : Device) (chain : List ℕ) (c : Decoded) (s : Running) (main store map : List ℕ) (r : Ended) (h : Handed chain c main) where
  pub ipl_ends : (n blocks : ℕ) (main' : List ℕ) → c.command ≡ READ_IPL → first_of (read_ipl_causes (state_of (holding u map) s)) ≡ 0 → r ≡ ipl_end dev c s n blocks → n ≡ min c.count dev.block
      → blocks ≡ block_count dev store → main' ≡ scattered (pieces (command_of chain c)) main (take n (blocks_from dev map store 0 1)) → Performs dev chain c s r (holding u map) main store (holding u map) main' store
  unfolding read_ipl cleared after state_of delivered
  ipl_ends n blocks main' k v e f b d =
      let found : UnitRecord = holding u map in
      accepted_by found chain c h.told s main store _ _ _ (with_extent s (with_movement (with_read 1 s.counts)) (whole_device (block_count dev store)) ReadIpl) (min c.count dev.block) dev.block 1 r main' store
      ((performed_as dev (command_of chain c) (state_of found s) main store).read_ipl_lem k) v (rw (f, b) at e) (rw k (sym (and-false s.kept)))
      (rw (ipl_state found dev s (min c.count dev.block) (block_count dev store), d, f, h.told.count) refl)
