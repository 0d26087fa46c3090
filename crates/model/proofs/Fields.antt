-- Bytes stay bytes, and counts fit their fields.
--     Sized         so many bytes
--     IsRecord      a unit record: each field has its bytes
--     sense_row     each row of the table of sense is bytes
--     step_fields   one command: record, main storage and store stay bytes; the numbers of its answer fit theirs
-- Assumes nothing.
use Prim.Native.Nat.{ℕ, zero, suc, ◌+◌, ◌-◌, ◌*◌, ◌/◌, ◌≤◌, ◌<◌, min}
use mathlib.Core.Path.{◌≡◌, refl, ◌∙◌}
use mathlib.Core.Bool.{Bool, true, ◌&&◌}
use mathlib.Core.List.{List, [], ◌∷◌, ◌++◌}
use lib.ListN.{length}
use native.Mathlib.Nat.{div-lt_iff_lt-mul}
use native.Mathlib.Omega.{arith}
use borrow.Author.Tests.{eqb-true, ltb-true, ltb-false}
use Rattle.numbers.specs.Bytes.{AreBytes}
use Rattle.numbers.proofs.Bytes.{bytes_nil, bytes_cons, bytes_append, bytes_take, bytes_drop, bytes_tested}
use Rattle.numbers.proofs.Big.{bytes2_are, bytes3_are, be2_fits}
use Rattle.slices.specs.Parts.{zeros, put, pad}
use Rattle.slices.proofs.Laws.{length_zeros, length_put_is, bytes_zeros, bytes_part, bytes_put, bytes_pad}
use Rattle.model.specs.declared.record.Record.{Record}
use Rattle.model.specs.declared.device.Device.{Device}
use Rattle.model.specs.State.{State}
use Rattle.numbers.specs.Choice.{◌<?◌}
use Rattle.model.specs.Alternates.{map_entries, map_size}
use Rattle.model.specs.Rules.{Rule, first_of}
use Rattle.model.specs.Lent.{block_at, block_start, blocks_from, blocks_into}
use Rattle.model.specs.Pieces.{Command, pieces, total, fetched, delivered}
use Rattle.model.specs.Parameters.{locate_length, located_in}
use Rattle.model.specs.Causes.{channel_causes, unit_causes, extent_causes, define_extent_causes, permission_causes, location_causes, locate_causes, read_ipl_causes, transfer_causes, own_causes, causes_of, verdict, kind_of}
use Rattle.model.specs.Sense.{CauseRow, sense_table, row_in, shown, sense_of}
use Rattle.model.specs.Log.{with_sense, with_counts, added3, added2, read_counted, written_counted, movement_counted, log_of, log_reset}
use Rattle.model.specs.Commands.{Out, sense_given, no_operation, define_extent, locate, sent, sense, sense_type, read_log, begun, read, write, read_ipl, refused, cleared, seen, after, extent_set, locate_set, map_after, step, define_done, ipl_done, locate_done, read_done, write_done}
use Rattle.model.specs.Exactly.{Failed, absent}
use Rattle.numbers.proofs.Choice.{pick_ind}
use Rattle.numbers.proofs.Joined.{both_true}
use Rattle.model.proofs.Pieces.{length_fetched, bytes_gathered, bytes_scattered}
use Rattle.model.proofs.Verdicts.{peel, never_given, every, every_first, every_all}
use Rattle.model.proofs.Safety.{define_ok, locate_ok, format_takes}
use Rattle.model.proofs.Alternates.{length_formatted, bytes_formatted}
use Rattle.model.proofs.Read.{verdict_read}
use Rattle.model.proofs.Leaving.{leaves_ind}
use Rattle.model.proofs.Steps.{past_channel, own_cases, Cases, step_cases}

-- the unit record

pub record Sized (n : ℕ) (l : List ℕ) : Type 0 where
  pub long : length l ≡ n
  pub bytes : AreBytes l

pub sized_zeros : (n : ℕ) → Sized n (zeros n)
sized_zeros n = record { long = length_zeros n; bytes = bytes_zeros n }

pub record IsRecord (u : Record) : Type 0 where
  pub sense : Sized 24 u.sense
  pub read : Sized 3 u.blocks_read
  pub written : Sized 3 u.blocks_written
  pub movements : Sized 2 u.movements
  pub ready_byte : u.ready < 256
  pub read_only_byte : u.read_only < 256

sense_record : (u : Record) (l : List ℕ) → Sized 24 l → IsRecord u → IsRecord (with_sense u l)
unfolding with_sense
sense_record u l k r = record { sense = k; read = r.read; written = r.written; movements = r.movements; ready_byte = r.ready_byte; read_only_byte = r.read_only_byte }

counts_record : (u : Record) (read written movements : List ℕ) → Sized 3 read → Sized 3 written → Sized 2 movements → IsRecord u → IsRecord (with_counts u read written movements)
unfolding with_counts
counts_record u _ _ _ a b c r = record { sense = r.sense; read = a; written = b; movements = c; ready_byte = r.ready_byte; read_only_byte = r.read_only_byte }

read_counted_record : (n : ℕ) (u : Record) → IsRecord u → IsRecord (read_counted n u)
unfolding read_counted added3
read_counted_record n u r = counts_record u _ _ _ (record { long = refl; bytes = bytes3_are _ }) r.written r.movements r

written_counted_record : (n : ℕ) (u : Record) → IsRecord u → IsRecord (written_counted n u)
unfolding written_counted added3
written_counted_record n u r = counts_record u _ _ _ r.read (record { long = refl; bytes = bytes3_are _ }) r.movements r

movement_counted_record : (u : Record) → IsRecord u → IsRecord (movement_counted u)
unfolding movement_counted added2
movement_counted_record u r = counts_record u _ _ _ r.read r.written (record { long = refl; bytes = bytes2_are _ }) r

log_reset_record : (u : Record) → IsRecord u → IsRecord (log_reset u)
unfolding log_reset
log_reset_record u r = counts_record u _ _ _ (sized_zeros 3) (sized_zeros 3) (sized_zeros 2) r

-- the sense of a refusal

small_rows : List CauseRow → Bool
small_rows [] = true
small_rows (r ∷ rs) = (r.byte0 <? 256 && r.byte1 <? 256 && r.byte7 <? 256) && small_rows rs

pub record IsRow (r : CauseRow) : Type 0 where
  pub byte0 : r.byte0 < 256
  pub byte1 : r.byte1 < 256
  pub byte7 : r.byte7 < 256

row_in_lem : (rs : List CauseRow) → small_rows rs ≡ true → (w : ℕ) → IsRow (row_in rs w)
unfolding row_in small_rows
row_in_lem [] e w = record { byte0 = omega arith; byte1 = omega arith; byte7 = omega arith }
row_in_lem (r ∷ rs) e w =
    let p = both_true _ _ e in
    let q = both_true _ _ p.0 in
    let t = both_true _ _ q.0 in
    pick_ind IsRow _ _ _
    (λ _. record { byte0 = ltb-true _ _ t.0; byte1 = ltb-true _ _ t.1; byte7 = ltb-true _ _ q.1 })
    (λ _. row_in_lem rs p.1 w)

pub sense_row : (w : ℕ) → IsRow (row_in sense_table w)
unfolding small_rows
sense_row w = row_in_lem sense_table refl w

sense_bytes_lem : (w : ℕ) (p : List ℕ) → AreBytes p → AreBytes (sense_of w p)
unfolding sense_of
sense_bytes_lem w p b =
    let r = sense_row w in
    bytes_put _ _ _ (bytes_put _ _ _ (bytes_put _ _ _ (bytes_zeros 24) (bytes_cons _ _ r.byte0 (bytes_cons _ _ r.byte1 bytes_nil)))
    (bytes_cons _ _ r.byte7 bytes_nil))
    b

sense_length : (w : ℕ) (p : List ℕ) → length p ≡ locate_length → length (sense_of w p) ≡ 24
unfolding sense_of
sense_length w p h = length_put_is 24 _ _ _ (length_put_is 24 _ _ _ (length_put_is 24 _ _ _ (length_zeros 24) (omega arith)) (omega arith)) (rw h (omega arith))

-- the parameters that a cause shows are eight bytes, if those of 39 are
shown_sized : (w : ℕ) (p : List ℕ) → (w ≡ 39 → length p ≡ locate_length) → AreBytes p → Sized locate_length (shown w p)
unfolding shown
shown_sized w p h b = pick_ind (Sized locate_length) _ _ _ (λ t. record { long = h (eqb-true _ _ t); bytes = b }) (λ _. sized_zeros locate_length)

located_long : (dev : Device) (c : Command) (s : State) (p : List ℕ) → first_of (locate_causes dev c s p) ≡ 39 → locate_length ≤ total c
unfolding locate_causes location_causes permission_causes first_of
located_long dev c s p e = ltb-false _ _ (peel _ _ _ 39 (λ z. omega arith) (peel _ _ _ 39 (λ z. omega arith) e).1).0

-- where the verdict is 39 the command is a LOCATE whose eight bytes were there
located_bytes : (dev : Device) (c : Command) (s : State) (main store : List ℕ) → verdict dev c s main store ≡ 39 → length (fetched c main locate_length) ≡ 8
unfolding channel_causes unit_causes define_extent_causes extent_causes read_ipl_causes transfer_causes fetched
located_bytes dev c s main store e =
    let p = past_channel dev c s main store 39 refl e in
    let P : List Rule → Type 0 = λ rs. first_of rs ≡ 39 → length (fetched c main locate_length) ≡ 8 in
    let other : (rs : List Rule) → absent 39 rs ≡ true → P rs = λ rs a g. absurd (never_given 39 rs a (λ z. omega arith) g) in
    own_cases dev c s main store P (λ _. other _ refl)
    (λ x g. length_fetched c main 8 (p.0.room (λ z. omega arith)) (located_long dev c s _ g))
    (λ _. other _ refl) (λ _. other _ refl) (λ _. other _ refl) (other [] refl) p.1

-- the causes are bytes too

below_256 : (w : ℕ) → w <? 256 ≡ true → w < 256
below_256 w e = ltb-true _ _ e

pub verdict_small : (dev : Device) (c : Command) (s : State) (main store : List ℕ) → verdict dev c s main store < 256
unfolding verdict causes_of channel_causes unit_causes define_extent_causes extent_causes locate_causes location_causes permission_causes read_ipl_causes transfer_causes
verdict_small dev c s main store =
    let all : (rs : List Rule) → every (λ (w : ℕ). w <? 256) rs ≡ true → first_of rs < 256 = λ rs e. every_all (λ (w : ℕ). w < 256) _ below_256 rs e (omega arith) in
    every_first (λ (w : ℕ). w < 256) _ below_256 (channel_causes c main ++ unit_causes c s) (own_causes dev c s main store) refl
    (own_cases dev c s main store (λ rs. first_of rs < 256) (λ _. all _ refl) (λ _. all _ refl) (λ _. all _ refl) (λ _. all _ refl) (λ _. all _ refl) (all [] refl))

-- blocks

blocks_from_bytes : (dev : Device) (map store : List ℕ) (block n : ℕ) → AreBytes store → AreBytes (blocks_from dev map store block n)
unfolding blocks_from block_at
blocks_from_bytes dev map store block zero b = bytes_nil
blocks_from_bytes dev map store block (suc n) b = bytes_append _ _ (bytes_part store _ dev.block b) (blocks_from_bytes dev map store (block + 1) n b)

blocks_into_bytes : (dev : Device) (map store : List ℕ) (block n : ℕ) (bytes : List ℕ) → AreBytes store → AreBytes bytes → AreBytes (blocks_into dev map store block n bytes)
unfolding blocks_into
blocks_into_bytes dev map store block zero bytes b d = b
blocks_into_bytes dev map store block (suc n) bytes b d =
    blocks_into_bytes dev map (put store (block_start dev map store block) (pad dev.block bytes)) (block + 1) n _ (bytes_put store _ _ b (bytes_pad dev.block bytes d)) (bytes_drop dev.block bytes d)

-- bytes that k blocks hold begin no more than k
pub begun_within : (dev : Device) (n k : ℕ) → 1 ≤ dev.block → n ≤ k * dev.block → begun dev n ≤ k
unfolding begun
begun_within dev n k h e =
    let l : (n + (dev.block - 1)) / dev.block < k + 1 = (div-lt_iff_lt-mul h).1 (omega (arith, e)) in
    omega (arith, l)

log_bytes : (u : Record) → IsRecord u → AreBytes (log_of u)
unfolding log_of
log_bytes u r =
    bytes_put _ _ _ (bytes_put _ _ _ (bytes_put _ _ _ (bytes_put _ _ _ (bytes_put _ _ _ (bytes_zeros 24)
    (bytes_tested _ refl)) (bytes_tested _ refl)) r.read.bytes) r.written.bytes) r.movements.bytes

-- one command

pub record Fields (c : Command) (o : Out) : Type 0 where
  pub unit_fields : IsRecord o.done.state.unit
  pub map_fields : Sized map_size o.done.state.map
  pub main_bytes : AreBytes o.main
  pub store_bytes : AreBytes o.store
  pub cause_byte : o.done.cause < 256
  pub blocks_fit : o.done.blocks < 65536
  pub located_fits : o.done.state.located.blocks < 65536

module _ (dev : Device) (c : Command) (s : State) (main store : List ℕ) (h : 1 ≤ dev.block) (few : dev.alternates ≤ map_entries) (r : IsRecord s.unit) (p : Sized map_size s.map) (m : AreBytes main) (d : AreBytes store) (l : s.located.blocks < 65536) where
  seen_record : IsRecord (seen c s).unit
  unfolding seen cleared after
  seen_record = pick_ind IsRecord _ _ _ (λ _. r) (λ _. sense_record s.unit (zeros 24) (sized_zeros 24) r)

  refused_fields : (w : ℕ) → verdict dev c s main store ≡ w → Fields c (refused c s main store w)
  unfolding refused after fetched
  refused_fields w e = record {
    unit_fields =
        let p = shown_sized w (fetched c main locate_length) (λ z. located_bytes dev c s main store (e ∙ z)) (bytes_take locate_length _ (bytes_gathered (pieces c) main m)) in
        leaves_ind (λ (t : State). IsRecord t.unit) (kind_of w) s (sense_given w c main) r r
        (sense_record s.unit _ (record { long = sense_length w _ p.long; bytes = sense_bytes_lem w _ p.bytes }) r);
    map_fields = leaves_ind (λ (t : State). Sized map_size t.map) (kind_of w) s (sense_given w c main) p p p;
    located_fits = leaves_ind (λ (t : State). t.located.blocks < 65536) (kind_of w) s (sense_given w c main) l l l;
    main_bytes = m;
    store_bytes = d;
    cause_byte = rw (← e) (verdict_small dev c s main store);
    blocks_fit = omega arith;
  }

  -- a command that moves bytes into its data area, and no block
  sent_fields : (n : ℕ) (bytes : List ℕ) (u : Record) → AreBytes bytes → IsRecord u → Fields c (sent c (seen c s) main store n bytes u)
  unfolding sent seen after delivered
  sent_fields n bytes u b k = record {
    unit_fields = k;
    map_fields = p;
    main_bytes = bytes_scattered (pieces c) main _ m (bytes_take (min (total c) n) bytes b);
    store_bytes = d;
    cause_byte = omega arith;
    blocks_fit = omega arith;
    located_fits = l;
  }

  -- a LOCATE that no cause refuses leaves the map, or that of a format which had an alternate to take
  located_map : Failed (locate_causes dev c s (fetched c main locate_length)) → Sized map_size (map_after dev s.map s.extent (located_in (fetched c main locate_length)))
  unfolding map_after
  located_map f = pick_ind (Sized map_size) _ _ _
      (λ b. record {
        long = length_formatted s.map dev.alternates _ few p.long (format_takes dev c s (fetched c main locate_length) f b);
        bytes = bytes_formatted s.map dev.alternates _ p.bytes;
      })
      (λ _. p)

  fields_cases : Cases dev c s main store (Fields c)
  unfolding no_operation define_extent define_done locate locate_done sense sense_type read_log read read_done write write_done read_ipl ipl_done seen after extent_set locate_set fetched delivered located_in
  fields_cases =
      let k = seen_record in
      record {
        refusal = λ w _ e. refused_fields w e;
        no_operation_lem = λ _. record { unit_fields = k; map_fields = p; main_bytes = m; store_bytes = d; cause_byte = omega arith; blocks_fit = omega arith; located_fits = l };
        define_extent_lem = λ _ _ f. record { unit_fields = k; map_fields = p; main_bytes = m; store_bytes = d; cause_byte = omega arith; blocks_fit = omega arith; located_fits = l };
        locate = λ _ _ f. record { unit_fields = movement_counted_record _ k; map_fields = located_map f; main_bytes = m; store_bytes = d; cause_byte = omega arith; blocks_fit = omega arith; located_fits = be2_fits _ 2 (bytes_take locate_length _ (bytes_gathered (pieces c) main m)) };
        read = λ _ _ _. record {
          unit_fields = read_counted_record _ _ k;
          map_fields = p;
          main_bytes = bytes_scattered (pieces c) main _ m (bytes_take (min (total c) (s.located.blocks * dev.block)) _ (blocks_from_bytes dev s.map store _ _ d));
          store_bytes = d;
          cause_byte = omega arith;
          blocks_fit = omega (arith, l, begun_within dev (min (total c) (s.located.blocks * dev.block)) s.located.blocks h (omega arith));
          located_fits = l;
        };
        write = λ _ _ _. record {
          unit_fields = pick_ind IsRecord _ _ _ (λ _. written_counted_record _ _ k) (λ _. k);
          map_fields = p;
          main_bytes = m;
          store_bytes = blocks_into_bytes dev s.map store _ _ _ d (bytes_take (min (total c) (s.located.blocks * dev.block)) _ (bytes_gathered (pieces c) main m));
          cause_byte = omega arith;
          blocks_fit = omega (arith, l, begun_within dev (min (total c) (s.located.blocks * dev.block)) s.located.blocks h (omega arith));
          located_fits = l;
        };
        read_ipl_lem = λ a _ _. record {
          unit_fields = movement_counted_record _ (read_counted_record 1 _ k);
          map_fields = p;
          main_bytes = bytes_scattered (pieces c) main _ m (bytes_take (min (total c) dev.block) _ (blocks_from_bytes dev s.map store 0 1 d));
          store_bytes = d;
          cause_byte = omega arith;
          blocks_fit = omega arith;
          located_fits = l;
        };
        sense = λ _ _. sent_fields 24 _ _ k.sense.bytes (sense_record _ _ (sized_zeros 24) k);
        sense_type_lem = λ _ _. sent_fields 7 _ _ (bytes_tested _ refl) k;
        read_log_lem = λ _ _. sent_fields 24 _ _ (log_bytes _ k) (log_reset_record _ k);
      }

  pub step_fields : Fields c (step dev c s main store)
  step_fields = step_cases dev c s main store (Fields c) fields_cases

-- a command moves no more blocks than two bytes count
pub step_blocks : (dev : Device) (c : Command) (s : State) (main store : List ℕ) → 1 ≤ dev.block → s.located.blocks < 65536 → (step dev c s main store).done.blocks < 65536
unfolding no_operation define_extent define_done locate locate_done read read_done write write_done read_ipl ipl_done sense sense_type read_log sent refused seen after
step_blocks dev c s main store h l =
    let few = begun_within dev (min (total c) (s.located.blocks * dev.block)) s.located.blocks h (omega arith) in
    step_cases dev c s main store (λ o. o.done.blocks < 65536) (record {
      refusal = λ _ _ _. omega arith;
      no_operation_lem = λ _. omega arith;
      define_extent_lem = λ _ _ _. omega arith;
      locate = λ _ _ _. omega arith;
      read = λ _ _ _. omega (arith, few);
      write = λ _ _ _. omega (arith, few);
      read_ipl_lem = λ _ _ _. omega arith;
      sense = λ _ _. omega arith;
      sense_type_lem = λ _ _. omega arith;
      read_log_lem = λ _ _. omega arith;
    })

-- nor more bytes than its counts add up to
pub step_moved : (dev : Device) (c : Command) (s : State) (main store : List ℕ) → (step dev c s main store).done.moved ≤ total c
unfolding no_operation define_extent define_done locate locate_done read read_done write write_done read_ipl ipl_done sense sense_type read_log sent refused
step_moved dev c s main store =
    step_cases dev c s main store (λ o. o.done.moved ≤ total c) (record {
      refusal = λ _ _ e. rw (← e) (verdict_read dev c s main store);
      no_operation_lem = λ _. omega arith;
      define_extent_lem = λ _ _ f. (define_ok dev _ c s _ f).long;
      locate = λ _ _ f. (locate_ok dev c s _ f).long;
      read = λ _ _ _. omega arith;
      write = λ _ _ _. omega arith;
      read_ipl_lem = λ _ _ _. omega arith;
      sense = λ _ _. omega arith;
      sense_type_lem = λ _ _. omega arith;
      read_log_lem = λ _ _. omega arith;
    })
