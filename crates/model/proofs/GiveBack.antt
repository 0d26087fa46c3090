-- An alternate given back (02, ask 6), whole calls of the tool: what becomes of the blocks that READ shows, and of the next format.
--     Returnable           what a call that is not refused is known to have
--     give_back_exactly    each of 2, 6, 8, 50 and 51 is given exactly when its rule says
--     give_back_refused    a call that is refused changes nothing
--     give_back_done       what a call that is not refused leaves
--     give_back_keeps      it keeps the lengths of store and record, and bytes bytes
--     give_back_map        the map that the record then has
--     give_back_shown      every block as READ shows it is the same before and after, refused or not
--     give_back_zeros      the freed alternate is zeros
--     give_back_next       and is what the next format takes, where no lower one is unused
--     give_back_right      the map passes cause 8
--     give_back_spares     no other alternate, and no block's own place but this one's, is written; no entry but one changes
-- Assumes nothing.
use Prim.Native.Nat.{ℕ, ◌+◌, ◌*◌, ◌/◌, ◌≤◌, ◌<◌}
use mathlib.Core.Path.{◌≡◌, refl, sym, ap, ◌∙◌}
use mathlib.Core.Logic.{dite}
use mathlib.Core.List.{List}
use lib.ListN.{length, take, length-append}
use lib.Seq.{take_at}
use native.Mathlib.Omega.{arith}
use native.Mathlib.Decide.{dec_le, ℕ_discrete}
use borrow.Author.Tests.{eqb-true, ne_eqb, ltb-true, not-false}
use Rattle.numbers.specs.Bytes.{AreBytes}
use Rattle.numbers.specs.Choice.{◌=?◌, pick}
use Rattle.numbers.proofs.Bytes.{bytes_append}
use Rattle.numbers.proofs.Choice.{pick_ind}
use Rattle.numbers.proofs.Lowest.{lowest_holds}
use Rattle.slices.specs.Parts.{part, zeros}
use Rattle.slices.proofs.Laws.{length_part}
use Rattle.model.specs.declared.device.Device.{Device}
use Rattle.model.specs.Names.{UNUSED, DEFECTIVE}
use Rattle.model.specs.Rules.{first_of}
use Rattle.model.specs.Alternates.{map_entries, map_size, entry_at, name_of, alternate_of, lies, unused_in, formatted, unmapped}
use Rattle.model.specs.Lent.{block_count, alternate_at, block_start, block_at, map_place, record_size, record_bytes, record_of, map_of}
use Rattle.model.specs.Causes.{map_causes, device_causes, give_back_causes}
use Rattle.model.specs.Host.{result_of}
use Rattle.model.specs.Exactly.{GivenExactly}
use Rattle.model.specs.GiveBack.{brought_home, GivenBack, give_back_of}
use Rattle.model.proofs.Returns.{length_unmapped, bytes_unmapped, entry_left, next_freed, return_right}
use Rattle.model.proofs.Formats.{Right, right_of, right_is, lies_formatted}
use Rattle.model.proofs.Blocks.{count_same}
use Rattle.model.proofs.BroughtHome.{home_length, home_freed, home_other, shown_home, home_bytes}
use Rattle.model.proofs.Verdicts.{failed_all, exactly}
use Rattle.model.proofs.Endings.{RightStore, right_store}
use Rattle.model.proofs.Records.{unit_bytes_lem, record_of_lem, map_of_lem, record_front, record_front_length, map_replaced}
use Rattle.model.proofs.Hosts.{result_reads}

-- the call

-- it keeps the lengths of store and record, and bytes bytes
pub record Keeps (store unit : List ℕ) (left : GivenBack) : Type 0 where
  pub store_length : length left.store ≡ length store
  pub unit_length : length left.unit ≡ length unit
  pub store_bytes : AreBytes left.store
  pub unit_bytes_lem : AreBytes left.unit

-- what a call is known to have where its cause is 0
pub record Returnable (dev : Device) (store unit : List ℕ) (block : ℕ) : Type 0 where
  pub stored : RightStore dev store
  pub long : length unit ≡ record_size
  pub map_long : length (map_of unit) ≡ map_size
  pub right : Right (map_of unit) dev.alternates (block_count dev store)
  pub on : block < block_count dev store
  pub small : block_count dev store ≤ 131072
  pub mapped : alternate_of (map_of unit) dev.alternates block < dev.alternates

-- what a call that is not refused leaves alone
pub record Spares (dev : Device) (store unit : List ℕ) (block : ℕ) (left : GivenBack) : Type 0 where
  pub places : (place : ℕ) → (block_count dev store + alternate_of (map_of unit) dev.alternates block ≡ place → ⊥) → (block ≡ place → ⊥)
      → part left.store (place * dev.block) dev.block ≡ part store (place * dev.block) dev.block
  pub entries : (j : ℕ) → (j ≡ alternate_of (map_of unit) dev.alternates block → ⊥) → entry_at (map_of left.unit) j ≡ entry_at (map_of unit) j
  pub front : take map_place left.unit ≡ take map_place unit

module _ (dev : Device) (store unit : List ℕ) (block : ℕ) where
  abbrev given : ℕ
  given = first_of (give_back_causes dev store unit block)

  abbrev left : GivenBack
  left = give_back_of dev store unit block

  pub give_back_refused : (w : ℕ) → given ≡ w → (w ≡ 0 → ⊥) → left ≡ record { result = result_of w 0; store = store; unit = unit }
  unfolding give_back_of pick
  give_back_refused w e n = rw (e, ne_eqb w 0 n)

  pub give_back_done : given ≡ 0 → left ≡ record { result = 0; store = brought_home dev (map_of unit) store block; unit = record_bytes (record_of unit) (unmapped (map_of unit) dev.alternates block) }
  unfolding give_back_of pick result_of
  give_back_done e = rw e

  cause_given : left.result / 256 ≡ given
  unfolding give_back_of
  cause_given = pick_ind (λ (r : GivenBack). r.result / 256 ≡ given) _ _ _ (λ b. (result_reads 0 0 (omega arith)).0 ∙ sym (eqb-true _ _ b)) (λ _. (result_reads given 0 (omega arith)).0)

  pub give_back_exactly : GivenExactly (give_back_causes dev store unit block) (left.result / 256)
  unfolding give_back_causes device_causes map_causes
  give_back_exactly = rw cause_given (exactly (give_back_causes dev store unit block) refl)

  pub returnable : given ≡ 0 → Returnable dev store unit block
  unfolding give_back_causes device_causes map_causes block_count map_of
  returnable e =
      let f = failed_all 0 (give_back_causes dev store unit block) refl e in
      let k = right_store dev store f.0 in
      let long : length unit ≡ record_size = eqb-true _ _ (not-false _ f.1.0) in
      record {
        stored = k;
        long = long;
        map_long = length_part unit map_place map_size (omega arith);
        right = right_of (map_of unit) dev.alternates (block_count dev store) f.1.1.0;
        on = ltb-true _ _ (not-false _ f.1.1.1.0);
        small = omega (arith, k.held);
        mapped = ltb-true _ _ (not-false _ f.1.1.1.1.0);
      }

  -- not refused

  module _ (done : left.result ≡ 0) where
    passed : given ≡ 0
    passed = sym cause_given ∙ ap (λ (n : ℕ). n / 256) done

    abbrev found : Returnable dev store unit block
    found = returnable passed

    abbrev freed : ℕ
    freed = alternate_of (map_of unit) dev.alternates block

    abbrev primaries : ℕ
    primaries = block_count dev store

    abbrev few : dev.alternates ≤ map_entries
    few = found.stored.few_alternates

    small : name_of block < DEFECTIVE
    small = omega (arith, found.on, found.small)

    store_is : left.store ≡ brought_home dev (map_of unit) store block
    store_is = rw (give_back_done passed) refl

    same_count : block_count dev left.store ≡ primaries
    same_count = count_same dev _ store (ap length store_is ∙ home_length dev (map_of unit) store block found.on found.mapped)

    pub give_back_map : map_of left.unit ≡ unmapped (map_of unit) dev.alternates block
    give_back_map = rw (give_back_done passed) (map_replaced unit _ found.long (length_unmapped (map_of unit) dev.alternates block few found.map_long found.mapped))

    pub give_back_zeros : alternate_at dev left.store freed ≡ zeros dev.block
    unfolding alternate_at
    give_back_zeros = rw (same_count, store_is) (home_freed dev (map_of unit) store block found.on found.mapped)

    pub give_back_right : first_of (map_causes dev left.store (map_of left.unit)) ≡ 0
    unfolding map_causes first_of pick
    give_back_right =
        rw (same_count, give_back_map, right_is _ dev.alternates primaries (return_right (map_of unit) dev.alternates primaries block few found.map_long found.mapped small found.right)) refl

    -- the next format, of any block of the device
    module _ (lowest : (i : ℕ) → i < freed → entry_at (map_of unit) i ≡ UNUSED → ⊥) where
      takes : unused_in (map_of left.unit) dev.alternates ≡ freed
      takes = rw give_back_map (next_freed (map_of unit) dev.alternates block few found.map_long found.mapped none_lower)
        where
          none_lower : freed ≤ unused_in (map_of unit) dev.alternates
          none_lower = elim (dec_le freed (unused_in (map_of unit) dev.alternates)) [
            | yes h ↦ h
            | no h ↦ absurd (lowest _ (omega arith) (eqb-true _ _ (lowest_holds (λ i. entry_at (map_of unit) i =? UNUSED) dev.alternates (omega (arith, found.mapped)))))
          ]

      pub give_back_next : (next : ℕ) → next < primaries → let map' = formatted (map_of left.unit) dev.alternates next in
          (lies map' dev.alternates primaries next ≡ primaries + freed) × (block_at dev map' left.store next ≡ zeros dev.block)
      unfolding block_at block_start alternate_at
      give_back_next next b = (at, rw (same_count, at) (rw same_count at give_back_zeros))
        where
          long : length (map_of left.unit) ≡ map_size
          long = rw give_back_map (length_unmapped (map_of unit) dev.alternates block few found.map_long found.mapped)

          now_right : Right (map_of left.unit) dev.alternates primaries
          now_right = rw give_back_map (return_right (map_of unit) dev.alternates primaries block few found.map_long found.mapped small found.right)

          at : lies (formatted (map_of left.unit) dev.alternates next) dev.alternates primaries next ≡ primaries + freed
          at = lies_formatted (map_of left.unit) dev.alternates primaries next few long (rw takes found.mapped) b (omega (arith, found.small)) now_right ∙ rw takes refl

    -- all that stays: other places of the store, other entries, and the record before the map
    pub give_back_spares : Spares dev store unit block left
    give_back_spares = record {
      places = λ place n m. rw store_is (home_other dev (map_of unit) store block found.on found.mapped place n m);
      entries = λ j n. rw give_back_map (entry_left (map_of unit) dev.alternates block few found.map_long found.mapped j n);
      front = rw (give_back_done passed) (take_at _ _ map_place (record_front_length unit found.long) ∙ record_front unit (omega (arith, found.long)));
    }

    shown_done : (other : ℕ) → other < primaries → block_at dev (map_of left.unit) left.store other ≡ block_at dev (map_of unit) store other
    shown_done other b = rw (give_back_map, store_is) (shown_home dev (map_of unit) store block found.on found.mapped few found.map_long small found.right other b)

  -- refused or not

  done_or_same : (P : GivenBack → Type 0) → (left.result ≡ 0 → P left) → P (record { result = result_of given 0; store = store; unit = unit }) → P left
  done_or_same P f g = dite (ℕ_discrete given 0) (λ e. f (rw (give_back_done e) refl)) (λ n. rw (give_back_refused given refl n) g)

  pub give_back_shown : (other : ℕ) → other < block_count dev store → block_at dev (map_of left.unit) left.store other ≡ block_at dev (map_of unit) store other
  give_back_shown other b = done_or_same (λ (r : GivenBack). block_at dev (map_of r.unit) r.store other ≡ block_at dev (map_of unit) store other) (λ z. shown_done z other b) refl

  pub give_back_keeps : AreBytes store → AreBytes unit → Keeps store unit left
  give_back_keeps b u =
      done_or_same (Keeps store unit)
      (λ z.
      let k = found z in
      let whole = home_length dev (map_of unit) store block k.on k.mapped in
      let r = record_of_lem unit k.long u in
      let m = map_of_lem unit k.long u in
      let new = length_unmapped (map_of unit) dev.alternates block k.stored.few_alternates m.long k.mapped in
      rw (give_back_done (passed z)) (record {
        store_length = whole;
        unit_length = rw (length-append, record_front_length unit k.long, new) (sym k.long);
        store_bytes = home_bytes dev (map_of unit) store block b;
        unit_bytes_lem = bytes_append _ _ (unit_bytes_lem (record_of unit) r) (bytes_unmapped (map_of unit) dev.alternates block m.bytes);
      }))
      (record { store_length = refl; unit_length = refl; store_bytes = b; unit_bytes_lem = u })
