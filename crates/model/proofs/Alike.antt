-- Demand 3, the relation: what two runs of one chain have in common between any two commands, where a data set was moved.
--     Place     where the parameters stand, the two extents, the map and the two stores as they were lent
--     SoundPlace
--               what holds of a place throughout
--     States    the states are equal but for the extent's offset
--     Mains     main storage is equal but for the offset's four bytes, and the parameters lie in it and are still there
--     Stores    of maps and stores: the maps are equal once the extent's blocks are named by displacement, the alternates are equal and so
--               are the extent's blocks, and no block outside it has changed
--     Outs      all three, and the numbers of the answer
-- Below them, that the first two are kept: by a record and a command before, by bytes put into main storage. AlikeStores has the third.
-- No contract cites this file.
use Prim.Native.Nat.{ℕ, ◌+◌, ◌≤◌, ◌<◌}
use mathlib.Core.Path.{◌≡◌, refl, sym, ap, ◌∙◌}
use mathlib.Core.Bool.{true}
use mathlib.Core.List.{List, [], ◌∷◌}
use lib.ListN.{length, get_or, take, drop, length-take}
use native.Mathlib.Omega.{arith}
use Rattle.numbers.specs.Choice.{◌<?◌, pick}
use Rattle.slices.specs.Parts.{part, put}
use Rattle.model.specs.declared.ccw.Piece.{Piece}
use Rattle.slices.proofs.Laws.{length_put, get_before, get_in, get_after, by_place, part_same}
use Rattle.model.specs.declared.extent.Extent.{Extent}
use Rattle.model.specs.declared.record.Record.{Record}
use Rattle.model.specs.declared.state.Before.{Before}
use Rattle.model.specs.declared.device.Device.{Device}
use Rattle.model.specs.State.{State, Done}
use Rattle.model.specs.Alternates.{map_entries, map_size}
use Rattle.model.specs.Lent.{block_count}
use Rattle.model.specs.Pieces.{Command, total, bytes_in, fetched, scattered}
use Rattle.model.specs.Parameters.{extent_length, extent_in}
use Rattle.model.specs.Commands.{Out, after}
use Rattle.model.specs.Safe.{Inside}
use Rattle.model.specs.Moved.{place_of, Among, Off, ParametersLie, ParametersApart, SameButOffset, HasRoom, SameMaps, SameAlternates, SameData, KeptOutside}
use Rattle.model.specs.declared.extent.Displacement.{Displacement}
use Rattle.model.proofs.AlikeMaps.{Spans}
use Rattle.model.proofs.Pieces.{inside_same}
use Rattle.model.proofs.Places.{parameter_at, parameters_same}

-- a byte of the parameters that is none of the four
pub parameter_same : (c : Command) (main main' : List ℕ) → SameButOffset c main main' → ParametersLie c main → ParametersApart c → (i : ℕ) → i < extent_length → (Among 4 4 i → ⊥)
    → get_or (fetched c main extent_length) i 0 ≡ get_or (fetched c main' extent_length) i 0
parameter_same c main main' h lie apart i b n =
    let lie' : ParametersLie c main' = λ k l. rw (← h.long) (lie k l) in
    let other : (k : ℕ) → Among 4 4 k → place_of c i ≡ place_of c k → ⊥ = λ k a e. n (rw (apart i k b (omega (arith, a)) e) a) in
    parameter_at c main i lie b ∙ ap (λ (x : ℕ). pick (i <? total c) x 0) (h.same (place_of c i) other) ∙ sym (parameter_at c main' i lie' b)

pub record Place : Type 0 where
  pub define : Command
  pub here : Extent
  pub there : Extent
  pub map : List ℕ
  pub store : List ℕ
  pub store' : List ℕ

-- what holds of a place throughout
pub record SoundPlace (dev : Device) (F : Place) : Type 0 where
  pub mask : F.here.mask ≡ F.there.mask
  pub first : F.here.first ≡ F.there.first
  pub last : F.here.last ≡ F.there.last
  pub apart : ParametersApart F.define
  pub sizes : length F.store ≡ length F.store'
  pub room : HasRoom dev F.here F.store
  pub room' : HasRoom dev F.there F.store'
  pub few : block_count dev F.store ≤ 131072
  pub few_alternates : dev.alternates ≤ map_entries

pub place_spans : (dev : Device) (F : Place) → SoundPlace dev F → Spans F.here F.there
place_spans dev F k =
    let first : F.here.first.0 ≡ F.there.first.0 = ap (λ (d : Displacement). d.0) k.first in
    let last : F.here.last.0 ≡ F.there.last.0 = ap (λ (d : Displacement). d.0) k.last in
    record { first = first; long = omega (arith, first, last) }

pub record States (F : Place) (s t : State) : Type 0 where
  pub unit : s.unit ≡ t.unit
  pub defined : s.defined ≡ t.defined
  pub before : s.before ≡ t.before
  pub located : s.located ≡ t.located
  pub mask : s.extent.mask ≡ t.extent.mask
  pub first : s.extent.first ≡ t.extent.first
  pub last : s.extent.last ≡ t.extent.last
  pub set : s.defined ≡ true → (s.extent ≡ F.here) × (t.extent ≡ F.there)

pub record Mains (F : Place) (m n : List ℕ) : Type 0 where
  pub but : SameButOffset F.define m n
  pub lie : ParametersLie F.define m
  pub here : extent_in (fetched F.define m extent_length) ≡ F.here
  pub there : extent_in (fetched F.define n extent_length) ≡ F.there

-- maps m and m', stores x and x'
pub record Stores (dev : Device) (F : Place) (m m' x x' : List ℕ) : Type 0 where
  pub long : length x ≡ length F.store
  pub long' : length x' ≡ length F.store'
  pub map_long : length m ≡ map_size
  pub map_long' : length m' ≡ map_size
  pub maps : SameMaps F.here F.there m m'
  pub alternates : SameAlternates dev x x'
  pub same : SameData dev F.here F.there m x m' x'
  pub kept : KeptOutside dev F.here F.map F.store m x
  pub kept' : KeptOutside dev F.there F.map F.store' m' x'

pub record Dones (F : Place) (d e : Done) : Type 0 where
  pub cause : d.cause ≡ e.cause
  pub moved : d.moved ≡ e.moved
  pub can : d.can ≡ e.can
  pub blocks : d.blocks ≡ e.blocks
  pub states : States F d.state e.state

pub record Outs (dev : Device) (F : Place) (o p : Out) : Type 0 where
  pub dones : Dones F o.done p.done
  pub mains : Mains F o.main p.main
  pub stores : Stores dev F o.done.state.map p.done.state.map o.store p.store

-- the state

pub states_after : (F : Place) (s t : State) (u v : Record) (b d : Before) → u ≡ v → b ≡ d → States F s t → States F (after s u b) (after t v d)
unfolding after
states_after F s t u v b d e f r = record { unit = e; defined = r.defined; before = f; located = r.located; mask = r.mask; first = r.first; last = r.last; set = r.set }

-- main storage

-- pieces apart from the parameters hold the same in both
pub mains_gathered : (F : Place) (ps : List Piece) (m m' : List ℕ) → ((k : ℕ) → k < extent_length → Off (place_of F.define k) ps) → Mains F m m' → bytes_in ps m ≡ bytes_in ps m'
unfolding bytes_in
mains_gathered F [] m m' off g = refl
mains_gathered F (p ∷ ps) m m' off g =
    let same : part m p.address p.count ≡ part m' p.address p.count
    = part_same m m' p.address p.count g.but.long (λ i b. g.but.same (p.address + i) (λ k a e. (off k (omega (arith, a))).0 (omega (arith, e), omega (arith, e)))) in
    rw (same, mains_gathered F ps m m' (λ k b. (off k b).1) g) refl

-- bytes put apart from the parameters leave them
put_leaves : (F : Place) (m : List ℕ) (a : ℕ) (bytes : List ℕ) → a + length bytes ≤ length m → ((k : ℕ) → k < extent_length → Among a (length bytes) (place_of F.define k) → ⊥) → ParametersLie F.define m
    → fetched F.define (put m a bytes) extent_length ≡ fetched F.define m extent_length
put_leaves F m a bytes h off lie =
    let e = length_put m a bytes h in
    parameters_same F.define (put m a bytes) m e (λ k b. rw e (lie k b)) (λ k b.
    let at : ℕ = place_of F.define k in
    by_place (get_or (put m a bytes) at 0 ≡ get_or m at 0) at a (length bytes)
    (λ l. get_before m a bytes at h l) (λ j l z. absurd (off k b (omega (arith, z), omega (arith, z)))) (λ l. get_after m a bytes at h l))

mains_put : (F : Place) (m m' : List ℕ) (a : ℕ) (bytes : List ℕ) → a + length bytes ≤ length m → ((k : ℕ) → k < extent_length → Among a (length bytes) (place_of F.define k) → ⊥) → Mains F m m' → Mains F (put m a bytes) (put m' a bytes)
mains_put F m m' a bytes h off g =
    let h' : a + length bytes ≤ length m' = omega (arith, g.but.long) in
    let lie' : ParametersLie F.define m' = λ k b. rw (← g.but.long) (g.lie k b) in
    let e = length_put m a bytes h in
    record {
      but = record {
        long = e ∙ g.but.long ∙ sym (length_put m' a bytes h');
        same = λ i n. by_place (get_or (put m a bytes) i 0 ≡ get_or (put m' a bytes) i 0) i a (length bytes)
            (λ k. get_before m a bytes i h k ∙ g.but.same i n ∙ sym (get_before m' a bytes i h' k))
            (λ j k z. rw z (get_in m a bytes j h k ∙ sym (get_in m' a bytes j h' k)))
            (λ k. get_after m a bytes i h k ∙ g.but.same i n ∙ sym (get_after m' a bytes i h' k));
      };
      lie = λ k b. rw e (g.lie k b);
      here = rw (put_leaves F m a bytes h off g.lie) g.here;
      there = rw (put_leaves F m' a bytes h' off lie') g.there;
    }

-- bytes scattered to pieces apart from the parameters
pub mains_scattered : (F : Place) (ps : List Piece) (m m' bytes : List ℕ) → Inside ps m → ((k : ℕ) → k < extent_length → Off (place_of F.define k) ps) → Mains F m m' → Mains F (scattered ps m bytes) (scattered ps m' bytes)
unfolding scattered
mains_scattered F [] m m' bytes h off g = g
mains_scattered F (p ∷ ps) m m' bytes h off g =
    let xs : List ℕ = take p.count bytes in
    let few : length xs ≤ p.count = rw length-take (omega arith) in
    let fits : p.address + length xs ≤ length m = omega (arith, few, h.0) in
    let long = length_put m p.address xs fits in
    mains_scattered F ps _ _ (drop p.count bytes) (inside_same ps m _ (sym long) h.1) (λ k b. (off k b).1)
    (mains_put F m m' p.address xs fits (λ k b a. (off k b).0 (omega (arith, a), omega (arith, a, few))) g)
