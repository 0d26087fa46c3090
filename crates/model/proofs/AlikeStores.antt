-- Demand 3, maps and stores: a READ sees the same in both runs; a WRITE and a format leave them alike.
--     place_moves       a block lies at an alternate in the one store exactly where its like does in the other
--     stores_read       what a READ sees
--     stores_write      what a WRITE leaves
--     stores_formatted  what a format leaves
-- No contract cites this file.
use Prim.Native.Nat.{ℕ, ◌+◌, ◌-◌, ◌*◌, ◌≤◌, ◌<◌}
use mathlib.Core.Path.{◌≡◌, refl, sym, ap, ◌∙◌}
use mathlib.Core.Logic.{◌⊎◌, inl, inr, ⊎_elim, dite}
use mathlib.Core.List.{List}
use lib.ListN.{length}
use native.Mathlib.Omega.{arith}
use native.Mathlib.Decide.{dec_le, ℕ_discrete}
use borrow.Author.Tests.{eqb-true, eqb-false}
use Rattle.numbers.specs.Choice.{◌=?◌}
use Rattle.numbers.specs.Lowest.{lowest}
use Rattle.numbers.proofs.Lowest.{lowest_holds, lowest_before}
use Rattle.slices.specs.Parts.{part}
use Rattle.slices.proofs.Laws.{by_place}
use Rattle.model.specs.declared.extent.Displacement.{Displacement}
use Rattle.model.specs.declared.extent.Extent.{Extent}
use Rattle.model.specs.declared.extent.Located.{Located}
use Rattle.model.specs.declared.device.Device.{Device}
use Rattle.model.specs.Names.{DEFECTIVE}
use Rattle.model.specs.Alternates.{name_of, alternate_of, unused_in, formatted}
use Rattle.model.specs.Lent.{block_count, alternate_at, block_start, block_at, blocks_from, blocks_into}
use Rattle.model.specs.Parameters.{address}
use Rattle.model.specs.Safe.{InExtent}
use Rattle.model.specs.Moved.{HasRoom, SameAlternates, KeptOutside}
use Rattle.model.proofs.Alternates.{length_formatted, lies_mapped, lies_unmapped}
use Rattle.model.proofs.Formats.{lies_other, formatted_mapped}
use Rattle.model.proofs.Blocks.{count_same, place_of_block, blocks_into_length, blocks_from_same, place_kept, block_kept, block_stored}
use Rattle.model.proofs.AlikeMaps.{span, Spans, alternate_same, unused_same, maps_formatted}
use Rattle.model.proofs.Alike.{Place, SoundPlace, place_spans, Stores}

-- blocks at alternates

pub place_moves : (dev : Device) (m m' x x' : List ℕ) (p q i : ℕ) → alternate_of m dev.alternates p ≡ alternate_of m' dev.alternates q → p < block_count dev x
    → place_of_block dev m x p ≡ block_count dev x + i → place_of_block dev m' x' q ≡ block_count dev x' + i
place_moves dev m m' x x' p q i e b z = elim (dec_le dev.alternates (alternate_of m dev.alternates p)) [
  | yes h ↦ absurd (omega (arith, b, sym (lies_unmapped m dev.alternates (block_count dev x) p h) ∙ z))
  | no h ↦
      let l : alternate_of m dev.alternates p < dev.alternates = omega arith in
      let at : alternate_of m dev.alternates p ≡ i = omega (arith, sym (lies_mapped m dev.alternates (block_count dev x) p l) ∙ z) in
      lies_mapped m' dev.alternates (block_count dev x') q (rw (← e) l) ∙ rw (← e, at) refl
]

-- the bytes of a block, by its place
block_of_place : (dev : Device) (m x : List ℕ) (p place : ℕ) → place_of_block dev m x p ≡ place → block_at dev m x p ≡ part x (place * dev.block) dev.block
unfolding block_at block_start
block_of_place dev m x p place e = rw e

-- and of a block that is mapped
block_mapped : (dev : Device) (m x : List ℕ) (p : ℕ) → alternate_of m dev.alternates p < dev.alternates → block_at dev m x p ≡ alternate_at dev x (alternate_of m dev.alternates p)
unfolding alternate_at
block_mapped dev m x p l = block_of_place dev m x p _ (lies_mapped m dev.alternates (block_count dev x) p l)

-- two maps that send a block to one place show the same
block_sent : (dev : Device) (m n x : List ℕ) (p : ℕ) → place_of_block dev m x p ≡ place_of_block dev n x p → block_at dev m x p ≡ block_at dev n x p
unfolding block_at block_start
block_sent dev m n x p e = rw e

-- where the blocks of a LOCATE are in an extent of the device
record Lying (dev : Device) (e : Extent) (l : Located) (x : List ℕ) (k : ℕ) : Type 0 where
  pub base : (i : ℕ) → address e l.displacement + i ≡ e.offset.0 + (k + i)
  pub within : k + l.blocks ≤ span e + 1
  pub fits : address e l.displacement + l.blocks ≤ block_count dev x

lying : (dev : Device) (e : Extent) (l : Located) (x : List ℕ) (k : ℕ) → k ≡ l.displacement.0 - e.first.0 → InExtent e l → HasRoom dev e x → Lying dev e l x k
unfolding address
lying dev e l x k f h r = record {
  base = λ i. omega (arith, f);
  within = omega (arith, f, h.from_first, h.to_last);
  fits = omega (arith, h.from_first, h.to_last, h.some, r);
}

-- blocks written over an extent's own leave those outside it
kept_write : (dev : Device) (e : Extent) (l : Located) (map store m x bytes : List ℕ) (k : ℕ) → length x ≡ length store → Lying dev e l x k → KeptOutside dev e map store m x
    → KeptOutside dev e map store m (blocks_into dev m x (address e l.displacement) l.blocks bytes)
kept_write dev e l map store m x bytes k long h o n c d =
    let b = h.base 0 in
    let on : n < block_count dev x = rw (count_same dev x store long) c in
    block_kept dev m x _ l.blocks bytes n h.fits on (⊎_elim (λ y. inl (omega (arith, b))) (λ y. inr (omega (arith, b, h.within))) d) ∙ o n c d

-- a format of one of an extent's blocks, too
kept_format : (dev : Device) (e : Extent) (map store m m₁ x : List ℕ) (k : ℕ) → k ≤ span e
    → ((n : ℕ) → n < block_count dev store → (n ≡ e.offset.0 + k → ⊥) → block_at dev m₁ x n ≡ block_at dev m x n)
    → KeptOutside dev e map store m x → KeptOutside dev e map store m₁ x
kept_format dev e map store m m₁ x k h f o n c d = f n c (λ z. ⊎_elim (λ l. omega (arith, l, z)) (λ l. omega (arith, l, z, h)) d) ∙ o n c d

module _ (dev : Device) (F : Place) (k : SoundPlace dev F) where
  spans : Spans F.here F.there
  spans = place_spans dev F k

  module _ (m m' x x' : List ℕ) (g : Stores dev F m m' x x') where
    room : HasRoom dev F.here x
    room = rw (count_same dev x F.store g.long) k.room

    room' : HasRoom dev F.there x'
    room' = rw (count_same dev x' F.store' g.long') k.room'

    few : block_count dev x ≤ 131072
    few = rw (count_same dev x F.store g.long) k.few

    few' : block_count dev x' ≤ 131072
    few' = rw (count_same dev x' F.store (g.long' ∙ sym k.sizes)) k.few

    same_alternate : (i : ℕ) → i ≤ span F.here → alternate_of m dev.alternates (F.here.offset.0 + i) ≡ alternate_of m' dev.alternates (F.there.offset.0 + i)
    same_alternate i h = alternate_same F.here F.there spans m m' g.maps dev.alternates i h

    -- the blocks of a LOCATE

    module _ (l : Located) (h : InExtent F.here l) where
      h' : InExtent F.there l
      h' = record { some = h.some; from_first = rw (← k.first) h.from_first; to_last = rw (← k.last) h.to_last }

      from : ℕ
      from = l.displacement.0 - F.here.first.0

      lying_here : Lying dev F.here l x from
      unfolding from
      lying_here = lying dev F.here l x from refl h room

      lying_there : Lying dev F.there l x' from
      unfolding from
      lying_there = lying dev F.there l x' from (ap (λ (d : Displacement). l.displacement.0 - d.0) k.first) h' room'

      pub stores_read : blocks_from dev m x (address F.here l.displacement) l.blocks ≡ blocks_from dev m' x' (address F.there l.displacement) l.blocks
      stores_read = blocks_from_same dev m m' x x' _ _ l.blocks (λ i b. rw (lying_here.base i, lying_there.base i) (g.same (from + i) (omega (arith, lying_here.within))))

      module _ (bytes : List ℕ) where
        abbrev a : ℕ
        a = address F.here l.displacement

        abbrev b : ℕ
        b = address F.there l.displacement

        abbrev after : List ℕ
        after = blocks_into dev m x a l.blocks bytes

        abbrev after' : List ℕ
        after' = blocks_into dev m' x' b l.blocks bytes

        count_after : block_count dev after ≡ block_count dev x
        count_after = count_same dev after x (blocks_into_length dev m x _ l.blocks bytes lying_here.fits)

        count_after' : block_count dev after' ≡ block_count dev x'
        count_after' = count_same dev after' x' (blocks_into_length dev m' x' _ l.blocks bytes lying_there.fits)

        -- block j of the LOCATE has the same alternate in both, or none
        alternate_located : (j : ℕ) → j < l.blocks → alternate_of m dev.alternates (a + j) ≡ alternate_of m' dev.alternates (b + j)
        alternate_located j c = rw (lying_here.base j, lying_there.base j) (same_alternate (from + j) (omega (arith, lying_here.within)))

        -- an alternate at which block j lies
        written_there : (j i : ℕ) → j < l.blocks → place_of_block dev m x (a + j) ≡ block_count dev x + i → alternate_at dev after i ≡ alternate_at dev after' i
        unfolding alternate_at
        written_there j i c z =
            let z' : place_of_block dev m' x' (b + j) ≡ block_count dev x' + i = place_moves dev m m' x x' (a + j) (b + j) i (alternate_located j c) (omega (arith, lying_here.fits)) z in
            let p : place_of_block dev m after (a + j) ≡ block_count dev after + i = rw count_after z in
            let p' : place_of_block dev m' after' (b + j) ≡ block_count dev after' + i = rw count_after' z' in
            sym (block_of_place dev m after (a + j) _ p) ∙ block_stored dev m x a l.blocks bytes j lying_here.fits c
            ∙ sym (block_stored dev m' x' b l.blocks bytes j lying_there.fits c) ∙ block_of_place dev m' after' (b + j) _ p'

        -- an alternate at which no block of the LOCATE lies
        unwritten : (i : ℕ) → ((j : ℕ) → j < l.blocks → place_of_block dev m x (a + j) ≡ block_count dev x + i → ⊥) → i < dev.alternates → alternate_at dev after i ≡ alternate_at dev after' i
        unfolding alternate_at
        unwritten i off c =
            let off' : (j : ℕ) → j < l.blocks → place_of_block dev m' x' (b + j) ≡ block_count dev x' + i → ⊥
            = λ j d z. off j d (place_moves dev m' m x' x (b + j) (a + j) i (sym (alternate_located j d)) (omega (arith, lying_there.fits)) z) in
            rw (count_after, count_after')
            (place_kept dev m x a l.blocks bytes (block_count dev x + i) lying_here.fits off ∙ g.alternates i c ∙ sym (place_kept dev m' x' b l.blocks bytes (block_count dev x' + i) lying_there.fits off'))

        alternates_written : SameAlternates dev after after'
        alternates_written i c =
            let at : ℕ = lowest (λ j. place_of_block dev m x (a + j) =? block_count dev x + i) l.blocks in
            elim (dec_le l.blocks at) [
              | yes d ↦ unwritten i (λ j e. eqb-false _ _ (lowest_before (λ j. place_of_block dev m x (a + j) =? block_count dev x + i) l.blocks j (omega arith))) c
              | no d ↦
                  let e : at < l.blocks = omega arith in
                  written_there at i e (eqb-true _ _ (lowest_holds (λ j. place_of_block dev m x (a + j) =? block_count dev x + i) l.blocks e))
            ]

        pub stores_write : Stores dev F m m' after after'
        stores_write = record {
          long = blocks_into_length dev m x a l.blocks bytes lying_here.fits ∙ g.long;
          long' = blocks_into_length dev m' x' b l.blocks bytes lying_there.fits ∙ g.long';
          map_long = g.map_long;
          map_long' = g.map_long';
          maps = g.maps;
          alternates = alternates_written;
          same = λ i d.
              let Q : Type 0 = block_at dev m after (F.here.offset.0 + i) ≡ block_at dev m' after' (F.there.offset.0 + i) in
              let a0 = lying_here.base 0 in
              let b0 = lying_there.base 0 in
              let other : (i < from) ⊎ (from + l.blocks ≤ i) → Q = λ w.
              block_kept dev m x a l.blocks bytes _ lying_here.fits (omega (arith, room, d)) (⊎_elim (λ z. inl (omega (arith, a0))) (λ z. inr (omega (arith, a0))) w)
              ∙ g.same i d
              ∙ sym (block_kept dev m' x' b l.blocks bytes _ lying_there.fits (omega (arith, room', d, spans.long)) (⊎_elim (λ z. inl (omega (arith, b0))) (λ z. inr (omega (arith, b0))) w)) in
              by_place Q i from l.blocks (λ z. other (inl z))
              (λ j z e. rw (e, ← (lying_here.base j), ← (lying_there.base j)) (block_stored dev m x a l.blocks bytes j lying_here.fits z ∙ sym (block_stored dev m' x' b l.blocks bytes j lying_there.fits z)))
              (λ z. other (inr z));
          kept = kept_write dev F.here l F.map F.store m x bytes from g.long lying_here g.kept;
          kept' = kept_write dev F.there l F.map F.store' m' x' bytes from g.long' lying_there g.kept';
        }

    -- a format of block i of the extent

    module _ (i : ℕ) (h : i ≤ span F.here) (takes : unused_in m dev.alternates < dev.alternates) where
      abbrev p : ℕ
      p = F.here.offset.0 + i

      abbrev q : ℕ
      q = F.there.offset.0 + i

      takes' : unused_in m' dev.alternates < dev.alternates
      takes' = rw (← (unused_same F.here F.there spans m m' g.maps dev.alternates)) takes

      on : name_of p < DEFECTIVE
      on = omega (arith, h, room, few)

      on' : name_of q < DEFECTIVE
      on' = omega (arith, h, spans.long, room', few')

      -- another block of the device lies where it did
      other_here : (n : ℕ) → n < block_count dev x → (n ≡ p → ⊥) → block_at dev (formatted m dev.alternates p) x n ≡ block_at dev m x n
      other_here n c d = block_sent dev _ m x n (lies_other m dev.alternates p k.few_alternates g.map_long takes on (block_count dev x) n d (omega (arith, c, few)))

      other_there : (n : ℕ) → n < block_count dev x' → (n ≡ q → ⊥) → block_at dev (formatted m' dev.alternates q) x' n ≡ block_at dev m' x' n
      other_there n c d = block_sent dev _ m' x' n (lies_other m' dev.alternates q k.few_alternates g.map_long' takes' on' (block_count dev x') n d (omega (arith, c, few')))

      pub stores_formatted : Stores dev F (formatted m dev.alternates p) (formatted m' dev.alternates q) x x'
      stores_formatted =
          let maps = maps_formatted F.here F.there spans m m' g.maps dev.alternates k.few_alternates g.map_long g.map_long' takes (omega (arith, room, few)) (omega (arith, room', few')) i h in
          let mapped = formatted_mapped m dev.alternates p k.few_alternates g.map_long takes on in
          let mapped' = formatted_mapped m' dev.alternates q k.few_alternates g.map_long' takes' on' in
          let at = alternate_same F.here F.there spans _ _ maps dev.alternates i h in
          record {
            long = g.long;
            long' = g.long';
            map_long = length_formatted m dev.alternates p k.few_alternates g.map_long takes;
            map_long' = length_formatted m' dev.alternates q k.few_alternates g.map_long' takes';
            maps = maps;
            alternates = g.alternates;
            same = λ j d. dite (ℕ_discrete j i)
                (λ e. rw e (block_mapped dev _ x p mapped ∙ g.alternates _ mapped ∙ ap (alternate_at dev x') at ∙ sym (block_mapped dev _ x' q mapped')))
                (λ n. other_here _ (omega (arith, room, d)) (λ z. n (omega (arith, z))) ∙ g.same j d ∙ sym (other_there _ (omega (arith, room', d, spans.long)) (λ z. n (omega (arith, z)))));
            kept = kept_format dev F.here F.map F.store m _ x i h (λ n c. other_here n (rw (count_same dev x F.store g.long) c)) g.kept;
            kept' = kept_format dev F.there F.map F.store' m' _ x' i (omega (arith, h, spans.long)) (λ n c. other_there n (rw (count_same dev x' F.store' g.long') c)) g.kept';
          }
