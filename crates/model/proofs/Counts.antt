-- Alternates counted (02, ask 6): how many entries of each kind a map has, and what a format and a return make of the numbers.
--     many_put          one entry changes: so many of a kind, by the entry that was there and the one that is
--     kinds_sum         used, unused and defective: each alternate is one of them
--     Kept              a history counts what a map shows (`Counted`), and knows which blocks are mapped
--     none_kept         of an empty map that is no history
--     formatted_kept, returned_kept
--                       it stays so after a format and after a return
-- No contract cites this file.
use Prim.Native.Nat.{ℕ, zero, suc, ◌+◌, ◌*◌, ◌≤◌, ◌<◌}
use mathlib.Core.Path.{◌≡◌, refl, sym, ap, ◌∙◌}
use mathlib.Core.Bool.{Bool, true, false, not, ◌&&◌, ◌||◌}
use mathlib.Core.Logic.{dite}
use mathlib.Core.List.{List, [], ◌∷◌}
use lib.ListN.{length, get_or, get_or-replicate, length-replicate, get_or-eq_default}
use native.Mathlib.Omega.{arith}
use native.Mathlib.Decide.{dec_le, ℕ_discrete}
use borrow.Author.Tests.{lt-ltb, le-ltb, eq-eqb, ne_eqb, eqb-true}
use Rattle.numbers.specs.Choice.{◌<?◌, ◌=?◌, pick}
use Rattle.numbers.proofs.Choice.{pick_true, pick_false}
use Rattle.numbers.proofs.Lowest.{lowest_none}
use Rattle.slices.specs.Parts.{zeros}
use Rattle.model.specs.Names.{UNUSED, DEFECTIVE}
use Rattle.model.specs.Alternates.{map_entries, map_size, entry_at, with_entry, name_of, is_unused, is_defective, is_name, alternate_of, unused_in, flagged, formatted, unmapped}
use Rattle.model.specs.Lent.{new_map}
use Rattle.model.specs.History.{Event, Formatted, Returned, mapped_by, used_by, unused_by, defective_by, how_many, Counted}
use Rattle.model.proofs.Alternates.{entry_set, entry_other, alternate_names}
use Rattle.model.proofs.Formats.{flagged_taken, flagged_room, alternate_other, formatted_mapped, Right, name_is}
use Rattle.model.proofs.Returns.{alternate_left, alternate_none}

-- 1 where an entry is of the kind
abbrev one : Bool → ℕ
one b = pick b 1 0

-- an entry that names a block is used, and neither of the others

module _ (block : ℕ) (small : name_of block < DEFECTIVE) where
  name_used : is_name (name_of block) ≡ true
  name_used = name_is (name_of block) (λ z. omega (arith, z)) (λ z. omega (arith, z, small))

  name_not_unused : is_unused (name_of block) ≡ false
  name_not_unused = ne_eqb (name_of block) UNUSED (λ z. omega (arith, z))

  name_not_defective : is_defective (name_of block) ≡ false
  name_not_defective = ne_eqb (name_of block) DEFECTIVE (λ z. omega (arith, z, small))

-- counting

many_same : (such : ℕ → Bool) (map map' : List ℕ) (n : ℕ) → ((j : ℕ) → j < n → entry_at map' j ≡ entry_at map j) → how_many such map' n ≡ how_many such map n
unfolding how_many
many_same such map map' zero f = refl
many_same such map map' (suc n) f = rw (many_same such map map' n (λ j b. f j (omega arith)), f n (omega arith)) refl

pub many_put : (such : ℕ → Bool) (map : List ℕ) (i v n : ℕ) → i * 4 + 4 ≤ length map → v < 4294967296 → i < n
    → how_many such (with_entry map i v) n + one (such (entry_at map i)) ≡ how_many such map n + one (such v)
unfolding how_many
many_put such map i v zero h f b = absurd (omega arith)
many_put such map i v (suc n) h f b =
    dite (ℕ_discrete i n)
    (λ e.
    let before = many_same such map (with_entry map i v) n (λ j l. entry_other map i v j h (λ z. omega (arith, z, e))) in
    let here : entry_at (with_entry map i v) n ≡ v = ap (entry_at (with_entry map i v)) (sym e) ∙ entry_set map i v h f in
    rw (before, here, e) (omega arith))
    (λ o.
    let here = entry_other map i v n h (λ z. o (sym z)) in
    rw here (omega (arith, many_put such map i v n h f (omega (arith, b, o)))))

one_kind : (a b : Bool) → (a ≡ true → b ≡ true → ⊥) → one (not a && not b) + one a + one b ≡ 1
unfolding pick
one_kind true true n = absurd (n refl refl)
one_kind true false n = refl
one_kind false true n = refl
one_kind false false n = refl

pub kinds_sum : (map : List ℕ) (n : ℕ) → how_many is_name map n + how_many is_unused map n + how_many is_defective map n ≡ n
unfolding how_many
kinds_sum map zero = refl
kinds_sum map (suc n) =
    let e : ℕ = entry_at map n in
    let k = one_kind (is_unused e) (is_defective e) (λ a b. omega (arith, eqb-true e UNUSED a, eqb-true e DEFECTIVE b)) in
    omega (arith, k, kinds_sum map n)

-- a history, and the map that it leads to

counted_by : (alternates : ℕ) (history : List Event) (map : List ℕ) → how_many is_name map alternates ≡ used_by history → how_many is_unused map alternates ≡ unused_by alternates history
    → how_many is_defective map alternates ≡ defective_by history → Counted alternates history map
counted_by alternates history map used unused defective = record { used = used; unused = unused; defective = defective; sum = rw (← used, ← unused, ← defective) (kinds_sum map alternates) }

pub record Kept (alternates : ℕ) (history : List Event) (map : List ℕ) : Type 0 where
  pub counted : Counted alternates history map
  pub mapped : (block : ℕ) → name_of block < DEFECTIVE → mapped_by history block ≡ (alternate_of map alternates block <? alternates)

-- an empty map

none_entered : (j : ℕ) → entry_at new_map j ≡ UNUSED
unfolding entry_at zeros
none_entered j =
    let none : (k : ℕ) → get_or new_map k 0 ≡ 0
    = λ k. elim (dec_le map_size k) [
      | yes h ↦ get_or-eq_default new_map 0 {n = k} (rw length-replicate h)
      | no h ↦ get_or-replicate map_size k 0 0 (omega arith)
    ] in
    omega (arith, none (j * 4), none (j * 4 + 1), none (j * 4 + 2), none (j * 4 + 3))

all_many : (such : ℕ → Bool) (n : ℕ) → such UNUSED ≡ true → how_many such new_map n ≡ n
unfolding how_many pick
all_many such zero e = refl
all_many such (suc n) e = rw (all_many such n e, none_entered n, e) (omega arith)

none_many : (such : ℕ → Bool) (n : ℕ) → such UNUSED ≡ false → how_many such new_map n ≡ 0
unfolding how_many pick
none_many such zero e = refl
none_many such (suc n) e = rw (none_many such n e, none_entered n, e) (omega arith)

pub none_kept : (alternates : ℕ) → Kept alternates [] new_map
unfolding used_by unused_by defective_by mapped_by pick
none_kept alternates = record {
  counted = counted_by alternates [] new_map (none_many is_name alternates refl) (all_many is_unused alternates refl) (none_many is_defective alternates refl);
  mapped = λ block small.
      let none = lowest_none (λ i. entry_at new_map i =? name_of block) alternates (λ i _. ne_eqb (entry_at new_map i) (name_of block) (λ z. omega (arith, z, none_entered i))) in
      sym (le-ltb (alternate_of new_map alternates block) alternates (omega (arith, none)));
}

-- a format

module _ (map : List ℕ) (alternates block : ℕ) (few : alternates ≤ map_entries) (long : length map ≡ map_size) (takes : unused_in map alternates < alternates) (small : name_of block < DEFECTIVE) where
  abbrev old : ℕ
  old = alternate_of map alternates block

  abbrev new : List ℕ
  new = formatted map alternates block

  -- the entry that is taken
  many_taken : (such : ℕ → Bool) → how_many such new alternates + one (such UNUSED) ≡ how_many such (flagged map alternates block) alternates + one (such (name_of block))
  unfolding formatted
  many_taken such =
      rw (flagged_taken map alternates block few long takes small) at
      (many_put such (flagged map alternates block) (unused_in map alternates) (name_of block) alternates (flagged_room map alternates block few long takes small) (omega (arith, small)) takes)

  -- and the old one, where there is one
  many_mapped : (such : ℕ → Bool) → old < alternates → how_many such new alternates + one (such UNUSED) ≡ how_many such map alternates + one (such DEFECTIVE)
  unfolding flagged
  many_mapped such l =
      let flag = rw (alternate_names map alternates block l) at (many_put such map old DEFECTIVE alternates (rw long (omega (arith, few, l))) (omega arith) l) in
      omega (arith, rw (pick_true (old <? alternates) (with_entry map old DEFECTIVE) map (lt-ltb old alternates l)) at (many_taken such), flag)

  many_unmapped : (such : ℕ → Bool) → alternates ≤ old → how_many such new alternates + one (such UNUSED) ≡ how_many such map alternates + one (such (name_of block))
  unfolding flagged
  many_unmapped such l = rw (pick_false (old <? alternates) (with_entry map old DEFECTIVE) map (le-ltb old alternates l)) at (many_taken such)

  module _ (history : List Event) (k : Kept alternates history map) where
    known : mapped_by history block ≡ (old <? alternates)
    known = k.mapped block small

    mapped_after : (other : ℕ) → name_of other < DEFECTIVE → (block =? other || mapped_by history other) ≡ (alternate_of new alternates other <? alternates)
    mapped_after other s =
        dite (ℕ_discrete other block)
        (λ e. rw (e, eq-eqb block block refl, lt-ltb (alternate_of new alternates block) alternates (formatted_mapped map alternates block few long takes small)) refl)
        (λ n. rw (ne_eqb block other (λ z. n (sym z)), alternate_other map alternates block few long takes small other n s) (k.mapped other s))

    pub formatted_kept : Kept alternates (Formatted block ∷ history) new
    unfolding used_by unused_by defective_by mapped_by pick
    formatted_kept = record {
      counted = elim (dec_le alternates old) [
        | yes h ↦
            let m = many_unmapped in
            let no : mapped_by history block ≡ false = known ∙ le-ltb old alternates h in
            counted_by alternates (Formatted block ∷ history) new
            (rw no (omega (arith, rw (name_used block small) at (m is_name h), k.counted.used)))
            (omega (arith, rw (name_not_unused block small) at (m is_unused h), k.counted.unused))
            (rw no (omega (arith, rw (name_not_defective block small) at (m is_defective h), k.counted.defective)))
        | no h ↦
            let l : old < alternates = omega arith in
            let m = many_mapped in
            let yes : mapped_by history block ≡ true = known ∙ lt-ltb old alternates l in
            counted_by alternates (Formatted block ∷ history) new
            (rw yes (omega (arith, m is_name l, k.counted.used)))
            (omega (arith, m is_unused l, k.counted.unused))
            (rw yes (omega (arith, m is_defective l, k.counted.defective)))
      ];
      mapped = mapped_after;
    }

-- a return

module _ (map : List ℕ) (alternates primaries block : ℕ) (few : alternates ≤ map_entries) (long : length map ≡ map_size) (mapped : alternate_of map alternates block < alternates) (small : name_of block < DEFECTIVE) (r : Right map alternates primaries) where
  many_freed : (such : ℕ → Bool) → how_many such (unmapped map alternates block) alternates + one (such (name_of block)) ≡ how_many such map alternates + one (such UNUSED)
  unfolding unmapped
  many_freed such = rw (alternate_names map alternates block mapped) at (many_put such map (alternate_of map alternates block) UNUSED alternates (rw long (omega (arith, few, mapped))) (omega arith) mapped)

  module _ (history : List Event) (k : Kept alternates history map) where
    mapped_left : (other : ℕ) → name_of other < DEFECTIVE → (not (block =? other) && mapped_by history other) ≡ (alternate_of (unmapped map alternates block) alternates other <? alternates)
    mapped_left other s =
        dite (ℕ_discrete other block)
        (λ e. rw (e, eq-eqb block block refl, le-ltb (alternate_of (unmapped map alternates block) alternates block) alternates (omega (arith, alternate_none map alternates primaries block few long mapped small r))) refl)
        (λ n. rw (ne_eqb block other (λ z. n (sym z)), alternate_left map alternates block few long mapped other n) (k.mapped other s))

    pub returned_kept : Kept alternates (Returned block ∷ history) (unmapped map alternates block)
    unfolding used_by unused_by defective_by mapped_by pick
    returned_kept = record {
      counted = counted_by alternates (Returned block ∷ history) (unmapped map alternates block)
          (omega (arith, rw (name_used block small) at (many_freed is_name), k.counted.used))
          (omega (arith, rw (name_not_unused block small) at (many_freed is_unused), k.counted.unused))
          (omega (arith, rw (name_not_defective block small) at (many_freed is_defective), k.counted.defective));
      mapped = mapped_left;
    }
