-- Laws of the places of blocks in a row. No contract cites this file.
--     length_places, get_places    as many as are asked for, each where its block lies
--     lies_from                    where a block lies by the entries from i on: by none of them (`from_alternates`), by one more (`from_turn`), by
--                                  all (`from_first`)
--     own_more                     one place more is the block's own
--     put_here, put_none           the block that an entry names is one of the row, is none of it
--     says_name                    an entry that is a block's name says which
use Prim.Native.Nat.{ℕ, zero, suc, ◌+◌, ◌-◌, ◌≤◌, ◌<◌}
use mathlib.Core.Path.{◌≡◌, refl, sym, ap, ◌∙◌}
use mathlib.Core.Logic.{◌≢◌}
use mathlib.Core.Bool.{Bool, true, false}
use mathlib.Core.List.{List}
use native.Mathlib.Omega.{arith}
use lib.ListN.{length, get_or, set}
use lib.Seq.{ext_get_or, get_or-set_same, get_or-set_other}
use borrow.Author.Count.{below_more}
use borrow.Author.Tests.{lt-ltb, le-ltb, ne_eqb, eqb-true, eqb-false}
use Rattle.numbers.specs.Choice.{◌<?◌, ◌=?◌, pick}
use Rattle.numbers.specs.Lowest.{lowest_from, lowest}
use Rattle.numbers.proofs.Choice.{pick_ind, pick_true, pick_false}
use Rattle.numbers.proofs.Lowest.{from_none, from_here, from_next}
use Rattle.model.specs.Names.{DEFECTIVE}
use Rattle.model.specs.Alternates.{entry_at, name_of, lies}
use Rattle.alternates.specs.declared.Entry.{Entry}
use Rattle.alternates.specs.declared.Entry.TheVariants.{Unused, Defective, Block}
use Rattle.alternates.specs.Entries.{Says}
use Rattle.alternates.specs.Placed.{places_from}

module _ (map : List ℕ) (alternates primaries : ℕ) where
  pub length_places : (block n : ℕ) → length (places_from map alternates primaries block n) ≡ n
  unfolding places_from
  length_places block zero = refl
  length_places block (suc n) = ap suc (length_places (block + 1) n)

  pub get_places : (block n j : ℕ) → j < n → get_or (places_from map alternates primaries block n) j 0 ≡ lies map alternates primaries (block + j)
  unfolding places_from
  get_places block zero j b = absurd (omega arith)
  get_places block (suc n) zero b = let z : block ≡ block + 0 = omega arith in ap (lies map alternates primaries) z
  get_places block (suc n) (suc j) b =
      let z : block + 1 + j ≡ block + suc j = omega arith in
      get_places (block + 1) n j (omega arith) ∙ ap (lies map alternates primaries) z

  abbrev pub names : ℕ → ℕ → Bool
  names block i = entry_at map i =? name_of block

  unfoldable pub lies_from : ℕ → ℕ → ℕ
  lies_from i block =
      let k = lowest_from (names block) (alternates - i) i in
      pick (k <? alternates) (primaries + k) block

  pub from_alternates : (block : ℕ) → lies_from alternates block ≡ block
  unfolding lies_from
  from_alternates block =
      let n : alternates - alternates ≡ 0 = omega arith in
      rw (n, from_none (names block) alternates) (pick_false _ _ _ (le-ltb alternates alternates (omega arith)))

  pub from_more : (i block : ℕ) → i < alternates → lies_from i block ≡ pick (entry_at map i =? name_of block) (primaries + i) (lies_from (i + 1) block)
  unfolding lies_from
  from_more i block b = go (names block i) refl
    where
      n : alternates - i ≡ suc (alternates - (i + 1))
      n = omega arith

      go : (t : Bool) → names block i ≡ t → lies_from i block ≡ pick t (primaries + i) (lies_from (i + 1) block)
      go true e = rw (n, from_here (names block) (alternates - (i + 1)) i e) (pick_true _ _ _ (lt-ltb i alternates b) ∙ sym (pick_true true _ _ refl))
      go false e = rw (n, from_next (names block) (alternates - (i + 1)) i e) (sym (pick_false false _ _ refl))

  -- a turn of the loop, from the highest alternate down
  pub from_turn : (i e v block : ℕ) → 0 < i → i ≤ alternates → e ≡ entry_at map (i - 1) → v ≡ lies_from i block
      → pick (e =? name_of block) (primaries + (i - 1)) v ≡ lies_from (i - 1) block
  from_turn i e v block some most is known =
      let z : i - 1 + 1 ≡ i = omega arith in
      rw (is, known) (sym (rw z at (from_more (i - 1) block (omega arith))))

  pub from_first : (block : ℕ) → lies_from 0 block ≡ lies map alternates primaries block
  unfolding lies_from lies lowest
  from_first block = let n : alternates - 0 ≡ alternates = omega arith in rw n refl

  -- all blocks of a row
  pub places_known : (block : ℕ) (to : List ℕ) (n : ℕ) → length to ≡ n → ((j : ℕ) → j < n → get_or to j 0 ≡ lies map alternates primaries (block + j))
      → to ≡ places_from map alternates primaries block n
  places_known block to n e f =
      ext_get_or 0 _ _ (e ∙ sym (length_places block n)) (λ j b. let l : j < n = omega arith in f j l ∙ sym (get_places block n j l))

-- one place more is the block's own
pub own_more : (block : ℕ) (to : List ℕ) (j : ℕ) → j < length to → ((k : ℕ) → k < j → get_or to k 0 ≡ block + k) → (k : ℕ) → k < j + 1 → get_or (set to j (block + j)) k 0 ≡ block + k
own_more block to j h own =
    let others : (k : ℕ) → k < j → get_or (set to j (block + j)) k 0 ≡ block + k = λ k b. get_or-set_other to j k (block + j) 0 (λ z. omega arith) ∙ own k b in
    below_more (λ (k : ℕ). get_or (set to j (block + j)) k 0 ≡ block + k) j others (get_or-set_same to j (block + j) 0 h)

module _ (to : List ℕ) (block e place : ℕ) where
  -- of the blocks of the row, the one that e names has the place now
  abbrev pub Put : List ℕ → Type 0
  Put after = (j : ℕ) → j < length to → get_or after j 0 ≡ pick (e =? name_of (block + j)) place (get_or to j 0)

  pub put_none : ((j : ℕ) → j < length to → e ≡ name_of (block + j) → ⊥) → Put to
  put_none f j b = sym (pick_false _ _ _ (ne_eqb e (name_of (block + j)) (f j b)))

  pub put_here : (named : ℕ) → e ≡ name_of named → block ≤ named → named - block < length to → Put (set to (named - block) place)
  put_here named n l h j b =
      pick_ind (λ (v : ℕ). get_or (set to (named - block) place) j 0 ≡ v) (e =? name_of (block + j)) place (get_or to j 0)
      (λ t. let z : j ≡ named - block = omega (arith, eqb-true e (name_of (block + j)) t) in rw z (get_or-set_same to (named - block) place 0 h))
      (λ t. get_or-set_other to (named - block) j place 0 (λ z. eqb-false e (name_of (block + j)) t (omega arith)))

-- an entry that is a block's name says which
pub says_name : (entry : Entry) (e block : ℕ) → Says entry e → e ≡ name_of block → e ≢ DEFECTIVE → entry ≡ Block block
says_name Unused e block is n other = absurd (omega arith)
says_name Defective e block is n other = absurd (other is)
says_name (Block named) e block is n other = let z : named ≡ block = omega (arith, is.0) in ap Block z
