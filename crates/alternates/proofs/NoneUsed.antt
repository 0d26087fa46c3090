-- Laws of a map of zeros: nothing was ever entered in it. No contract cites this file.
--     none_bytes, none_entry   each byte of it is 0, each entry UNUSED
--     none_lies                each block lies at its own place
--     none_right               the map passes cause 8
--     Gathered                 what the bits of some bytes tell, taken together: of none, of one more, of the whole map
use Prim.Native.Nat.{ℕ, zero, suc, ◌+◌, ◌-◌, ◌*◌, ◌<◌}
use mathlib.Core.Path.{◌≡◌, refl, sym, ap, ◌∙◌}
use mathlib.Core.Bool.{Bool, true, false, not, true≢false}
use mathlib.Core.List.{List, [], ◌∷◌, ◌++◌}
use native.Mathlib.Omega.{arith}
use native.Mathlib.Decide.{dec_le}
use lib.Bits.{bit_or, or_add_and, and_le_l, and_le_r}
use lib.Dec.{eqb}
use lib.ListN.{length, get_or, get_or-eq_default, get_or-append}
use lib.Seq.{get_or-append_seam, get_or-append_right}
use borrow.Author.Tests.{eq-eqb, ne_eqb, eqb-true, not-true, not-false}
use Rattle.numbers.specs.Choice.{◌=?◌}
use Rattle.numbers.proofs.Lowest.{lowest_none, any_none, any_false}
use Rattle.model.specs.Alternates.{map_entries, entry_at, name_of, lies, bad_entry, bad_map}
use Rattle.model.specs.Names.{UNUSED}
use Rattle.model.proofs.Alternates.{lies_unmapped}
use Rattle.alternates.specs.Used.{none_used}
use Rattle.alternates.proofs.Wrong.{bad_unused}

module _ (map : List ℕ) where
  abbrev used : ℕ → Bool
  used i = not (get_or map i 0 =? 0)

  none_all : ((i : ℕ) → i < length map → get_or map i 0 ≡ 0) → none_used map ≡ true
  unfolding none_used
  none_all f = ap not (any_none used (length map) (λ i b. ap not (eq-eqb _ _ (f i b))))

  pub none_bytes : none_used map ≡ true → (i : ℕ) → get_or map i 0 ≡ 0
  unfolding none_used
  none_bytes e i = elim (dec_le (length map) i) [
    | yes h ↦ get_or-eq_default map 0 h
    | no h ↦ eqb-true (get_or map i 0) 0 (not-false _ (any_false used (length map) (not-true _ e) i (omega arith)))
  ]

  pub none_entry : none_used map ≡ true → (i : ℕ) → entry_at map i ≡ UNUSED
  unfolding entry_at
  none_entry e i =
      let z = none_bytes e in
      omega (arith, z (i * 4), z (i * 4 + 1), z (i * 4 + 2), z (i * 4 + 3))

  pub none_lies : none_used map ≡ true → (alternates primaries block : ℕ) → lies map alternates primaries block ≡ block
  none_lies e alternates primaries block =
      let none : (i : ℕ) → i < alternates → entry_at map i =? name_of block ≡ false = λ i b. ne_eqb (entry_at map i) (name_of block) (λ z. omega (arith, z, none_entry e i)) in
      lies_unmapped map alternates primaries block (omega (arith, lowest_none (λ i. entry_at map i =? name_of block) alternates none))

  pub none_right : none_used map ≡ true → (alternates primaries : ℕ) → bad_map map alternates primaries ≡ false
  unfolding bad_map
  none_right e alternates primaries = any_none (bad_entry map alternates primaries) map_entries (λ i b. bad_unused map alternates primaries i (none_entry e i))

or_none : (a b : ℕ) → bit_or a b ≡ 0 → (a ≡ 0) × (b ≡ 0)
or_none a b e =
    let s = or_add_and a b in
    let l = and_le_l a b in
    let r = and_le_r a b in
    (omega arith, omega arith)

-- none of the bytes has a one bit, where all of them together have none
pub record Gathered (bytes : List ℕ) (bits : ℕ) : Type 0 where
  pub none : bits ≡ 0 → (k : ℕ) → get_or bytes k 0 ≡ 0
  pub whole : ((k : ℕ) → get_or bytes k 0 ≡ 0) → bits ≡ 0

pub gathered_none : Gathered [] 0
gathered_none = record { none = λ e k. refl; whole = λ f. refl }

pub gathered_more : (bytes : List ℕ) (bits byte : ℕ) → Gathered bytes bits → Gathered (bytes ++ (byte ∷ [])) (bit_or bits byte)
gathered_more bytes bits byte g = record {
  none = λ e k.
      let both = or_none bits byte e in
      elim (dec_le (length bytes) k) [
        | yes h ↦ rw (get_or-append_right bytes (byte ∷ []) k 0 h) (last both.1 (k - length bytes))
        | no h ↦ get_or-append bytes (byte ∷ []) 0 k (omega arith) ∙ g.none both.0 k
      ];
  whole = λ f. rw (g.whole (λ k. before f k), sym (get_or-append_seam bytes byte [] 0) ∙ f (length bytes)) refl;
}
  where
    last : byte ≡ 0 → (i : ℕ) → get_or (byte ∷ []) i 0 ≡ 0
    last e zero = e
    last e (suc i) = refl

    before : ((k : ℕ) → get_or (bytes ++ (byte ∷ [])) k 0 ≡ 0) → (k : ℕ) → get_or bytes k 0 ≡ 0
    before f k = elim (dec_le (length bytes) k) [
      | yes h ↦ get_or-eq_default bytes 0 h
      | no h ↦ sym (get_or-append bytes (byte ∷ []) 0 k (omega arith)) ∙ f k
    ]

pub gathered_all : (map : List ℕ) (bits : ℕ) → Gathered map bits → eqb bits 0 ≡ none_used map
gathered_all map bits g = go (none_used map) refl
  where
    go : (b : Bool) → none_used map ≡ b → eqb bits 0 ≡ b
    go true e = eq-eqb _ _ (g.whole (none_bytes map e))
    go false e = ne_eqb _ _ (λ z. true≢false (sym (none_all map (λ i b. g.none z i)) ∙ e))
