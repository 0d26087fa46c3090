-- Laws of `Adds` and `Wrote`: nothing fits, some fits, more is added. No contract cites this file.
use Prim.Native.Nat.{ℕ, zero, suc, ◌+◌, ◌-◌, ◌≤◌, min}
use native.Mathlib.Nat.{zero-min, min-zero, add-zero, sub-zero, zero-sub, suc-sub-suc, zero-add}
use native.Mathlib.Decide.{dec_le}
use native.Mathlib.Omega.{arith}
use mathlib.Core.Path.{◌≡◌, refl, sym, ◌∙◌}
use mathlib.Core.List.{List, [], ◌∷◌, ◌++◌}
use lib.ListN.{length, take, drop, length-append, length-take}
use lib.Seq.{take_all, take-nil, take_at}
use Rattle.slices.specs.Parts.{put}
use Rattle.slices.proofs.Laws.{put_nil, put_more, length_put, take_fits}
use Rattle.text_digits.specs.declared.Output.{Output}
use Rattle.text_digits.specs.Output.{Adds, Wrote}

-- there is no room
pub adds_none : {out : List ℕ} {at : ℕ} {text : List ℕ} → length out ≤ at → Adds out at text at out
adds_none {out} {at} h =
    let none : length out - at ≡ 0 = omega arith in
    record { place = rw (none, zero-min, add-zero); bytes = rw none (sym (put_nil out at)) }

adds_nil : {out : List ℕ} {at : ℕ} → Adds out at [] at out
adds_nil {out} {at} = record { place = rw (min-zero, add-zero); bytes = rw take-nil (sym (put_nil out at)) }

pub adds_fits : {out : List ℕ} {at : ℕ} {text : List ℕ} {n : ℕ} {back : List ℕ} → n ≡ min (length out - at) (length text) → back ≡ put out at (take n text) → Adds out at text (at + n) back
adds_fits e f = record { place = rw e; bytes = f ∙ rw (e, take_fits) }

take_both : (n : ℕ) (a b : List ℕ) → take n (a ++ b) ≡ take n a ++ take (n - length a) b
take_both zero a b = rw zero-sub
take_both (suc n) [] b = rw sub-zero
take_both (suc n) (x ∷ a) b = rw (suc-sub-suc, take_both n a b)

-- a text, and then another where it ended
adds_more : {out : List ℕ} {at : ℕ} {a : List ℕ} {r : ℕ} {x b : List ℕ} {s : ℕ} {y : List ℕ} → Adds out at a r x → Adds x r b s y → Adds out at (a ++ b) s y
adds_more {out} {at} {a} {r} {x} {b} {s} {y} p q = elim (dec_le at (length out)) [
  | yes h ↦
      let room : ℕ = length out - at in
      let fits : length (take room a) ≡ min room (length a) = length-take room a in
      let long : length x ≡ length out = rw p.bytes (length_put out at (take room a) (omega (arith, h))) in
      let left : length x - r ≡ room - length a = omega (arith, h, p.place) in
      let place : r ≡ at + length (take room a) = p.place ∙ rw fits in
      let both : length (a ++ b) ≡ length a + length b = length-append a b in
      record {
        place = rw both (omega (arith, h, p.place, q.place));
        bytes = q.bytes ∙ rw (left, p.bytes, place, take_both room a b) (put_more out at (take room a) (take (room - length a) b) h);
      }
  | no h ↦
      let none : length out - at ≡ 0 = omega (arith, h) in
      let same : x ≡ out = p.bytes ∙ rw none (put_nil out at) in
      let here : r ≡ at = omega (arith, h, p.place) in
      let still : y ≡ out = q.bytes ∙ rw (same, here, none) (put_nil out at) in
      let there : s ≡ at = q.place ∙ rw (same, here, none, zero-min, add-zero) in
      rw (there, still) (adds_none (omega (arith, h)))
]

-- the same of an `Output`

pub wrote_nil : {o : Output} → Wrote o [] o
wrote_nil = record { same_reference = refl; added = adds_nil }

infixl 20 ◌then◌
pub ◌then◌ : {o p q : Output} {a b : List ℕ} → Wrote o a p → Wrote p b q → Wrote o (a ++ b) q
◌then◌ v w = record { same_reference = w.same_reference ∙ v.same_reference; added = adds_more v.added w.added }

-- all of a text fits, from the front on
pub wrote_whole : {o p : Output} {text : List ℕ} → Wrote o text p → o.at ≡ 0 → length text ≤ length o.bytes.now → (take p.at p.bytes.now ≡ text) × (p.at ≤ length p.bytes.now)
unfolding put
wrote_whole {o} {p} {text} w e h =
    let room : length o.bytes.now - o.at ≡ length o.bytes.now = omega arith in
    let long : p.at ≡ length text = omega (arith, w.added) in
    let bytes : p.bytes.now ≡ text ++ drop (length text) o.bytes.now = w.added.bytes ∙ rw (room, take_all (length o.bytes.now) text h, e) (rw zero-add) in
    (rw bytes (take_at text _ p.at (sym long)), rw (bytes, length-append) (omega arith))

-- what was added from the front on, said of what was lent and of what came back
pub wrote_front : {out back text : List ℕ} {o p : Output} → o.bytes.now ≡ out → o.at ≡ 0 → Wrote o text p → back ≡ p.bytes.now → Adds out 0 text p.at back
wrote_front e f w h =
    let a = rw (e, f) at w.added in
    record { place = a.place; bytes = h ∙ a.bytes }
