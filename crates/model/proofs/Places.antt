-- Where the bytes of a data area stand, for demand 3 (`place_of` in specs/Moved.antt).
--     get_gathered    byte k of what is gathered is the byte at its place
--     parameter_at    so it is of the sixteen bytes of a DEFINE EXTENT that lie in main storage
--     parameters_same they are the same in a main storage that has the same at their places
-- No contract cites this file.
use Prim.Native.Nat.{ℕ, ◌+◌, ◌-◌, ◌≤◌, ◌<◌}
use mathlib.Core.Path.{◌≡◌, refl, sym, ap, ◌∙◌}
use mathlib.Core.List.{List, [], ◌∷◌, ◌++◌, append-nil}
use lib.ListN.{length, get_or, take, length-append, length-take, length-drop, get_or-append, get_or-eq_default}
use lib.Seq.{ext_get_or, get_or-take, get_or-append-add}
use native.Mathlib.Omega.{arith}
use borrow.Author.Tests.{lt-ltb, le-ltb, ltb-true, ltb-false}
use Rattle.numbers.specs.Choice.{◌<?◌, pick}
use Rattle.numbers.proofs.Choice.{pick_ind, pick_true, pick_false}
use Rattle.slices.specs.Parts.{part}
use Rattle.slices.proofs.Laws.{part_length, get_part, by_place}
use Rattle.model.specs.declared.ccw.Piece.{Piece}
use Rattle.model.specs.Pieces.{Command, pieces, counts, total, bytes_in, fetched}
use Rattle.model.specs.Parameters.{extent_length}
use Rattle.model.specs.Moved.{place_in, place_of, ParametersLie}

place_here : (p : Piece) (qs : List Piece) (k : ℕ) → k < p.count → place_in p qs k ≡ p.address + k
unfolding place_in
place_here p [] k h = refl
place_here p (q ∷ qs) k h = pick_true _ _ _ (lt-ltb _ _ h)

place_later : (p q : Piece) (qs : List Piece) (k : ℕ) → place_in p (q ∷ qs) (p.count + k) ≡ place_in q qs k
unfolding place_in
place_later p q qs k =
    let e : p.count + k - p.count ≡ k = omega arith in
    pick_false (p.count + k <? p.count) (p.address + (p.count + k)) (place_in q qs (p.count + k - p.count)) (le-ltb (p.count + k) p.count (omega arith)) ∙ ap (place_in q qs) e

-- a piece whose bytes are all among the first n lies in main storage, if those do
whole_piece : (p : Piece) (qs : List Piece) (main : List ℕ) (n : ℕ) → ((j : ℕ) → j < n → place_in p qs j < length main) → p.count ≤ n → length (part main p.address p.count) ≡ p.count
whole_piece p qs main n lie h =
    let long = part_length main p.address p.count in
    by_place _ 0 p.count 1
    (λ some.
    let last : place_in p qs (p.count - 1) ≡ p.address + (p.count - 1) = place_here p qs (p.count - 1) (omega arith) in
    omega (arith, long, last, lie (p.count - 1) (omega arith)))
    (λ j b e. omega (arith, long, e))
    (λ none. omega (arith, long))

pub get_gathered : (p : Piece) (qs : List Piece) (main : List ℕ) (n k : ℕ) → ((j : ℕ) → j < n → place_in p qs j < length main) → k < n → k < counts (p ∷ qs)
    → get_or (bytes_in (p ∷ qs) main) k 0 ≡ get_or main (place_in p qs k) 0
unfolding bytes_in counts place_in
get_gathered p [] main n k lie b m = rw append-nil (get_part main p.address p.count k (omega arith))
get_gathered p (q ∷ qs) main n k lie b m =
    let front : List ℕ = part main p.address p.count in
    by_place (get_or (bytes_in (p ∷ q ∷ qs) main) k 0 ≡ get_or main (place_in p (q ∷ qs) k) 0) k p.count (k + 1)
    (λ h.
    let here = place_here p (q ∷ qs) k h in
    let inside : k < length front = inside_part main p.address p.count k h (omega (arith, here, lie k b)) in
    rw here (get_or-append front (bytes_in (q ∷ qs) main) 0 k inside ∙ get_part main p.address p.count k h))
    (λ j h e.
    let long = whole_piece p (q ∷ qs) main n lie (omega (arith, e, b)) in
    let later : (i : ℕ) → i < n - p.count → place_in q qs i < length main = λ i l. rw (← (place_later p q qs i)) (lie (p.count + i) (omega arith)) in
    rw (e, place_later p q qs j)
    (ap (λ (i : ℕ). get_or (front ++ bytes_in (q ∷ qs) main) (i + j) 0) (sym long) ∙ get_or-append-add front (bytes_in (q ∷ qs) main) j 0
    ∙ get_gathered q qs main (n - p.count) j later (omega (arith, e, b)) (omega (arith, e, m))))
    (λ h. absurd (omega arith))
  where
    inside_part : (l : List ℕ) (at n k : ℕ) → k < n → at + k < length l → k < length (part l at n)
    inside_part l at n k h g = rw (part_length l at n) (omega arith)

short_gathered : (ps : List Piece) (main : List ℕ) → length (bytes_in ps main) ≤ counts ps
unfolding bytes_in counts part
short_gathered [] main = omega arith
short_gathered (p ∷ ps) main = rw (length-append, length-take) (omega (arith, short_gathered ps main))

long_gathered : (ps : List Piece) (m m' : List ℕ) → length m ≡ length m' → length (bytes_in ps m) ≡ length (bytes_in ps m')
unfolding bytes_in part
long_gathered [] m m' e = refl
long_gathered (p ∷ ps) m m' e = rw (length-append, length-append, length-take, length-take, length-drop, length-drop, e, long_gathered ps m m' e) refl

-- byte i of the sixteen
pub parameter_at : (c : Command) (main : List ℕ) (i : ℕ) → ParametersLie c main → i < extent_length → get_or (fetched c main extent_length) i 0 ≡ pick (i <? total c) (get_or main (place_of c i) 0) 0
unfolding fetched
parameter_at c main i lie b =
    let all : List ℕ = bytes_in (pieces c) main in
    get_or-take extent_length all i 0 b
    ∙ pick_ind (λ (n : ℕ). get_or all i 0 ≡ n) (i <? total c) _ _
    (λ h. get_gathered c.first c.later main extent_length i lie b (ltb-true _ _ h))
    (λ h. get_or-eq_default all 0 (omega (arith, short_gathered (pieces c) main, ltb-false i (total c) h)))

pub parameters_same : (c : Command) (m m' : List ℕ) → length m ≡ length m' → ParametersLie c m → ((k : ℕ) → k < extent_length → get_or m (place_of c k) 0 ≡ get_or m' (place_of c k) 0)
    → fetched c m extent_length ≡ fetched c m' extent_length
unfolding fetched
parameters_same c m m' e lie same =
    let lie' : ParametersLie c m' = λ k b. rw (← e) (lie k b) in
    let long : length (take extent_length (bytes_in (pieces c) m)) ≡ length (take extent_length (bytes_in (pieces c) m')) = rw (length-take, length-take, long_gathered (pieces c) m m' e) refl in
    ext_get_or 0 _ _ long (λ i b.
    let h : i < extent_length = few (bytes_in (pieces c) m) i b in
    parameter_at c m i lie h ∙ ap (λ (x : ℕ). pick (i <? total c) x 0) (same i h) ∙ sym (parameter_at c m' i lie' h))
  where
    few : (l : List ℕ) (i : ℕ) → i < length (take extent_length l) → i < extent_length
    few l i b = omega (arith, rw length-take at b)
