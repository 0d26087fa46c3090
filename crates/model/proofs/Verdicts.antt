-- What a verdict tells of its table, and a table of its verdict.
--     first_here, first_later, first_none
--                   a table read line by line: the verdict is here, or in the rest, or there is none
--     first_append  the verdict of one table after another
--     first_same    two tables with one front have one verdict where the rests have
--     failed_upto   a verdict that the front of a table does not give: no rule there holds, and the rest gives it
--     none_given    where no rule holds the verdict is 0
--     never_given   a cause that no line of a table has is not its verdict
--     every_first, every_all
--                   what a test shows of each cause of a table holds of its verdict, if of the rest's, or of 0
--     first_given   the cause of a rule that holds after rules that do not is the verdict
--     line_exactly  the cause of a line is the verdict exactly where its rule holds and no rule before it does
--     exactly       so a table that has no cause twice is given exactly
-- No contract cites this file.
use Prim.Native.Nat.{ℕ}
use mathlib.Core.Path.{◌≡◌, refl, sym, ◌∙◌}
use mathlib.Core.Logic.{◌↔◌}
use mathlib.Core.Bool.{Bool, true, false, not, ◌&&◌}
use mathlib.Core.List.{List, [], ◌∷◌, ◌++◌, append-nil}
use borrow.Author.Tests.{eqb-false, ne_eqb, not-true}
use Rattle.numbers.proofs.Joined.{both_true}
use Rattle.numbers.specs.Choice.{◌=?◌, pick}
use Rattle.model.specs.Rules.{Rule, first_of}
use Rattle.model.specs.Exactly.{Failed, absent, once, GivenExactly}
use Rattle.numbers.proofs.Choice.{pick_ind, pick_both}

pub first_here : (r : Rule) (rs : List Rule) → r.holds ≡ true → first_of (r ∷ rs) ≡ r.cause
unfolding first_of pick
first_here r rs e = rw e

pub first_later : (r : Rule) (rs : List Rule) → r.holds ≡ false → first_of (r ∷ rs) ≡ first_of rs
unfolding first_of pick
first_later r rs e = rw e

pub first_none : first_of [] ≡ 0
unfolding first_of
first_none = refl

-- the first line of a table does not give this verdict: its rule does not hold, and the rest gives it
pub peel : (b : Bool) (k r w : ℕ) → (k ≡ w → ⊥) → pick b k r ≡ w → (b ≡ false) × (r ≡ w)
unfolding pick
peel true k r w n e = absurd (n e)
peel false k r w n e = (refl, e)

pub failed_upto : (w : ℕ) (rs qs : List Rule) → absent w rs ≡ true → first_of (rs ++ qs) ≡ w → Failed rs × (first_of qs ≡ w)
unfolding first_of
failed_upto w [] qs a e = (tt, e)
failed_upto w (r ∷ rs) qs a e =
    let p = both_true _ _ a in
    let f = peel r.holds r.cause (first_of (rs ++ qs)) w (eqb-false _ _ (not-true _ p.0)) e in
    let g = failed_upto w rs qs p.1 f.1 in
    ((f.0, g.0), g.1)

pub failed_all : (w : ℕ) (rs : List Rule) → absent w rs ≡ true → first_of rs ≡ w → Failed rs
failed_all w rs a e = (failed_upto w rs [] a (rw append-nil e)).0

pub first_same : (rs qs ps : List Rule) → (Failed rs → first_of qs ≡ first_of ps) → first_of (rs ++ qs) ≡ first_of (rs ++ ps)
unfolding first_of
first_same [] qs ps h = h tt
first_same (r ∷ rs) qs ps h = pick_both ◌≡◌ r.holds _ _ _ _ (λ _. refl) (λ b. first_same rs qs ps (λ f. h (b, f)))

-- the verdict of one table after another
pub first_append : (rs qs : List Rule) → absent 0 rs ≡ true → first_of (rs ++ qs) ≡ pick (first_of rs =? 0) (first_of qs) (first_of rs)
unfolding first_of pick
first_append [] qs a = refl
first_append (r ∷ rs) qs a =
    let p = both_true _ _ a in
    go r.holds (first_append rs qs p.1) (not-true _ p.0)
  where
    go : (b : Bool) → first_of (rs ++ qs) ≡ pick (first_of rs =? 0) (first_of qs) (first_of rs) → r.cause =? 0 ≡ false
        → pick b r.cause (first_of (rs ++ qs)) ≡ pick (pick b r.cause (first_of rs) =? 0) (first_of qs) (pick b r.cause (first_of rs))
    go true e z = rw z
    go false e z = e

pub none_given : (rs : List Rule) → Failed rs → first_of rs ≡ 0
unfolding first_of pick
none_given [] f = refl
none_given (r ∷ rs) f = rw f.0 (none_given rs f.1)

pub never_given : (w : ℕ) (rs : List Rule) → absent w rs ≡ true → (w ≡ 0 → ⊥) → first_of rs ≡ w → ⊥
unfolding first_of
never_given w rs a n e = n (sym (failed_upto w rs [] a (rw append-nil e)).1)

-- each cause of the table passes a test
abbrev pub every : (ℕ → Bool) → List Rule → Bool
every test [] = true
every test (r ∷ rs) = test r.cause && every test rs

pub every_first : (P : ℕ → Type 0) (test : ℕ → Bool) → ((w : ℕ) → test w ≡ true → P w) → (rs qs : List Rule) → every test rs ≡ true → P (first_of qs) → P (first_of (rs ++ qs))
unfolding first_of
every_first P test shows [] qs e h = h
every_first P test shows (r ∷ rs) qs e h =
    let p = both_true _ _ e in
    pick_ind P _ _ _ (λ _. shows _ p.0) (λ _. every_first P test shows rs qs p.1 h)

pub every_all : (P : ℕ → Type 0) (test : ℕ → Bool) → ((w : ℕ) → test w ≡ true → P w) → (rs : List Rule) → every test rs ≡ true → P 0 → P (first_of rs)
every_all P test shows rs e h = rw append-nil at (every_first P test shows rs [] e (rw first_none h))

first_given : (front back : List Rule) (r : Rule) → Failed front → r.holds ≡ true → first_of (front ++ (r ∷ back)) ≡ r.cause
unfolding first_of pick
first_given [] back r f e = rw e
first_given (q ∷ front) back r f e = rw f.0 (first_given front back r f.1 e)

taken : (t : Bool) (w k : ℕ) → (k ≡ w → ⊥) → pick t w k ≡ w → t ≡ true
unfolding pick
taken true w k n e = refl
taken false w k n e = absurd (n e)

-- a line of a table that has no cause twice: its cause is not 0, and no other line has it
line_absent : (w : ℕ) (front : List Rule) (r : Rule) (back : List Rule) → absent w (front ++ (r ∷ back)) ≡ true → r.cause ≡ w → ⊥
line_absent w [] r back a = eqb-false _ _ (not-true _ (both_true _ _ a).0)
line_absent w (q ∷ front) r back a = line_absent w front r back (both_true (not (q.cause =? w)) _ a).1

once_first : (r : Rule) (rs : List Rule) → once (r ∷ rs) ≡ true → (r.cause =? 0 ≡ false) × (absent r.cause rs ≡ true) × (once rs ≡ true)
once_first r rs o =
    let p = both_true (not (r.cause =? 0)) _ o in
    let q = both_true (absent r.cause rs) _ p.1 in
    (not-true _ p.0, q.0, q.1)

line_once : (front : List Rule) (r : Rule) (back : List Rule) → once (front ++ (r ∷ back)) ≡ true → (r.cause ≡ 0 → ⊥) × (absent r.cause front ≡ true) × (absent r.cause back ≡ true)
line_once [] r back o =
    let p = once_first r back o in
    (eqb-false _ _ p.0, refl, p.1)
line_once (q ∷ front) r back o =
    let p = once_first q (front ++ (r ∷ back)) o in
    let k = line_once front r back p.2 in
    let other : q.cause =? r.cause ≡ false = ne_eqb _ _ (λ e. line_absent q.cause front r back p.1 (sym e)) in
    (k.0, rw other k.1, k.2)

line_exactly : (front : List Rule) (r : Rule) (back : List Rule) → once (front ++ (r ∷ back)) ≡ true
    → first_of (front ++ (r ∷ back)) ≡ r.cause ↔ (Failed front × (r.holds ≡ true))
unfolding first_of
line_exactly front r back o =
    let k = line_once front r back o in (
      (λ e.
          let p = failed_upto r.cause front (r ∷ back) k.1 e in
          (p.0, taken r.holds r.cause (first_of back) (never_given r.cause back k.2 k.0) p.1)),
      λ f. first_given front back r f.0 f.1,
    )

none_once : (rs : List Rule) → once rs ≡ true → absent 0 rs ≡ true
none_once [] o = refl
none_once (r ∷ rs) o =
    let p = once_first r rs o in
    rw p.0 (none_once rs p.2)

pub exactly : (table : List Rule) → once table ≡ true → GivenExactly table (first_of table)
exactly table o = record {
  line = λ front r back e. rw e (line_exactly front r back (rw e at o));
  none = (failed_all 0 table (none_once table o), none_given table);
  listed = λ a. sym (failed_upto (first_of table) table [] a (rw append-nil refl)).1 ∙ first_none;
}
