-- Laws of lines: the first of an input, those after it, and that `split_inclusive` gives them. No contract cites this file.
use Prim.Native.Nat.{ℕ, zero, suc, ◌+◌, ◌≤◌, ◌<◌, min}
use native.Mathlib.Omega.{arith}
use mathlib.Core.Path.{◌≡◌, refl, sym, ap, subst, ◌∙◌}
use mathlib.Core.Bool.{Bool, true, false}
use mathlib.Core.List.{List, [], ◌∷◌, ◌++◌}
use native.Mathlib.Numerals.{add-one}
use lib.Dec.{eqb, ltb}
use lib.ListN.{length, get_or, take, drop, drop_of_length-le}
use lib.Seq.{take_at, drop_at, drop-cons}
use Rattle.std.proofs.Common.{Option, Some, None, Bor, MatchOption}
use Rattle.std.specs.Fn.{Called, ComputesKey}
use Rattle.std.specs.Iterator.{Yields, SkipsThenYields}
use Rattle.std.specs.Iterator.Adapters.{skip_source, skip_count, skip_steps}
use Rattle.std.specs.declared.iter.Skip.{Skip}
use Rattle.std.specs.List.{IsFirstMatchOrLen, slice_get}
use Rattle.std.specs.Option.{option_map, unwrap_or}
use Rattle.std.specs.Slice.Iter.{split_inclusive_rest, split_inclusive_callee}
use Rattle.std.specs.declared.slice.SplitInclusive.{SplitInclusive}
use Rattle.std.proofs.lemmas.Iterator.{YieldsList}
use Rattle.std.proofs.lemmas.Iterator.Splits.{YieldsList-from_shown_while}
use Rattle.std.proofs.lemmas.Iterator.Adapters.{YieldsList-from_skip}
use Rattle.std.proofs.lemmas.Iterator.Consumers.{YieldsList-at, YieldsList-turn, YieldsList-end, nth_from_yields_List}
use Rattle.std.proofs.lemmas.List.Sorted.{answers_always}
use denote.Param.Members.{Mut}
use Rattle.numbers.specs.Choice.{pick}
use Rattle.numbers.proofs.Choice.{pick_ind}
use Rattle.text_output.specs.Printout.{line_feed}
use Rattle.text_input.specs.Input.{onto, lines, right_line, wrong_from}
use Rattle.text_input.specs.Reads.{ends_line, line_length}

-- the length of a line

pub line_fits : (input : List ℕ) → line_length input ≤ length input
unfolding line_length
line_fits [] = omega arith
line_fits (c ∷ input) = pick_ind (λ (k : ℕ). k ≤ suc (length input)) _ _ _ (λ _. omega arith) (λ _. omega (arith, line_fits input))

pub some_line : (input : List ℕ) → 0 < length input → 1 ≤ line_length input
unfolding line_length
some_line [] h = absurd (omega arith)
some_line (c ∷ input) h = pick_ind (λ (k : ℕ). 1 ≤ k) _ _ _ (λ _. omega arith) (λ _. omega arith)

-- it ends after the first line feed, or where the input does
feed_at : (l : List ℕ) (i : ℕ) → ((k d : ℕ) → 0 ≤ k → k < i → ends_line (get_or l k d) ≡ false) → (i < length l → (d : ℕ) → ends_line (get_or l i d) ≡ true) → line_length l ≡ min (i + 1) (length l)
unfolding line_length pick
feed_at [] i a b = omega arith
feed_at (c ∷ l) zero a b = rw (b (omega arith) 0) (omega arith)
feed_at (c ∷ l) (suc i) a b = rw (a 0 0 (omega arith) (omega arith)) (omega (arith, feed_at l i (λ k d z h. a (suc k) d (omega arith) (omega arith)) (λ h d. b (omega arith) d)))

-- the first line, and those after it

first_only_lem : (c : ℕ) (b : Bool) → pick b ((c ∷ []) ∷ []) (onto c []) ≡ take (pick b 1 1) (c ∷ []) ∷ lines (drop (pick b 1 1) (c ∷ []))
unfolding pick lines
first_only_lem c true = refl
first_only_lem c false = refl

first_of_more : (c : ℕ) (input : List ℕ) (k : ℕ) (b : Bool) → lines input ≡ take k input ∷ lines (drop k input)
    → pick b ((c ∷ []) ∷ lines input) (onto c (lines input)) ≡ take (pick b 1 (suc k)) (c ∷ input) ∷ lines (drop (pick b 1 (suc k)) (c ∷ input))
unfolding pick
first_of_more c input k true e = refl
first_of_more c input k false e = ap (onto c) e

first_line : (c : ℕ) (input : List ℕ) → lines (c ∷ input) ≡ take (line_length (c ∷ input)) (c ∷ input) ∷ lines (drop (line_length (c ∷ input)) (c ∷ input))
unfolding lines line_length
first_line c [] = first_only_lem c (eqb c line_feed)
first_line c (d ∷ input) = first_of_more c (d ∷ input) (line_length (d ∷ input)) (eqb c line_feed) (first_line d input)

pub cons_lines : (l : List ℕ) → 0 < length l → lines l ≡ take (line_length l) l ∷ lines (drop (line_length l) l)
cons_lines [] h = absurd (omega arith)
cons_lines (c ∷ l) h = first_line c l

no_lines : (l : List ℕ) → length l ≡ 0 → length (lines l) ≡ 0
unfolding lines
no_lines [] h = refl
no_lines (c ∷ l) h = absurd (omega arith)

-- a line that was split off, and what is left
split_off : (l x rest : List ℕ) (i : ℕ) → l ≡ x ++ rest → length x ≡ min (i + 1) (length l) → IsFirstMatchOrLen ends_line l i → 0 < length l → lines l ≡ x ∷ lines rest
split_off l x rest i e h m p =
    let long : line_length l ≡ length x = feed_at l i m.0 m.1 ∙ sym h in
    let front : take (line_length l) l ≡ x = rw (long, e) (take_at x rest (length x) refl) in
    let back : drop (line_length l) l ≡ rest = rw (long, e) (drop_at x rest (length x) refl) in
    rw (front, back) at (cons_lines l p)

-- what `split_inclusive` gives is the lines

module _ {F : Type 0} (g : Mut F (Bor ℕ × Unit {0}) Bool) where
  abbrev Feeds : SplitInclusive ℕ F → Type 0
  Feeds s = ComputesKey g ends_line (split_inclusive_callee s)

  abbrev pub splits : SplitInclusive ℕ F → Option (Bor (List ℕ)) → SplitInclusive ℕ F → Type 0
  splits s r t = MatchOption r ((length (split_inclusive_rest s) ≡ 0) × (t ≡ s))
      (λ x. (split_inclusive_rest s ≡ x.now ++ split_inclusive_rest t)
      × ((i : ℕ) × (length x.now ≡ min (i + 1) (length (split_inclusive_rest s))) × ((p : ℕ → Bool) → ComputesKey g p (split_inclusive_callee s) → ComputesKey g p (split_inclusive_callee t) × IsFirstMatchOrLen p (split_inclusive_rest s) i))
      × (0 < length (split_inclusive_rest s)))

  pub yields_lines : (s : SplitInclusive ℕ F) → ComputesKey g ends_line (split_inclusive_callee s) → YieldsList splits (λ x. x.now) s (lines (split_inclusive_rest s))
  yields_lines s h =
      YieldsList-from_shown_while splits (λ x. x.now) (λ v. lines (split_inclusive_rest v)) Feeds
      (λ v w p e. no_lines (split_inclusive_rest v) e.0)
      (λ v x w p e.
      let at = e.1.2 ends_line p in
      (at.0, split_off (split_inclusive_rest v) x.now (split_inclusive_rest w) e.1.0 e.0 e.1.1 at.1 e.2))
      s h

-- the line at a place, where there may be none

got : (ls : List (List ℕ)) (n : ℕ) → unwrap_or (slice_get ls n) [] ≡ get_or ls n []
got [] n = refl
got (l ∷ ls) zero = refl
got (l ∷ ls) (suc n) = got ls n

got_or : (r : Option (Bor (List ℕ))) (d : Bor (List ℕ)) (ls : List (List ℕ)) (n : ℕ) → option_map (λ x. x.now) r ≡ slice_get ls n → d.now ≡ [] → (unwrap_or r d).now ≡ get_or ls n []
got_or None d ls n e f = f ∙ ap (λ o. unwrap_or o []) e ∙ got ls n
got_or (Some x) d ls n e f = ap (λ o. unwrap_or o []) e ∙ got ls n

-- a line that was given is the first of those that were left
next_line : (ls : List (List ℕ)) (k : ℕ) (l : List ℕ) → (k < length ls) × (l ≡ get_or ls k l) → drop k ls ≡ l ∷ drop (k + 1) ls
next_line ls k l t = drop-cons ls k l t.0 ∙ rw (← t.1, add-one)

-- what a call of `split_inclusive` gives, where each call of its closure answers whether a line ends
abbrev pub Answers : {F : Type 0} → Mut F (Bor ℕ × Unit {0}) Bool → Type 0
Answers {F} g = (f : F) (a : Bor ℕ × Unit {0}) (b : Bool) (h : F) → Called g f a b h → b ≡ ends_line a.0.now

lines_of : {F : Type 0} (g : Mut F (Bor ℕ × Unit {0}) Bool) (s : SplitInclusive ℕ F) (input : List ℕ) → split_inclusive_rest s ≡ input → Answers g → YieldsList (splits g) (λ x. x.now) s (lines input)
lines_of g s input e k = subst (λ (l : List ℕ). YieldsList (splits g) (λ x. x.now) s (lines l)) e (yields_lines g s (answers_always g (λ a b. b ≡ ends_line a.0.now) (split_inclusive_callee s) k))

module _ {F : Type 0} {g : Mut F (Bor ℕ × Unit {0}) Bool} (input : List ℕ) where
  -- by `nth`
  pub given_at : (s u : SplitInclusive ℕ F) (r : Option (Bor (List ℕ))) (n : ℕ) (d : Bor (List ℕ)) → SkipsThenYields (splits g) s n r u → split_inclusive_rest s ≡ input → Answers g → d.now ≡ [] → (unwrap_or r d).now ≡ get_or (lines input) n []
  given_at s u r n d ran f k e = got_or r d (lines input) n (nth_from_yields_List r u n ran (lines_of g s input f k)) e

  -- in a loop: the line of a turn, and that there were no more
  pub given_line : {s v : SplitInclusive ℕ F} (xs : List (Bor (List ℕ))) (t u : SplitInclusive ℕ F) {r : Option (Bor (List ℕ))} {x : Bor (List ℕ)} → Yields (splits g) s xs t → r ≡ Some x → splits g t r u → s ≡ v
      → split_inclusive_rest v ≡ input → Answers g → drop (length xs) (lines input) ≡ x.now ∷ drop (length xs + 1) (lines input)
  given_line {v = v} xs t u {x = x} y is step e f k = next_line (lines input) (length xs) x.now (YieldsList-turn (YieldsList-at e (lines_of g v input f k)) xs t y _ u x is step)

  pub given_all : {s v : SplitInclusive ℕ F} (xs : List (Bor (List ℕ))) (t u : SplitInclusive ℕ F) {r : Option (Bor (List ℕ))} → Yields (splits g) s xs t → r ≡ None → splits g t r u → s ≡ v
      → split_inclusive_rest v ≡ input → Answers g → length xs ≡ length (lines input)
  given_all {v = v} xs t u y is step e f k = (YieldsList-end (YieldsList-at e (lines_of g v input f k)) xs t y _ u is step).1

  -- the same after the first n lines
  pub given_later : (n : ℕ) {s v : Skip (SplitInclusive ℕ F)} {w : SplitInclusive ℕ F} (xs : List (Bor (List ℕ))) (t u : Skip (SplitInclusive ℕ F)) {r : Option (Bor (List ℕ))} {x : Bor (List ℕ)} → Yields (skip_steps (splits g)) s xs t → r ≡ Some x
      → skip_steps (splits g) t r u → s ≡ v → skip_source v ≡ w → skip_count v ≡ n → split_inclusive_rest w ≡ input → Answers g
      → drop (length xs) (drop n (lines input)) ≡ x.now ∷ drop (length xs + 1) (drop n (lines input))
  given_later n {v = v} {w = w} xs t u {x = x} y is step e f c h k =
      next_line (drop n (lines input)) (length xs) x.now (YieldsList-turn (YieldsList-at e (YieldsList-from_skip n (YieldsList-at f (lines_of g w input h k)) c)) xs t y _ u x is step)

  pub given_rest : (n : ℕ) {s v : Skip (SplitInclusive ℕ F)} {w : SplitInclusive ℕ F} (xs : List (Bor (List ℕ))) (t u : Skip (SplitInclusive ℕ F)) {r : Option (Bor (List ℕ))} → Yields (skip_steps (splits g)) s xs t → r ≡ None
      → skip_steps (splits g) t r u → s ≡ v → skip_source v ≡ w → skip_count v ≡ n → split_inclusive_rest w ≡ input → Answers g
      → length xs ≡ length (drop n (lines input))
  given_rest n {v = v} {w = w} xs t u y is step e f c h k = (YieldsList-end (YieldsList-at e (YieldsList-from_skip n (YieldsList-at f (lines_of g w input h k)) c)) xs t y _ u is step).1

-- whether the lines from one on are right

module _ (ls rest : List (List ℕ)) (l : List ℕ) (n all : ℕ) (r : Bool) (e : all ≡ wrong_from n ls) (f : ls ≡ l ∷ rest) (g : r ≡ right_line n l) where
  pub wrong_here : r ≡ false → n ≡ all
  unfolding wrong_from pick
  wrong_here w = sym (e ∙ rw (f, ← g, w))

  pub right_here : r ≡ true → all ≡ wrong_from (n + 1) rest
  unfolding wrong_from pick
  right_here w = e ∙ rw (f, ← g, w)

pub wrong_at_end : (ls : List (List ℕ)) (k n all : ℕ) → all ≡ wrong_from n (drop k ls) → length ls ≤ k → all ≡ pick (ltb 5 n) 0 n
unfolding wrong_from
wrong_at_end ls k n all e h = e ∙ rw (drop_of_length-le ls h)
