-- The chains of a buffer, one by one.
--     chains_none, chains_short, chains_next
--                    nothing is left, too little for a chain, and a chain before others
--     right_end, wrong_short, wrong_room, wrong_next
--                    cause 7's rule, by the first chain and those that follow
--     mark_next      a class that is right: its first chain is marked, then those that follow
--     class_refused, class_right
--                    a class that cause 7 refuses: nothing is written; and one that it does not
-- No contract cites this file.
use Prim.Native.Nat.{ℕ, zero, suc, ◌+◌, ◌-◌, ◌≤◌, ◌<◌}
use native.Mathlib.Omega.{arith}
use mathlib.Core.Path.{◌≡◌, refl, sym, ap, ◌∙◌}
use mathlib.Core.Bool.{Bool, true, false, false≢true}
use mathlib.Core.Option.{Option, none, some, map, get_or}
use mathlib.Core.List.{List, [], ◌∷◌}
use lib.ListN.{length, take, drop, length-drop}
use borrow.Author.Tests.{eqb-false, eq-eqb, ne_eqb, ltb-true, ltb-false, lt-ltb, le-ltb}
use Rattle.numbers.specs.Big.{be2}
use Rattle.numbers.specs.Choice.{◌<?◌, ◌=?◌, pick}
use Rattle.numbers.proofs.Choice.{pick_both, pick_true, pick_false}
use Rattle.slices.specs.Parts.{part}
use Rattle.slices.proofs.Laws.{length_part}
use Rattle.model.specs.declared.device.Device.{Device}
use Rattle.model.specs.Host.{result_of}
use Rattle.model.specs.Class.{length_size, chains_from, chains_in, result_size, results_of, behind, mark_of, mark_each_of, bad_class, run_class_of}

-- the first chain of a buffer, what it takes with its length, and what follows it

abbrev pub first_length : List ℕ → ℕ
first_length bytes = be2 bytes 0

abbrev pub first_chain : List ℕ → List ℕ
first_chain bytes = part bytes length_size (first_length bytes)

abbrev pub first_taken : List ℕ → ℕ
first_taken bytes = length_size + first_length bytes

abbrev pub others : List ℕ → List ℕ
others bytes = drop (first_taken bytes) bytes

-- as many as the bytes are enough
chains_enough : (n m : ℕ) (bytes : List ℕ) → length bytes ≤ n → length bytes ≤ m → chains_from n bytes ≡ chains_from m bytes
unfolding chains_from
chains_enough zero zero bytes h k = refl
chains_enough zero (suc m) bytes h k =
    let e : length bytes ≡ 0 = omega arith in
    sym (pick_true _ _ _ (eq-eqb _ _ e))
chains_enough (suc n) zero bytes h k =
    let e : length bytes ≡ 0 = omega arith in
    pick_true _ _ _ (eq-eqb _ _ e)
chains_enough (suc n) (suc m) bytes h k =
    pick_both ◌≡◌ (length bytes =? 0) _ _ _ _ (λ _. refl)
    (λ e. pick_both ◌≡◌ (length bytes <? first_taken bytes) _ _ _ _ (λ _. refl)
    (λ f. ap (map (λ chains. first_chain bytes ∷ chains))
    (let some_left : length bytes ≡ 0 → ⊥ = eqb-false _ _ e in
    let shorter : length (others bytes) ≡ length bytes - first_taken bytes = length-drop _ bytes in
    chains_enough n m (others bytes) (omega (arith, some_left, shorter)) (omega (arith, some_left, shorter)))))

module _ (bytes : List ℕ) where
  pub chains_none : length bytes ≡ 0 → chains_in bytes ≡ some []
  unfolding chains_in chains_from
  chains_none e = rw e

  opened : (n : ℕ) → length bytes ≡ suc n
      → chains_in bytes ≡ pick (length bytes <? first_taken bytes) none (map (λ chains. first_chain bytes ∷ chains) (chains_in (others bytes)))
  unfolding chains_in chains_from
  opened n e =
      let some_left : length bytes ≡ 0 → ⊥ = λ z. omega arith in
      let shorter : length (others bytes) ≡ length bytes - first_taken bytes = length-drop _ bytes in
      chains_enough (length bytes) (suc n) bytes (omega arith) (omega arith)
      ∙ pick_false _ _ _ (ne_eqb _ _ some_left)
      ∙ ap (λ (o : Option (List (List ℕ))). pick (length bytes <? first_taken bytes) none (map (λ chains. first_chain bytes ∷ chains) o))
      (chains_enough n (length (others bytes)) (others bytes) (omega (arith, shorter)) (omega arith))

  pub chains_short : 0 < length bytes → length bytes < first_taken bytes → chains_in bytes ≡ none
  chains_short some_left h = opened (length bytes - 1) (omega arith) ∙ pick_true _ _ _ (lt-ltb _ _ h)

  pub chains_next : 0 < length bytes → first_taken bytes ≤ length bytes → chains_in bytes ≡ map (λ chains. first_chain bytes ∷ chains) (chains_in (others bytes))
  chains_next some_left h = opened (length bytes - 1) (omega arith) ∙ pick_false _ _ _ (le-ltb _ _ h)

  first_length_lem : first_taken bytes ≤ length bytes → length (first_chain bytes) ≡ first_length bytes
  first_length_lem h = length_part bytes length_size (first_length bytes) h

-- cause 7's rule, of a chain before others

less_after : (n size more : ℕ) → size ≤ n → (n <? size + more) ≡ (n - size <? more)
less_after n size more h = go (n - size <? more) refl
  where
    go : (b : Bool) → (n - size <? more) ≡ b → (n <? size + more) ≡ b
    go true e =
        let k : n < size + more = omega (arith, ltb-true (n - size) more e) in
        lt-ltb _ _ k
    go false e =
        let k : size + more ≤ n = omega (arith, ltb-false (n - size) more e) in
        le-ltb _ _ k

module _ (chain : List ℕ) (lent : ℕ) where
  abbrev first : List (List ℕ) → List (List ℕ)
  first chains = chain ∷ chains

  room_next : (o : Option (List (List ℕ))) → result_size (length chain) ≤ lent → bad_class (map first o) lent ≡ bad_class o (lent - result_size (length chain))
  unfolding bad_class results_of
  room_next none h = refl
  room_next (some chains) h = less_after lent (result_size (length chain)) (results_of chains) h

  room_short : (o : Option (List (List ℕ))) → lent < result_size (length chain) → bad_class (map first o) lent ≡ true
  unfolding bad_class results_of
  room_short none h = refl
  room_short (some chains) h =
      let more : lent < result_size (length chain) + results_of chains = omega arith in
      lt-ltb _ _ more

module _ (bytes : List ℕ) (lent : ℕ) where
  pub right_end : length bytes ≡ 0 → bad_class (chains_in bytes) lent ≡ false
  unfolding bad_class results_of
  right_end e = rw (chains_none bytes e) (le-ltb lent 0 (omega arith))

  pub wrong_short : 0 < length bytes → length bytes < first_taken bytes → bad_class (chains_in bytes) lent ≡ true
  unfolding bad_class
  wrong_short some_left h = rw (chains_short bytes some_left h)

  module _ (some_left : 0 < length bytes) (there : first_taken bytes ≤ length bytes) where
    pub wrong_room : lent < result_size (first_length bytes) → bad_class (chains_in bytes) lent ≡ true
    wrong_room h = rw (chains_next bytes some_left there) (room_short (first_chain bytes) lent (chains_in (others bytes)) (rw (first_length_lem bytes there) h))

    pub wrong_next : result_size (first_length bytes) ≤ lent → bad_class (chains_in bytes) lent ≡ bad_class (chains_in (others bytes)) (lent - result_size (first_length bytes))
    wrong_next h =
        let long = first_length_lem bytes there in
        let next = room_next (first_chain bytes) lent (chains_in (others bytes)) (rw long h) in
        rw (chains_next bytes some_left there) (rw long at next)

-- where the rule does not hold there are chains, and one before them is the first
right_chains : (chain : List ℕ) (lent : ℕ) (o : Option (List (List ℕ))) → bad_class o lent ≡ false → get_or (map (λ chains. chain ∷ chains) o) [] ≡ chain ∷ get_or o []
unfolding bad_class
right_chains chain lent none e = absurd (false≢true (sym e))
right_chains chain lent (some chains) e = refl

-- a class that is right, with a chain or more
pub record FirstIn (bytes : List ℕ) (lent : ℕ) : Type 0 where
  pub there : first_taken bytes ≤ length bytes
  pub room : result_size (first_length bytes) ≤ lent
  pub right : bad_class (chains_in (others bytes)) (lent - result_size (first_length bytes)) ≡ false

module _ (bytes : List ℕ) (lent : ℕ) (some_left : 0 < length bytes) (right : bad_class (chains_in bytes) lent ≡ false) where
  -- whatever would make the class wrong does not hold
  no_less : (n m : ℕ) → (n < m → bad_class (chains_in bytes) lent ≡ true) → m ≤ n
  no_less n m wrong = go (n <? m) refl
    where
      go : (b : Bool) → (n <? m) ≡ b → m ≤ n
      go true e = absurd (false≢true (sym right ∙ wrong (ltb-true n m e)))
      go false e = ltb-false n m e

  first_there : first_taken bytes ≤ length bytes
  first_there = no_less (length bytes) (first_taken bytes) (wrong_short bytes lent some_left)

  first_room : result_size (first_length bytes) ≤ lent
  first_room = no_less lent (result_size (first_length bytes)) (wrong_room bytes lent some_left first_there)

  pub right_first : FirstIn bytes lent
  right_first = record { there = first_there; room = first_room; right = sym (wrong_next bytes lent some_left first_there first_room) ∙ right }

  pub mark_next : (dev : Device) (main store unit results : List ℕ) →
      let m = mark_of dev (first_chain bytes) main store unit (take (result_size (first_length bytes)) results) in
      mark_each_of dev (get_or (chains_in bytes) []) main store unit results
      ≡ behind m.results (mark_each_of dev (get_or (chains_in (others bytes)) []) m.main m.store m.unit (drop (result_size (first_length bytes)) results))
  unfolding mark_each_of
  mark_next dev main store unit results = rw (chains_next bytes some_left first_there, right_chains (first_chain bytes) _ (chains_in (others bytes)) right_first.right, first_length_lem bytes first_there)

-- the call

module _ (dev : Device) (bytes main store unit results : List ℕ) where
  pub class_refused : bad_class (chains_in bytes) (length results) ≡ true
      → run_class_of dev bytes main store unit results ≡ record { result = result_of 7 0; left = record { main = main; store = store; unit = unit; results = results } }
  unfolding run_class_of
  class_refused e = pick_true _ _ _ e

  pub class_right : bad_class (chains_in bytes) (length results) ≡ false
      → run_class_of dev bytes main store unit results ≡ record { result = result_of 0 0; left = mark_each_of dev (get_or (chains_in bytes) []) main store unit results }
  unfolding run_class_of
  class_right e = pick_false _ _ _ e
