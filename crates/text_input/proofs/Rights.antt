-- What follows of an input with no wrong line: each line that is looked at is there, and is right. No contract cites this file.
use Prim.Native.Nat.{ℕ, zero, suc, ◌+◌, ◌-◌, ◌≤◌, ◌<◌}
use native.Mathlib.Nat.{add-zero}
use native.Mathlib.Decide.{dec_le}
use native.Mathlib.Omega.{arith}
use mathlib.Core.Path.{◌≡◌, sym}
use mathlib.Core.Bool.{Bool, true, false, false≢true}
use mathlib.Core.List.{List, [], ◌∷◌}
use lib.Dec.{ltb}
use lib.ListN.{length, get_or, drop, drop_of_length-le}
use lib.Seq.{get_or-drop}
use borrow.Author.Tests.{ltb-true, ltb-false, le-ltb, ne_eqb}
use borrow.Rule.Slice.PartMut.{mid_of, put_mid, mid_len}
use Rattle.slices.proofs.Laws.{put_lent_front}
use Rattle.numbers.specs.Choice.{pick}
use Rattle.numbers.proofs.Choice.{pick_ind}
use Rattle.text_input.specs.Input.{Field, lines, blocks, number_of, storage, ccw, bytes_of, hex_line, last_ccw, right_line, wrong_from, wrong_line, chain_in, exercise_in}
use Rattle.text_input.specs.Reads.{held, ReadTo}
use Rattle.text_input.proofs.Values.{length_value, keyed_long, hex_right}
use Rattle.text_input.proofs.Reading.{decoded_length, Goes, goes_more}

-- of lines that are all right

pub missing : (n : ℕ) → 1 ≤ n → n ≤ 5 → wrong_from n [] ≡ 0 → ⊥
unfolding wrong_from pick
missing n h m e = omega (arith, rw (le-ltb 5 n m) at e)

pub all_right : (n : ℕ) (l : List ℕ) (ls : List (List ℕ)) → 1 ≤ n → wrong_from n (l ∷ ls) ≡ 0 → (right_line n l ≡ true) × (wrong_from (n + 1) ls ≡ 0)
unfolding wrong_from
all_right n l ls h e = pick_ind (λ (r : ℕ). r ≡ 0 → (right_line n l ≡ true) × (wrong_from (n + 1) ls ≡ 0)) (right_line n l) (wrong_from (n + 1) ls) n (λ t z. (t, z)) (λ _ z. absurd (omega arith)) e

pub later_right : (i n : ℕ) (ls : List (List ℕ)) → 1 ≤ n → n + i ≤ 5 → wrong_from n ls ≡ 0 → wrong_from (n + i) (drop i ls) ≡ 0
later_right zero n ls h m e = rw add-zero e
later_right (suc i) n [] h m e = absurd (missing n h (omega arith) e)
later_right (suc i) n (l ∷ ls) h m e =
    let next : n + 1 + i ≡ n + suc i = omega arith in
    rw next at (later_right i (n + 1) ls (omega arith) (omega arith) (all_right n l ls h e).1)

-- a line of bytes: its length, and that there are not too many
pub hex_is : (f : Field) (l : List ℕ) → hex_line f l ≡ true
    → (length l ≡ length f.key + (held l (length f.key) + held l (length f.key)) + 1) × (f.least ≤ held l (length f.key)) × (held l (length f.key) ≤ f.most)
hex_is f l e =
    let right = hex_right f l e in
    let long = keyed_long f.key l right.0 in
    let lv = length_value f.key l long in
    (omega (arith, right, lv), omega (arith, right, lv), omega (arith, right, lv))

pub storage_right : (l : List ℕ) → right_line 4 l ≡ true → hex_line storage l ≡ true
unfolding right_line pick
storage_right l e = e

pub ccw_right : (n : ℕ) (l : List ℕ) → right_line (5 + n) l ≡ true → (hex_line ccw l ≡ true) × (n < 32)
unfolding right_line pick
ccw_right n l e =
    pick_ind (λ (r : Bool). r ≡ true → (hex_line ccw l ≡ true) × (n < 32)) (ltb last_ccw (5 + n)) false (hex_line ccw l)
    (λ _ r. absurd (false≢true r))
    (λ f r. (r, omega (arith, ltb-false last_ccw (5 + n) f)))
    (rw (ne_eqb (5 + n) 1 (λ (h : 5 + n ≡ 1). omega arith), ne_eqb (5 + n) 2 (λ (h : 5 + n ≡ 2). omega arith), ne_eqb (5 + n) 3 (λ (h : 5 + n ≡ 3). omega arith), ne_eqb (5 + n) 4 (λ (h : 5 + n ≡ 4). omega arith)) at e)

-- the number of a right line
pub right_number : (n : ℕ) (l : List ℕ) → right_line n l ≡ true → n ≤ 36
right_number n l e = elim (dec_le 5 n) [
  | yes a ↦
      let k : ℕ = n - 5 in
      let nk : n ≡ 5 + k = omega (arith, a) in
      omega (arith, nk, (ccw_right k l (rw nk at e)).1)
  | no a ↦ omega (arith, a)
]

-- the lines of the chain

pub chain_from : (input : List ℕ) → wrong_line input ≡ 0 → wrong_from 5 (drop 4 (lines input)) ≡ 0
unfolding wrong_line
chain_from input e = later_right 4 1 (lines input) (omega arith) (omega arith) e

pub chain_done : (ls : List (List ℕ)) (n : ℕ) → length ls ≤ n → chain_in (drop n ls) ≡ []
unfolding chain_in
chain_done ls n h = rw (drop_of_length-le ls h)

-- the bytes of one more ccw line go after those before
pub chain_more : {first all : List ℕ} (ls rest : List (List ℕ)) (l to : List ℕ) {back : List ℕ} (end : ℕ) {r : ℕ} → ls ≡ l ∷ rest → end ≤ length to → ReadTo (mid_of end (length to - end) to) (bytes_of ccw l) r back
    → Goes first all to end (chain_in ls) → Goes first all (put_mid end (length to - end) to back) (end + r) (chain_in rest)
unfolding chain_in
chain_more ls rest l to {back} end {r} e fits read g =
    let room : length (bytes_of ccw l) ≤ length to - end = omega (arith, read.count, read.fits, mid_len end (length to) to (omega arith)) in
    rw read.count (goes_more (bytes_of ccw l) (chain_in rest) (rw e at g) (put_lent_front to (bytes_of ccw l) back end (length to - end) read.front room (omega (arith, room))) fits)

-- the line of a CCW, and how many there are
pub ccw_is : (ls rest : List (List ℕ)) (l : List ℕ) (n : ℕ) → ls ≡ l ∷ rest → wrong_from (5 + n) ls ≡ 0
    → (hex_line ccw l ≡ true) × (length (bytes_of ccw l) ≡ 8) × (n < 32) × (wrong_from (5 + (n + 1)) rest ≡ 0)
unfolding bytes_of
ccw_is ls rest l n e w =
    let here = all_right (5 + n) l rest (omega arith) (rw e at w) in
    let right = ccw_right n l here.0 in
    let is = hex_right ccw l right.0 in
    let next : 5 + n + 1 ≡ 5 + (n + 1) = omega arith in
    (right.0, rw decoded_length (omega (arith, is)), right.1, rw next at here.1)

-- the line of main storage
storage_first : (ls : List (List ℕ)) → wrong_from 4 ls ≡ 0 → hex_line storage (get_or ls 0 []) ≡ true
storage_first [] e = absurd (missing 4 (omega arith) (omega arith) e)
storage_first (l ∷ ls) e = storage_right l (all_right 4 l ls (omega arith) e).0

pub storage_line : (input : List ℕ) → wrong_line input ≡ 0 → hex_line storage (get_or (lines input) 3 []) ≡ true
unfolding wrong_line
storage_line input e = rw (sym (get_or-drop 3 (lines input) 0 [])) (storage_first (drop 3 (lines input)) (later_right 3 1 (lines input) (omega arith) (omega arith) e))

-- the device of a right input is no larger than it may be
blocks_in : (ls : List (List ℕ)) → wrong_from 1 ls ≡ 0 → (exercise_in ls).settings.blocks ≤ 64
unfolding exercise_in right_line pick
blocks_in [] e = absurd (missing 1 (omega arith) (omega arith) e)
blocks_in (l ∷ ls) e =
    let few : number_of blocks l < 65 = ltb-true _ _ (all_right 1 l ls (omega arith) e).0 in
    omega arith

pub few_blocks : (input : List ℕ) → wrong_line input ≡ 0 → (exercise_in (lines input)).settings.blocks ≤ 64
unfolding wrong_line
few_blocks input e = blocks_in (lines input) e
