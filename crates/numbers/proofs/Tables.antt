-- A table is its rule written out: one comparison that antt computes, and what it says of each entry. For any type of entry.
--     values      f i, f (i + 1), .., n of them
--     table_at    entry k of a table that is the values of f is f k
--     same_upto   two functions with the same first n values agree below n
-- No contract cites this file.
use Prim.Native.Nat.{ℕ, zero, suc, ◌+◌, ◌<◌}
use mathlib.Core.Path.{◌≡◌, refl, sym, ap, ◌∙◌}
use mathlib.Core.List.{List, [], ◌∷◌}
use native.Mathlib.Nat.{add-zero, zero-add, add-suc, suc-add, le_of_suc-le-suc, not-suc-le-zero}
use lib.ListN.{get_or}

abbrev pub values : {A : Type 0} → (ℕ → A) → ℕ → ℕ → List A
values f i zero = []
values f i (suc n) = f i ∷ values f (suc i) n

value_at : {A : Type 0} (f : ℕ → A) (d : A) (n i k : ℕ) → k < n → get_or (values f i n) k d ≡ f (i + k)
value_at f d zero i k h = absurd (not-suc-le-zero h)
value_at f d (suc n) i zero h = ap f (sym (add-zero i))
value_at f d (suc n) i (suc k) h = value_at f d n (suc i) k (le_of_suc-le-suc h) ∙ ap f (suc-add i k ∙ sym (add-suc i k))

-- use: `table_at f d n table refl k h`, where antt computes the values and compares them with the table
pub table_at : {A : Type 0} (f : ℕ → A) (d : A) (n : ℕ) (table : List A) → table ≡ values f 0 n → (k : ℕ) → k < n → get_or table k d ≡ f k
table_at {A} f d n table e k h = ap (λ (l : List A). get_or l k d) e ∙ value_at f d n 0 k h ∙ ap f (zero-add k)

-- use: `same_upto f g n refl k h`
pub same_upto : {A : Type 0} (f g : ℕ → A) (n : ℕ) → values f 0 n ≡ values g 0 n → (k : ℕ) → k < n → f k ≡ g k
same_upto f g n e k h = sym (table_at f (f 0) n (values g 0 n) (sym e) k h) ∙ table_at g (f 0) n (values g 0 n) refl k h
