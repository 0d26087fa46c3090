-- Demand 2, of every cause: "Given exactly when" (01, Causes), as a statement about a table and the cause that is given by it.
--     Failed         no rule of a table holds
--     absent         a table has no line for this cause
--     once           no cause stands twice in a table, and none is 0
--     GivenExactly   each line's cause is given exactly where its rule holds and no rule before it does; 0 exactly where no
--                    rule holds; and nothing else
-- `absent` and `once` are tests that antt computes. `proofs/Exactly.antt` proves it of a command, of the call and of the
-- call from C. Assumes nothing.
use Rattle.std.specs.Prelude.{ℕ, ◌≡◌, ◌↔◌, Bool, true, false, not, ◌&&◌, List, [], ◌∷◌, ◌++◌}
use Rattle.numbers.specs.Choice.{◌=?◌}
use Rattle.model.specs.Rules.{Rule}

abbrev pub Failed : List Rule → Type 0
Failed [] = Unit {0}
Failed (r ∷ rs) = (r.holds ≡ false) × Failed rs

abbrev pub absent : ℕ → List Rule → Bool
absent w [] = true
absent w (r ∷ rs) = not (r.cause =? w) && absent w rs

abbrev pub once : List Rule → Bool
once [] = true
once (r ∷ rs) = not (r.cause =? 0) && (absent r.cause rs && once rs)

-- a table is read as a front, one line and a back: every line is one such
pub record GivenExactly (table : List Rule) (given : ℕ) : Type 0 where
  pub line : (front : List Rule) (r : Rule) (back : List Rule) → table ≡ front ++ (r ∷ back) → given ≡ r.cause ↔ (Failed front × (r.holds ≡ true))
  pub none : given ≡ 0 ↔ Failed table
  pub listed : absent given table ≡ true → given ≡ 0
