-- Laws of cause 8's rule for the entries of a map. No contract cites this file.
--     bad_unused                an UNUSED one is not bad
--     Met, met_none             the buckets of the entries before i: where one has no mark no entry of it was
use Prim.Native.Nat.{ℕ, ◌%◌, ◌<◌}
use mathlib.Core.Path.{◌≡◌, sym, ◌∙◌}
use mathlib.Core.Bool.{Bool, true, false, true≢false}
use mathlib.Core.List.{List}
use native.Mathlib.Omega.{arith}
use lib.ListN.{get_or}
use borrow.Author.Tests.{ne_eqb}
use Rattle.std.proofs.lemmas.Grind.{common_steps}
use Rattle.numbers.specs.Choice.{◌=?◌}
use Rattle.numbers.specs.Lowest.{any}
use Rattle.numbers.proofs.Lowest.{any_none}
use Rattle.model.specs.Names.{UNUSED}
use Rattle.model.specs.Alternates.{entry_at, bad_entry}

pub bad_unused : (map : List ℕ) (alternates primaries i : ℕ) → entry_at map i ≡ UNUSED → bad_entry map alternates primaries i ≡ false
bad_unused map alternates primaries i u = grind (arith, common_steps)

-- each entry before i was met: its bucket has a mark
abbrev pub Met : List ℕ → ℕ → List Bool → Type 0
Met map i met = (k : ℕ) → k < i → get_or met (entry_at map k % 256) false ≡ true

pub met_none : (map : List ℕ) (i : ℕ) (met : List Bool) (e : ℕ) → Met map i met → get_or met (e % 256) false ≡ false → any (λ j. entry_at map j =? e) i ≡ false
met_none map i met e m h = any_none (λ j. entry_at map j =? e) i (λ k b. ne_eqb (entry_at map k) e (λ z. true≢false (sym (m k b) ∙ rw z h)))
