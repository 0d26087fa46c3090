-- What is found of the alternates of a device.
--     Found   the lowest that is looked for, or none, where the definition's number of it is that of all of them; no two are
--             (`found_unique` in `proofs/Found.antt`)
-- Assumes nothing.
use Rattle.std.specs.Prelude.{ℕ, ◌≡◌, ◌<◌, Option, MatchOption}

abbrev pub Found : ℕ → ℕ → Option ℕ → Type 0
Found alternates lowest found = MatchOption found (lowest ≡ alternates) (λ i. (i ≡ lowest) × (i < alternates))
