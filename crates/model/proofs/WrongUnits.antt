-- Document 01, How far a promise reaches: the units that demand 2 shuts out. Each differs from the definition on an input.
--     refuses_all      refuses every chain
--     ends_all         answers 0C to all
--     idle             touches no buffer
--     first_only       runs the first command, and only writes answers for the later ones
--     invents_blocks, invents_counts  invents blocks moved, or log counts
-- Each but the first is right in all else, so that only what its name says is told apart. Assumes nothing.
use Prim.Native.Nat.{ℕ, zero, suc, ◌+◌, ◌*◌}
use mathlib.Core.Path.{◌≡◌, refl, sym, ap, ◌∙◌}
use mathlib.Core.Bool.{Bool, true, false, not, ◌&&◌, false≢true}
use mathlib.Core.List.{List, [], ◌∷◌, ◌++◌}
use lib.Dec.{eqb}
use lib.ListN.{replicate}
use borrow.Author.Tests.{eq-eqb, not-true}
use Rattle.slices.specs.Parts.{put}
use Rattle.model.specs.Names.{NO_OPERATION, SENSE_TYPE}
use Rattle.model.specs.Lent.{record_bytes}
use Rattle.model.specs.Log.{movement_counted}
use Rattle.model.specs.Chain.{system, run, start, Called, class_a}
use Rattle.numbers.proofs.Joined.{both_true}
use Rattle.model.proofs.Opened.{opened}
use Rattle.model.proofs.Inputs.{Lent, lent, the_unit, ccw}

-- wrong units

refuses_all : Lent → Called
refuses_all l = record { cause = 1; reached = 0; unit = l.unit; map = l.map; main = l.main; store = l.store; answers = l.answers }

-- the answers with one byte set in each of the first n
marked : ℕ → ℕ → ℕ → List ℕ → List ℕ
marked at byte zero answers = answers
marked at byte (suc n) answers = put (marked at byte n answers) (n * 8 + at) (byte ∷ [])

with_answers : Called → List ℕ → Called
with_answers r answers = record { cause = r.cause; reached = r.reached; unit = r.unit; map = r.map; main = r.main; store = r.store; answers = answers }

ends_all : Lent → Called
ends_all l = let r = the_unit l in with_answers r (marked 0 0x0C r.reached r.answers)

idle : Lent → Called
idle l = let r = the_unit l in record { cause = r.cause; reached = r.reached; unit = l.unit; map = l.map; main = l.main; store = l.store; answers = l.answers }

first_only : Lent → Called
first_only l =
    let r = the_unit l in
    let y = run (class_a l.alternates) l.chain 1 0 (system (start l.unit l.map) l.main l.store l.answers 0) in
    record { cause = r.cause; reached = r.reached; unit = y.state.unit; map = y.state.map; main = y.main; store = y.store; answers = r.answers }

invents_blocks : Lent → Called
invents_blocks l = let r = the_unit l in with_answers r (marked 7 1 r.reached r.answers)

invents_counts : Lent → Called
invents_counts l =
    let r = the_unit l in
    record { cause = r.cause; reached = r.reached; unit = movement_counted r.unit; map = r.map; main = r.main; store = r.store; answers = r.answers }

-- each with an input on which it is seen to be wrong

pub record Wrong : Type 0 where
  pub unit : Lent → Called
  pub input : Lent

abbrev invalid : Lent
invalid = lent 1 (ccw 0x07 0 0x00 1) (0 ∷ [])

abbrev one_command : Lent
one_command = lent 1 (ccw NO_OPERATION 0 0x00 1) []

abbrev two_commands : Lent
two_commands = lent 1 (ccw NO_OPERATION 0 0x40 1 ++ ccw SENSE_TYPE 0 0x00 7) (replicate 7 0)

pub wrongs : List Wrong
wrongs =
    record { unit = refuses_all; input = one_command }
    ∷ record { unit = ends_all; input = invalid }
    ∷ record { unit = idle; input = one_command }
    ∷ record { unit = first_only; input = two_commands }
    ∷ record { unit = invents_blocks; input = one_command }
    ∷ record { unit = invents_counts; input = one_command }
    ∷ []

-- told apart: all that a call gives, as one list of numbers

all_given : Called → List ℕ
all_given r = r.cause ∷ r.reached ∷ record_bytes r.unit r.map ++ r.main ++ r.store ++ r.answers

same : List ℕ → List ℕ → Bool
same [] [] = true
same [] (y ∷ ys) = false
same (x ∷ xs) [] = false
same (x ∷ xs) (y ∷ ys) = eqb x y && same xs ys

same_self : (l : List ℕ) → same l l ≡ true
unfolding same
same_self [] = refl
same_self (x ∷ xs) = rw (eq-eqb x x refl, same_self xs)

abbrev pub Differ : List Wrong → Type 0
Differ [] = Unit {0}
Differ (w ∷ ws) = (w.unit w.input ≡ the_unit w.input → ⊥) × Differ ws

apart : List Wrong → Bool
apart [] = true
apart (w ∷ ws) = not (same (all_given (w.unit w.input)) (all_given (the_unit w.input))) && apart ws

apart_differ : (ws : List Wrong) → apart ws ≡ true → Differ ws
unfolding apart
apart_differ [] e = tt
apart_differ (w ∷ ws) e =
    let p = both_true _ _ e in (
      (λ z. false≢true (sym (not-true _ p.0) ∙ ap (λ (r : Called). same (all_given r) (all_given (the_unit w.input))) z ∙ same_self (all_given (the_unit w.input)))),
      apart_differ ws p.1,
    )

pub wrong_units_differ : Differ wrongs
unfolding opened apart same all_given wrongs refuses_all marked with_answers ends_all idle first_only invents_blocks invents_counts
wrong_units_differ = apart_differ wrongs refl
