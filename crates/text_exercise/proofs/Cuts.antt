-- An input may be cut after 4,096 bytes: what is printed for it stays. No contract cites this file; the program relies on it.
use Prim.Native.Nat.{ℕ}
use mathlib.Core.Path.{◌≡◌, refl, ap}
use mathlib.Core.List.{List}
use lib.Dec.{eqb}
use lib.ListN.{take}
use lib.Seq.{take_all}
use borrow.Author.Tests.{eqb-true}
use Rattle.numbers.proofs.Choice.{pick_both}
use Rattle.text_output.specs.Printout.{printout}
use Rattle.text_input.specs.Input.{lines, wrong_line, exercise_in}
use Rattle.text_input.proofs.Cuts.{wrong_cut, right_fits}
use Rattle.text_exercise.specs.Exercise.{exercised, exercise}

pub cut_input : (input : List ℕ) → exercise (take 4096 input) ≡ exercise input
unfolding exercise
cut_input input =
    rw (wrong_cut input)
    (pick_both (λ (x y : List ℕ). x ≡ y) (eqb (wrong_line input) 0) _ _ _ _ (λ e. ap (λ (x : List ℕ). printout (exercised (exercise_in (lines x)))) (take_all 4096 input (right_fits input (eqb-true _ _ e)))) (λ _. refl))
