-- `text_digits::all_digits` meets its contract: `all` asks of each character what the definition asks. Assumes nothing.
use mathlib.Core.Path.{◌≡◌, ◌∙◌, refl}
use mathlib.Core.List.{List}
use Prim.Native.Nat.{ℕ}
use mathlib.Core.Bool.{◌&&◌}
use Rattle.std.specs.List.{list_all}
use Rattle.std.proofs.Common.{rules, tests}
use Rattle.std.proofs.lemmas.Iterator.{YieldsList-from_slice}
use Rattle.std.proofs.lemmas.Iterator.Search.{all_from_yields_List}
use Rattle.std.proofs.lemmas.List.Recursion.{same_from_clauses}
use Rattle.text_digits.specs.Digits.{is_digit, all_digits}
use Rattle.text_digits.proofs.all_digits.Goals as goal

all_is : (text : List ℕ) → list_all is_digit text ≡ all_digits text
unfolding all_digits
all_is text = same_from_clauses (list_all is_digit) all_digits (λ d all. is_digit d && all) refl (λ _ _. refl) (λ _ _. refl) text

pub returns : goal.returns
unfolding is_digit
returns c = all_from_yields_List is_digit _ _ _ c.all.ensures.ran (YieldsList-from_slice c.args.text.now cc) (λ x b q k. search (rules, tests)) ∙ all_is c.args.text.now
