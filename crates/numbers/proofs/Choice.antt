-- Laws of tests, and of `pick`: a property of both is one of the one that is picked. No contract cites this file.
use Prim.Native.Nat.{ℕ}
use mathlib.Core.Path.{◌≡◌, refl, sym}
use mathlib.Core.Bool.{Bool, true, false, not}
use lib.Dec.{ltb, leb}
use borrow.Author.Tests.{ltb-true, ltb-false, lt-leb, le-leb}
use Rattle.numbers.specs.Choice.{pick}

pub pick_ind {ℓ} : {A : Type 0} (P : A → Type ℓ) (b : Bool) (x y : A) → (b ≡ true → P x) → (b ≡ false → P y) → P (pick b x y)
unfolding pick
pick_ind P true x y f g = f refl
pick_ind P false x y f g = g refl

pub pick_true : {A : Type 0} (b : Bool) (x y : A) → b ≡ true → pick b x y ≡ x
unfolding pick
pick_true b x y e = rw e

pub pick_false : {A : Type 0} (b : Bool) (x y : A) → b ≡ false → pick b x y ≡ y
unfolding pick
pick_false b x y e = rw e

-- two that are picked by one test
pub pick_both : {A B : Type 0} (P : A → B → Type 0) (b : Bool) (x y : A) (z w : B) → (b ≡ true → P x z) → (b ≡ false → P y w) → P (pick b x y) (pick b z w)
unfolding pick
pick_both P true x y z w f g = f refl
pick_both P false x y z w f g = g refl

-- "not below" is "at most"
pub not_below : (a b : ℕ) → not (ltb a b) ≡ leb b a
not_below a b = go (ltb a b) refl
  where
    go : (t : Bool) → ltb a b ≡ t → not t ≡ leb b a
    go true e = sym (lt-leb b a (ltb-true a b e))
    go false e = sym (le-leb b a (ltb-false a b e))
