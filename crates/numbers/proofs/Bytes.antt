-- Laws of `AreBytes`: lists made of bytes are of bytes. No contract cites this file.
use Prim.Native.Nat.{ℕ, zero, suc, ◌<◌}
use mathlib.Core.Path.{◌≡◌}
use mathlib.Core.Bool.{Bool, true, ◌&&◌}
use mathlib.Core.List.{List, [], ◌∷◌, ◌++◌}
use native.Mathlib.Omega.{arith}
use lib.Dec.{ltb}
use lib.ListN.{get_or, take, drop}
use borrow.Author.Tests.{ltb-true}
use Rattle.numbers.specs.Bytes.{AreBytes}
use Rattle.numbers.proofs.Joined.{both_true}

pub bytes_nil : AreBytes []
unfolding AreBytes
bytes_nil = tt

pub bytes_cons : (b : ℕ) (l : List ℕ) → b < 256 → AreBytes l → AreBytes (b ∷ l)
unfolding AreBytes
bytes_cons b l p q = (p, q)

pub bytes_append : (l k : List ℕ) → AreBytes l → AreBytes k → AreBytes (l ++ k)
unfolding AreBytes
bytes_append [] k p q = q
bytes_append (b ∷ l) k p q = (p.0, bytes_append l k p.1 q)

pub bytes_take : (n : ℕ) (l : List ℕ) → AreBytes l → AreBytes (take n l)
unfolding AreBytes
bytes_take zero l p = tt
bytes_take (suc n) [] p = tt
bytes_take (suc n) (b ∷ l) p = (p.0, bytes_take n l p.1)

pub bytes_drop : (n : ℕ) (l : List ℕ) → AreBytes l → AreBytes (drop n l)
unfolding AreBytes
bytes_drop zero l p = p
bytes_drop (suc n) [] p = tt
bytes_drop (suc n) (b ∷ l) p = bytes_drop n l p.1

pub byte_at : (l : List ℕ) (i : ℕ) → AreBytes l → get_or l i 0 < 256
unfolding AreBytes
byte_at [] i p = omega arith
byte_at (b ∷ l) zero p = p.0
byte_at (b ∷ l) (suc i) p = byte_at l i p.1

-- a list that is written out is tested, and antt computes the test
abbrev pub all_below : ℕ → List ℕ → Bool
all_below n [] = true
all_below n (b ∷ l) = ltb b n && all_below n l

pub bytes_tested : (l : List ℕ) → all_below 256 l ≡ true → AreBytes l
bytes_tested [] e = bytes_nil
bytes_tested (b ∷ l) e = let p = both_true (ltb b 256) (all_below 256 l) e in bytes_cons b l (ltb-true b 256 p.0) (bytes_tested l p.1)
