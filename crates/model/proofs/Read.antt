-- What a refusal has read of its parameters.
--     table_reads     the causes of a table that all have read n bytes: so has its verdict
--     extent_reads, location_reads
--                     so what DEFINE EXTENT's parameters say is refused after sixteen bytes, and LOCATE's after eight
--     unread_shows    a cause that has read nothing shows no parameters
--     verdict_read    what was read was there to be read: the tests of the count come before those of the parameters
-- Assumes nothing.
use Prim.Native.Nat.{ℕ, ◌≤◌}
use mathlib.Core.Path.{◌≡◌, refl}
use mathlib.Core.Bool.{Bool, true, false, not, true≢false}
use mathlib.Core.List.{List, [], ◌++◌}
use native.Mathlib.Omega.{arith}
use borrow.Author.Tests.{eqb-true, eqb-false, ne_eqb, ltb-true, ltb-false}
use Rattle.model.specs.declared.device.Device.{Device}
use Rattle.model.specs.Pieces.{Command, total}
use Rattle.model.specs.State.{State}
use Rattle.numbers.specs.Choice.{◌<?◌, ◌=?◌, one_of, pick}
use Rattle.model.specs.Rules.{Rule, first_of}
use Rattle.model.specs.Parameters.{extent_length, locate_length}
use Rattle.model.specs.Causes.{bytes_read, channel_causes, unit_causes, extent_causes, define_extent_causes, permission_causes, location_causes, locate_causes, read_ipl_causes, transfer_causes, own_causes, causes_of, verdict}
use Rattle.numbers.proofs.Choice.{pick_ind}
use Rattle.model.proofs.Verdicts.{every, every_first, every_all}
use Rattle.model.proofs.Steps.{own_cases}

-- each cause of a table has read n bytes
abbrev pub all_read : ℕ → List Rule → Bool
all_read n = every (λ (w : ℕ). bytes_read w =? n)

pub table_reads : (n : ℕ) (rs : List Rule) → all_read n rs ≡ true → first_of rs =? 0 ≡ false → bytes_read (first_of rs) ≡ n
table_reads n rs e =
    every_all (λ (w : ℕ). w =? 0 ≡ false → bytes_read w ≡ n) (λ (w : ℕ). bytes_read w =? n) (λ w t _. eqb-true (bytes_read w) n t) rs e (λ z. absurd (true≢false z))

pub extent_reads : (dev : Device) (blocks : ℕ) (p : List ℕ) → first_of (extent_causes dev blocks p) =? 0 ≡ false → bytes_read (first_of (extent_causes dev blocks p)) ≡ extent_length
unfolding extent_causes bytes_read one_of pick
extent_reads dev blocks p = table_reads extent_length (extent_causes dev blocks p) refl

pub location_reads : (dev : Device) (s : State) (p : List ℕ) → first_of (location_causes dev s p) =? 0 ≡ false → bytes_read (first_of (location_causes dev s p)) ≡ locate_length
unfolding location_causes permission_causes bytes_read one_of pick
location_reads dev s p = table_reads locate_length (location_causes dev s p) refl

pub unread_shows : (w : ℕ) → bytes_read w ≡ 0 → w =? 39 ≡ false
unfolding bytes_read one_of pick
unread_shows w e = ne_eqb w 39 (λ z. eqb-false 8 0 refl (rw z at e))

-- the whole verdict

read_most : (w : ℕ) → bytes_read w ≤ extent_length
unfolding bytes_read
read_most w = pick_ind (λ (n : ℕ). n ≤ extent_length) _ _ _ (λ _. omega arith) (λ _. pick_ind (λ (n : ℕ). n ≤ extent_length) _ _ _ (λ _. omega arith) (λ _. omega arith))

module _ (dev : Device) (c : Command) (s : State) (main store : List ℕ) where
  abbrev Read : ℕ → Type 0
  Read w = bytes_read w ≤ total c

  none_read : (w : ℕ) → bytes_read w =? 0 ≡ true → Read w
  none_read w e = omega (arith, eqb-true (bytes_read w) 0 e)

  unread : (rs : List Rule) → all_read 0 rs ≡ true → Read (first_of rs)
  unfolding bytes_read one_of pick
  unread rs e = every_all Read _ none_read rs e (omega arith)

  extent_fits : (blocks : ℕ) (p : List ℕ) → Read (first_of (define_extent_causes dev blocks c s p))
  unfolding define_extent_causes first_of bytes_read one_of pick
  extent_fits blocks p = pick_ind Read (total c <? extent_length) _ _ (λ _. omega arith) (λ b. omega (arith, read_most (pick s.defined 21 (first_of (extent_causes dev blocks p))), ltb-false (total c) extent_length b))

  location_most : (p : List ℕ) → bytes_read (first_of (location_causes dev s p)) ≤ locate_length
  unfolding location_causes permission_causes bytes_read one_of pick
  location_most p = every_all (λ (w : ℕ). bytes_read w ≤ locate_length) (λ (w : ℕ). bytes_read w <? 9) (λ w e. omega (arith, ltb-true (bytes_read w) 9 e)) (location_causes dev s p) refl (omega arith)

  locate_fits : (p : List ℕ) → Read (first_of (locate_causes dev c s p))
  unfolding locate_causes first_of bytes_read one_of pick
  locate_fits p =
      pick_ind Read (not s.defined) _ _ (λ _. omega arith) (λ _.
      pick_ind Read (total c <? locate_length) _ _ (λ _. omega arith) (λ b. omega (arith, location_most p, ltb-false (total c) locate_length b)))

  pub verdict_read : bytes_read (verdict dev c s main store) ≤ total c
  unfolding verdict causes_of channel_causes unit_causes read_ipl_causes transfer_causes bytes_read one_of pick
  verdict_read =
      every_first Read _ none_read (channel_causes c main ++ unit_causes c s) (own_causes dev c s main store) refl
      (own_cases dev c s main store (λ rs. Read (first_of rs)) (λ _. extent_fits _ _) (λ _. locate_fits _) (λ _. unread _ refl) (λ _. unread _ refl) (λ _. unread _ refl) (unread [] refl))
