-- Laws of a command's pieces: what the channel's tests say of each, how long what is gathered is, and what scattering keeps.
--     tested_here, tested_next   the piece that is tested: the first that is refused, or one behind it
--     all_passed                 where the piece that is tested passes, each does
--     some_counts, all_inside    so there is a byte in all, and each piece is in main storage
--     length_gathered, length_scattered, bytes_gathered, bytes_scattered
--                                lengths, and that bytes stay bytes
--     ccws_in_lem, next_left     the commands of a chain have all its CCWs between them, and each has one at least
--     command_small              in a chain of bytes each count is small
--     spread_few, spread_small   bytes over pieces: how many they fill, and what they leave of a count
-- No contract cites this file.
use Prim.Native.Nat.{ℕ, zero, suc, ◌+◌, ◌-◌, ◌/◌, ◌≤◌, ◌<◌}
use mathlib.Core.Path.{◌≡◌, refl, sym, ◌∙◌}
use mathlib.Core.Bool.{true, not}
use mathlib.Core.List.{List, [], ◌∷◌}
use lib.ListN.{length, get_or, take, drop, length-append, length-take}
use lib.Seq.{drop-cons}
use native.Mathlib.Numerals.{add-one}
use native.Mathlib.Omega.{arith}
use borrow.Author.Tests.{eqb-true, eqb-false, eq-eqb, ne_eqb, ltb-false}
use Rattle.numbers.specs.Choice.{◌=?◌}
use Rattle.numbers.specs.Bytes.{AreBytes}
use Rattle.numbers.proofs.Choice.{pick_ind, pick_true, pick_false}
use Rattle.numbers.proofs.Joined.{both_false}
use Rattle.numbers.proofs.Bytes.{bytes_nil, bytes_append, bytes_take, bytes_drop}
use Rattle.slices.specs.Parts.{put}
use Rattle.slices.proofs.Laws.{length_part, length_put, bytes_part, bytes_put}
use Rattle.model.specs.declared.ccw.Piece.{Piece}
use Rattle.model.specs.Names.{NO_OPERATION}
use Rattle.model.specs.Rules.{first_of}
use Rattle.model.specs.Causes.{piece_causes, tested_of}
use Rattle.model.specs.State.{Done}
use Rattle.numbers.proofs.Big.{be2_fits}
use Rattle.model.specs.Lent.{ccw_size, piece_at}
use Rattle.model.specs.Pieces.{Command, pieces, continues, commands_from, commands_in, command_at, counts, total, bytes_in, fetched, scattered, spread, Spread}
use Rattle.model.specs.Answer.{filled, answered}
use Rattle.model.specs.Safe.{Inside}
use Rattle.model.proofs.Verdicts.{failed_all}

-- the channel's tests

-- no cause of the channel refuses any of these pieces
abbrev pub AllPassed : ℕ → ℕ → List Piece → Type 0
AllPassed command held [] = Unit {0}
AllPassed command held (p ∷ ps) = (first_of (piece_causes command held p) ≡ 0) × AllPassed command held ps

module _ (command held : ℕ) where
  pub tested_next : (p q : Piece) (qs : List Piece) → first_of (piece_causes command held p) ≡ 0 → tested_of command held p (q ∷ qs) ≡ tested_of command held q qs
  unfolding tested_of
  tested_next p q qs e = pick_true _ _ _ (eq-eqb _ _ e)

  pub tested_here : (p : Piece) (qs : List Piece) → (first_of (piece_causes command held p) ≡ 0 → ⊥) → tested_of command held p qs ≡ p
  unfolding tested_of
  tested_here p [] n = refl
  tested_here p (q ∷ qs) n = pick_false _ _ _ (ne_eqb _ _ n)

  pub all_passed : (p : Piece) (qs : List Piece) → first_of (piece_causes command held (tested_of command held p qs)) ≡ 0 → AllPassed command held (p ∷ qs)
  unfolding tested_of
  all_passed p [] e = (e, _)
  all_passed p (q ∷ qs) e =
      pick_ind (λ (r : Piece). first_of (piece_causes command held r) ≡ 0 → AllPassed command held (p ∷ q ∷ qs)) _ _ _
      (λ b f. (eqb-true _ _ b, all_passed q qs f))
      (λ b f. absurd (eqb-false _ _ b f))
      e

  pub some_counts : (p : Piece) (qs : List Piece) → AllPassed command held (p ∷ qs) → 0 < counts (p ∷ qs)
  unfolding counts
  some_counts p qs a =
      let none = eqb-false p.count 0 (failed_all 0 (piece_causes command held p) refl a.0).1.0 in
      omega (arith, none)

pub all_inside : (command : ℕ) (main : List ℕ) (ps : List Piece) → (command ≡ NO_OPERATION → ⊥) → AllPassed command (length main) ps → Inside ps main
all_inside command main [] n a = _
all_inside command main (p ∷ ps) n a =
    let other : not (command =? NO_OPERATION) ≡ true = rw (ne_eqb _ _ n) refl in
    (ltb-false _ _ (both_false _ _ (failed_all 0 (piece_causes command (length main) p) refl a.0).1.1.0 other), all_inside command main ps n a.1)

-- what is gathered, and what scattering keeps

pub length_gathered : (ps : List Piece) (main : List ℕ) → Inside ps main → length (bytes_in ps main) ≡ counts ps
unfolding bytes_in counts
length_gathered [] main h = refl
length_gathered (p ∷ ps) main h = rw (length-append, length_part main p.address p.count h.0, length_gathered ps main h.1) refl

pub length_fetched : (c : Command) (main : List ℕ) (n : ℕ) → Inside (pieces c) main → n ≤ total c → length (fetched c main n) ≡ n
unfolding fetched
length_fetched c main n h l = rw (length-take, length_gathered (pieces c) main h) (omega arith)

pub inside_same : (ps : List Piece) (main main' : List ℕ) → length main ≡ length main' → Inside ps main → Inside ps main'
inside_same [] main main' e h = _
inside_same (p ∷ ps) main main' e h = (omega (arith, e, h.0), inside_same ps main main' e h.1)

put_length : (p : Piece) (main bytes : List ℕ) → p.address + p.count ≤ length main → length (put main p.address (take p.count bytes)) ≡ length main
put_length p main bytes h = length_put main p.address _ (rw length-take (omega arith))

pub length_scattered : (ps : List Piece) (main bytes : List ℕ) → Inside ps main → length (scattered ps main bytes) ≡ length main
unfolding scattered
length_scattered [] main bytes h = refl
length_scattered (p ∷ ps) main bytes h =
    let e = put_length p main bytes h.0 in
    length_scattered ps _ (drop p.count bytes) (inside_same ps main _ (sym e) h.1) ∙ e

pub bytes_gathered : (ps : List Piece) (main : List ℕ) → AreBytes main → AreBytes (bytes_in ps main)
unfolding bytes_in
bytes_gathered [] main m = bytes_nil
bytes_gathered (p ∷ ps) main m = bytes_append _ _ (bytes_part main p.address p.count m) (bytes_gathered ps main m)

pub bytes_scattered : (ps : List Piece) (main bytes : List ℕ) → AreBytes main → AreBytes bytes → AreBytes (scattered ps main bytes)
unfolding scattered
bytes_scattered [] main bytes m b = m
bytes_scattered (p ∷ ps) main bytes m b = bytes_scattered ps _ _ (bytes_put main p.address _ m (bytes_take p.count bytes b)) (bytes_drop p.count bytes b)

-- the CCWs of some commands

unfoldable pub ccws_in : List Command → ℕ
ccws_in [] = 0
ccws_in (c ∷ cs) = 1 + length c.later + ccws_in cs

continues_ccws : (code : ℕ) (p : Piece) (cs : List Command) → ccws_in (continues code p cs) ≡ 1 + ccws_in cs
unfolding ccws_in continues
continues_ccws code p [] = refl
continues_ccws code p (c ∷ cs) = omega arith

pub ccws_in_lem : (chain : List ℕ) (n i : ℕ) → ccws_in (commands_from chain n i) ≡ n
unfolding ccws_in commands_from
ccws_in_lem chain zero i = refl
ccws_in_lem chain (suc n) i =
    let e = ccws_in_lem chain n (i + 1) in
    pick_ind (λ (cs : List Command). ccws_in cs ≡ suc n) _ _ _
    (λ _. continues_ccws _ _ (commands_from chain n (i + 1)) ∙ omega (arith, e))
    (λ _. omega (arith, e))

-- the CCWs of the commands from i on
unfoldable pub ccws_left : List ℕ → ℕ → ℕ
ccws_left chain i = ccws_in (drop i (commands_in chain))

pub all_left : (chain : List ℕ) → ccws_left chain 0 ≡ length chain / ccw_size
unfolding ccws_left commands_in
all_left chain = ccws_in_lem chain (length chain / ccw_size) 0

pub some_command : (cs : List Command) → 0 < ccws_in cs → 0 < length cs
unfolding ccws_in
some_command [] h = absurd (omega arith)
some_command (c ∷ cs) h = omega arith

pub some_commands : (chain : List ℕ) → 1 ≤ length chain / ccw_size → 1 ≤ length (commands_in chain)
unfolding commands_in
some_commands chain h = some_command (commands_from chain (length chain / ccw_size) 0) (omega (arith, h, ccws_in_lem chain (length chain / ccw_size) 0))

-- bytes over pieces

pub spread_few : (p : Piece) (qs : List Piece) (n : ℕ) → (spread p qs n).filled ≤ length qs
unfolding spread
spread_few p [] n = omega arith
spread_few p (q ∷ qs) n = pick_ind (λ (s : Spread). s.filled ≤ length (q ∷ qs)) _ _ _ (λ _. omega (arith, spread_few q qs (n - p.count))) (λ _. omega arith)

-- what holds of each piece's count, and of less, holds of the residual
abbrev pub SmallCounts : List Piece → Type 0
SmallCounts [] = Unit {0}
SmallCounts (p ∷ ps) = (p.count < 65536) × SmallCounts ps

pub spread_small : (p : Piece) (qs : List Piece) (n : ℕ) → SmallCounts (p ∷ qs) → (spread p qs n).residual < 65536
unfolding spread
spread_small p [] n h = omega (arith, h.0)
spread_small p (q ∷ qs) n h = pick_ind (λ (s : Spread). s.residual < 65536) _ _ _ (λ _. spread_small q qs (n - p.count) h.1) (λ _. omega (arith, h.0))

pub drop_command : (chain : List ℕ) (i : ℕ) → i < length (commands_in chain) → drop i (commands_in chain) ≡ command_at chain i ∷ drop (i + 1) (commands_in chain)
unfolding command_at
drop_command chain i h = rw (add-one i) (drop-cons (commands_in chain) i _ h)

-- in a chain of bytes each count is small

abbrev pub AllSmall : List Command → Type 0
AllSmall [] = Unit {0}
AllSmall (c ∷ cs) = SmallCounts (pieces c) × AllSmall cs

piece_small : (chain : List ℕ) (i : ℕ) → AreBytes chain → (piece_at chain i).count < 65536
unfolding piece_at
piece_small chain i b = be2_fits chain _ b

continues_small : (code : ℕ) (p : Piece) (cs : List Command) → p.count < 65536 → AllSmall cs → AllSmall (continues code p cs)
unfolding continues
continues_small code p [] h a = ((h, _), _)
continues_small code p (c ∷ cs) h a = ((h, a.0), a.1)

all_small : (chain : List ℕ) (n i : ℕ) → AreBytes chain → AllSmall (commands_from chain n i)
unfolding commands_from
all_small chain zero i b = _
all_small chain (suc n) i b =
    let a = all_small chain n (i + 1) b in
    pick_ind AllSmall _ _ _ (λ _. continues_small _ _ (commands_from chain n (i + 1)) (piece_small chain i b) a) (λ _. ((piece_small chain i b, _), a))

one_small : (cs : List Command) (i : ℕ) (c : Command) → AllSmall cs → SmallCounts (pieces c) → SmallCounts (pieces (get_or cs i c))
one_small [] i c a h = h
one_small (k ∷ cs) zero c a h = a.0
one_small (k ∷ cs) (suc i) c a h = one_small cs i c a.1 h

pub command_small : (chain : List ℕ) (i : ℕ) → AreBytes chain → SmallCounts (pieces (command_at chain i))
unfolding command_at commands_in
command_small chain i b = one_small (commands_from chain (length chain / ccw_size) 0) i _ (all_small chain _ 0 b) (piece_small [] 0 bytes_nil, _)

-- a command's answers are no more than its CCWs, and those of the commands behind it are left
pub next_left : (chain : List ℕ) (i : ℕ) (d : Done) → i < length (commands_in chain) → answered (command_at chain i) d + ccws_left chain (i + 1) ≤ ccws_left chain i
unfolding ccws_left ccws_in answered filled
next_left chain i d h =
    let c : Command = command_at chain i in
    rw (drop_command chain i h) (omega (arith, spread_few c.first c.later d.moved))
