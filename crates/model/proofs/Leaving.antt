-- Laws of the kinds of causes. No contract cites this file.
--     leaves_ind, leaves_both    a property of what each kind leaves is one of what a command leaves
--     channel_refused            the channel status of a refusal does not look at the length
--     status_byte, channel_byte  the statuses are bytes
use Prim.Native.Nat.{ℕ, ◌<◌}
use mathlib.Core.Path.{◌≡◌, refl}
use mathlib.Core.Bool.{Bool, true, false}
use mathlib.Core.List.{List, [], ◌∷◌}
use borrow.Author.Tests.{ne_eqb}
use native.Mathlib.Omega.{arith}
use Rattle.numbers.specs.Choice.{one_of}
use Rattle.model.specs.declared.kind.Kind.{Kind}
use Rattle.model.specs.declared.kind.Kind.TheVariants.{Accepted, ProgramCheck, UnitCheck}
use Rattle.model.specs.declared.state.Before.TheVariants.{Other}
use Rattle.model.specs.State.{State}
use Rattle.model.specs.Causes.{kind_by, kind_of}
use Rattle.model.specs.Log.{with_sense}
use Rattle.model.specs.Commands.{after, leaves}
use Rattle.model.specs.Answer.{unit_status, channel_by}

pub leaves_ind : (P : State → Type 0) (k : Kind) (s : State) (l : List ℕ) → P s → P (after s s.unit Other) → P (after s (with_sense s.unit l) Other) → P (leaves k s l)
leaves_ind P Accepted s l x y z = x
leaves_ind P ProgramCheck s l x y z = y
leaves_ind P UnitCheck s l x y z = z

pub leaves_both : (P : State → State → Type 0) (k : Kind) (s t : State) (l m : List ℕ)
    → P s t → P (after s s.unit Other) (after t t.unit Other) → P (after s (with_sense s.unit l) Other) (after t (with_sense t.unit m) Other)
    → P (leaves k s l) (leaves k t m)
leaves_both P Accepted s t l m x y z = x
leaves_both P ProgramCheck s t l m x y z = y
leaves_both P UnitCheck s t l m x y z = z

pub status_byte : (k : Kind) → unit_status k < 256
status_byte Accepted = omega arith
status_byte ProgramCheck = omega arith
status_byte UnitCheck = omega arith

pub channel_byte : (k : Kind) (wrong : Bool) → channel_by k wrong < 256
channel_byte Accepted true = omega arith
channel_byte Accepted false = omega arith
channel_byte ProgramCheck wrong = omega arith
channel_byte UnitCheck wrong = omega arith

pub channel_refused : (w : ℕ) (a b : Bool) → (w ≡ 0 → ⊥) → channel_by (kind_of w) a ≡ channel_by (kind_of w) b
channel_refused w a b n = rw (ne_eqb w 0 n) (go (one_of (10 ∷ 11 ∷ 12 ∷ 13 ∷ []) w))
  where
    go : (channels : Bool) → channel_by (kind_by false channels) a ≡ channel_by (kind_by false channels) b
    go true = refl
    go false = refl
