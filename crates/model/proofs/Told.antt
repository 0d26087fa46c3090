-- What a Result tells, and the Result of a verdict.
--     outcome_told             the Result of what a Result tells is that Result
--     refused_told             an error tells no acceptance
--     apart                    no two causes have one number
--     refusal_named, refusal_given   the Result of a verdict that an error tells is that error, and the verdict is no acceptance
--     Named, first_named       a table whose causes all have names; what such a table gives, its Result tells
--     extent_named, location_named   so it is of the tables that parameters are held against
-- Assumes nothing.
use Prim.Native.Nat.{ℕ}
use mathlib.Core.Path.{◌≡◌, refl, sym, ap, ◌∙◌}
use mathlib.Core.Bool.{Bool, true, false}
use mathlib.Core.List.{List, [], ◌∷◌}
use borrow.Author.Tests.{ne_eqb}
use Rattle.std.specs.Prelude.{Result, Ok, Err, ⊤}
use Rattle.numbers.specs.Choice.{◌=?◌, pick}
use Rattle.model.specs.declared.device.Device.{Device}
use Rattle.model.specs.declared.cause.Cause.{Cause}
use Rattle.model.specs.declared.cause.Cause.TheVariants.{BadChain, BadStore, LongStorage, ShortAnswers, AllChained, BadRecord, BadClass, BadMap, OtherFlags, NoCount, LeavesStorage, NoCommand, ShortExtent, SecondExtent, BadMask, Maintenance, OtherSize, FirstAfterLast, PastDevice, NoExtent, ShortLocate, BadModifier, BadOperation, BadCount, BadReplication, OutsideExtent, Forbidden, ReadOnly, NoAlternate, IplNotFirst, NoLocate, OtherOperation, NotListed, NotReady, PastBlocks, NotMapped}
use Rattle.model.specs.State.{State}
use Rattle.model.specs.Rules.{Rule, first_of}
use Rattle.model.specs.Causes.{extent_causes, permission_causes, location_causes}
use Rattle.model.specs.Told.{cause_number, told, outcome_in, outcome_of}

named_back : (cause : Cause) → outcome_of (cause_number cause) ≡ Err cause
unfolding outcome_of outcome_in pick
named_back BadChain = refl
named_back BadStore = refl
named_back LongStorage = refl
named_back ShortAnswers = refl
named_back AllChained = refl
named_back BadRecord = refl
named_back BadClass = refl
named_back BadMap = refl
named_back OtherFlags = refl
named_back NoCount = refl
named_back LeavesStorage = refl
named_back NoCommand = refl
named_back ShortExtent = refl
named_back SecondExtent = refl
named_back BadMask = refl
named_back Maintenance = refl
named_back OtherSize = refl
named_back FirstAfterLast = refl
named_back PastDevice = refl
named_back NoExtent = refl
named_back ShortLocate = refl
named_back BadModifier = refl
named_back BadOperation = refl
named_back BadCount = refl
named_back BadReplication = refl
named_back OutsideExtent = refl
named_back Forbidden = refl
named_back ReadOnly = refl
named_back NoAlternate = refl
named_back IplNotFirst = refl
named_back NoLocate = refl
named_back OtherOperation = refl
named_back NotListed = refl
named_back NotReady = refl
named_back PastBlocks = refl
named_back NotMapped = refl

pub outcome_told : (r : Result ⊤ Cause) → outcome_of (told r) ≡ r
unfolding outcome_of outcome_in pick
outcome_told (Ok x) = refl
outcome_told (Err cause) = named_back cause

pub refused_told : (cause : Cause) → cause_number cause =? 0 ≡ false
refused_told BadChain = refl
refused_told BadStore = refl
refused_told LongStorage = refl
refused_told ShortAnswers = refl
refused_told AllChained = refl
refused_told BadRecord = refl
refused_told BadClass = refl
refused_told BadMap = refl
refused_told OtherFlags = refl
refused_told NoCount = refl
refused_told LeavesStorage = refl
refused_told NoCommand = refl
refused_told ShortExtent = refl
refused_told SecondExtent = refl
refused_told BadMask = refl
refused_told Maintenance = refl
refused_told OtherSize = refl
refused_told FirstAfterLast = refl
refused_told PastDevice = refl
refused_told NoExtent = refl
refused_told ShortLocate = refl
refused_told BadModifier = refl
refused_told BadOperation = refl
refused_told BadCount = refl
refused_told BadReplication = refl
refused_told OutsideExtent = refl
refused_told Forbidden = refl
refused_told ReadOnly = refl
refused_told NoAlternate = refl
refused_told IplNotFirst = refl
refused_told NoLocate = refl
refused_told OtherOperation = refl
refused_told NotListed = refl
refused_told NotReady = refl
refused_told PastBlocks = refl
refused_told NotMapped = refl

-- two causes that are not one have two numbers

cause_in : Cause → Result ⊤ Cause → Cause
cause_in other (Ok x) = other
cause_in other (Err cause) = cause

pub apart : (x y : Cause) → (x ≡ y → ⊥) → cause_number x =? cause_number y ≡ false
unfolding cause_in
apart x y n = ne_eqb _ _ (λ e. n (ap (cause_in x) (sym (named_back x) ∙ ap outcome_of e ∙ named_back y)))

-- of a cause that a Result tells and a table gave

pub refusal_named : (cause : Cause) (verdict : ℕ) → cause_number cause ≡ verdict → outcome_of verdict ≡ Err cause
refusal_named cause verdict e = rw (← e) (named_back cause)

pub refusal_given : (cause : Cause) (verdict : ℕ) → cause_number cause ≡ verdict → verdict =? 0 ≡ false
refusal_given cause verdict e = rw (← e) (refused_told cause)

named_here : (b : Bool) (n m : ℕ) → told (outcome_of n) ≡ n → told (outcome_of m) ≡ m → told (outcome_of (pick b n m)) ≡ pick b n m
unfolding pick
named_here true n m p q = p
named_here false n m p q = q

abbrev pub Named : List Rule → Type 0
Named [] = ⊤
Named (r ∷ rs) = (told (outcome_of r.cause) ≡ r.cause) × Named rs

pub first_named : (rs : List Rule) → Named rs → told (outcome_of (first_of rs)) ≡ first_of rs
unfolding first_of outcome_of outcome_in pick
first_named [] n = refl
first_named (r ∷ rs) n = named_here r.holds r.cause (first_of rs) n.0 (first_named rs n.1)

-- the tables that parameters are held against

pub extent_named : (dev : Device) (blocks : ℕ) (p : List ℕ) → told (outcome_of (first_of (extent_causes dev blocks p))) ≡ first_of (extent_causes dev blocks p)
unfolding extent_causes outcome_of outcome_in pick
extent_named dev blocks p = first_named (extent_causes dev blocks p) (refl, (refl, (refl, (refl, (refl, tt)))))

pub location_named : (dev : Device) (s : State) (p : List ℕ) → told (outcome_of (first_of (location_causes dev s p))) ≡ first_of (location_causes dev s p)
unfolding location_causes permission_causes outcome_of outcome_in pick
location_named dev s p = first_named (location_causes dev s p) (refl, (refl, (refl, (refl, (refl, (refl, (refl, (refl, tt))))))))
