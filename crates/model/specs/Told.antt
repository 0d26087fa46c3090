-- How the code tells a verdict: by a Result, whose error is a cause by its name.
--     cause_number, Numbered  01's number of a cause; the byte that stands for it
--     told                    the verdict that a Result tells, as the tables of Causes have it: 0 where it is Ok
--     code_of, Listed         the code of a command; the command of a code, or cause 43
--     outcome_of              the Result of a verdict; one that is no cause's number tells Ok
--     cause_numbers, Named    the numbers that causes have; the cause that has a number, or that it is none of them
-- Assumes nothing.
use Rattle.std.specs.Prelude.{ℕ, ◌≡◌, false, Result, Ok, Err, MatchResult, ⊤, List, [], ◌∷◌}
use Rattle.numbers.specs.Choice.{◌=?◌, pick, one_of}
use Rattle.model.specs.Names.{NO_OPERATION, DEFINE_EXTENT, LOCATE, READ, WRITE, READ_IPL, SENSE, SENSE_TYPE, READ_LOG}
use Rattle.model.specs.Causes.{commands}
use Rattle.model.specs.declared.command.Command.{Command}
use Rattle.model.specs.declared.command.Command.TheVariants.{NoOperation, DefineExtent, Locate, Read, Write, ReadIpl, Sense, SenseType, ReadLog}
use Rattle.model.specs.declared.cause.Cause.{Cause}
use Rattle.model.specs.declared.cause.Cause.TheVariants.{BadChain, BadStore, LongStorage, ShortAnswers, AllChained, BadRecord, BadClass, BadMap, OtherFlags, NoCount, LeavesStorage, NoCommand, ShortExtent, SecondExtent, BadMask, Maintenance, OtherSize, FirstAfterLast, PastDevice, NoExtent, ShortLocate, BadModifier, BadOperation, BadCount, BadReplication, OutsideExtent, Forbidden, ReadOnly, NoAlternate, IplNotFirst, NoLocate, OtherOperation, NotListed, NotReady, PastBlocks, NotMapped}

abbrev pub cause_number : Cause → ℕ
cause_number BadChain = 1
cause_number BadStore = 2
cause_number LongStorage = 3
cause_number ShortAnswers = 4
cause_number AllChained = 5
cause_number BadRecord = 6
cause_number BadClass = 7
cause_number BadMap = 8
cause_number OtherFlags = 10
cause_number NoCount = 11
cause_number LeavesStorage = 12
cause_number NoCommand = 13
cause_number ShortExtent = 20
cause_number SecondExtent = 21
cause_number BadMask = 22
cause_number Maintenance = 23
cause_number OtherSize = 24
cause_number FirstAfterLast = 25
cause_number PastDevice = 26
cause_number NoExtent = 30
cause_number ShortLocate = 31
cause_number BadModifier = 32
cause_number BadOperation = 33
cause_number BadCount = 34
cause_number BadReplication = 35
cause_number OutsideExtent = 36
cause_number Forbidden = 37
cause_number ReadOnly = 38
cause_number NoAlternate = 39
cause_number IplNotFirst = 40
cause_number NoLocate = 41
cause_number OtherOperation = 42
cause_number NotListed = 43
cause_number NotReady = 44
cause_number PastBlocks = 50
cause_number NotMapped = 51

abbrev pub Numbered : Cause → ℕ → Type 0
Numbered cause n = n ≡ cause_number cause

abbrev pub told : {T : Type 0} → Result T Cause → ℕ
told (Ok x) = 0
told (Err cause) = cause_number cause

abbrev pub all_causes : List Cause
all_causes = BadChain ∷ BadStore ∷ LongStorage ∷ ShortAnswers ∷ AllChained ∷ BadRecord ∷ BadClass ∷ BadMap ∷ OtherFlags ∷ NoCount ∷ LeavesStorage ∷ NoCommand ∷ ShortExtent ∷ SecondExtent ∷ BadMask ∷ Maintenance ∷ OtherSize ∷ FirstAfterLast ∷ PastDevice ∷ NoExtent ∷ ShortLocate ∷ BadModifier ∷ BadOperation ∷ BadCount ∷ BadReplication ∷ OutsideExtent ∷ Forbidden ∷ ReadOnly ∷ NoAlternate ∷ IplNotFirst ∷ NoLocate ∷ OtherOperation ∷ NotListed ∷ NotReady ∷ PastBlocks ∷ NotMapped ∷ []

abbrev pub cause_numbers : List ℕ
cause_numbers = 1 ∷ 2 ∷ 3 ∷ 4 ∷ 5 ∷ 6 ∷ 7 ∷ 8 ∷ 10 ∷ 11 ∷ 12 ∷ 13 ∷ 20 ∷ 21 ∷ 22 ∷ 23 ∷ 24 ∷ 25 ∷ 26 ∷ 30 ∷ 31 ∷ 32 ∷ 33 ∷ 34 ∷ 35 ∷ 36 ∷ 37 ∷ 38 ∷ 39 ∷ 40 ∷ 41 ∷ 42 ∷ 43 ∷ 44 ∷ 50 ∷ 51 ∷ []

unfoldable pub outcome_in : List Cause → ℕ → Result ⊤ Cause
outcome_in [] n = Ok tt
outcome_in (cause ∷ causes) n = pick (cause_number cause =? n) (Err cause) (outcome_in causes n)

unfoldable pub outcome_of : ℕ → Result ⊤ Cause
outcome_of n = outcome_in all_causes n

abbrev pub Named : ℕ → Result Cause ⊤ → Type 0
Named n r = MatchResult r (λ cause. n ≡ cause_number cause) (λ _. one_of cause_numbers n ≡ false)

-- the commands by name: their codes, and the command or the cause of a code
abbrev pub code_of : Command → ℕ
code_of NoOperation = NO_OPERATION
code_of DefineExtent = DEFINE_EXTENT
code_of Locate = LOCATE
code_of Read = READ
code_of Write = WRITE
code_of ReadIpl = READ_IPL
code_of Sense = SENSE
code_of SenseType = SENSE_TYPE
code_of ReadLog = READ_LOG

abbrev pub Listed : ℕ → Result Command Cause → Type 0
Listed code r = MatchResult r (λ command. code ≡ code_of command) (λ cause. (cause ≡ NotListed) × (one_of commands code ≡ false))
