-- Inputs for worked examples, written as a learner would: CCWs, parameters, a device.
-- No contract cites this file.
use Prim.Native.Nat.{ℕ, zero, suc, ◌+◌, ◌*◌, ◌/◌, ◌%◌}
use mathlib.Core.List.{List, [], ◌∷◌, ◌++◌}
use lib.ListN.{length, get_or, replicate}
use Rattle.numbers.specs.Big.{bytes2, bytes3, bytes4}
use Rattle.slices.specs.Parts.{pad}
use Rattle.model.specs.Alternates.{map_size}
use Rattle.model.specs.declared.record.Record.{Record}
use Rattle.model.specs.Lent.{new_record, new_map}
use Rattle.model.specs.Chain.{Called, call, class_a}

-- all that a call is lent
pub record Lent : Type 0 where
  pub chain : List ℕ
  pub main : List ℕ
  pub store : List ℕ
  pub unit : Record
  pub alternates : ℕ
  pub map : List ℕ
  pub answers : List ℕ

abbrev pub the_unit : Lent → Called
the_unit l = call l.alternates l.chain l.main l.store l.unit l.map l.answers

-- block i is filled with byte i
abbrev pub device : ℕ → List ℕ
device zero = []
device (suc n) = device n ++ replicate (class_a 0).block n

-- a map with these entries, and all others zero
abbrev entry_bytes : List ℕ → List ℕ
entry_bytes [] = []
entry_bytes (e ∷ es) = bytes4 e ++ entry_bytes es

abbrev pub entries : List ℕ → List ℕ
entries es = pad map_size (entry_bytes es)

-- a ready unit that may be written, with no alternate, and answers that are full of FF
abbrev pub lent : ℕ → List ℕ → List ℕ → Lent
lent blocks chain main = record { chain = chain; main = main; store = device blocks; unit = new_record 1 0; alternates = 0; map = new_map; answers = replicate (length chain) 0xFF }

abbrev pub ccw : ℕ → ℕ → ℕ → ℕ → List ℕ
ccw command address flags count = command ∷ bytes3 address ++ (flags ∷ 0 ∷ []) ++ bytes2 count

abbrev word : ℕ → List ℕ
word n = n / 16777216 % 256 ∷ bytes3 n

-- mask C0 forbids nothing; block size 0
abbrev pub extent : ℕ → ℕ → ℕ → List ℕ
extent offset first last = (0xC0 ∷ 0 ∷ 0 ∷ 0 ∷ []) ++ word offset ++ word first ++ word last

abbrev pub location : ℕ → ℕ → ℕ → ℕ → List ℕ
location operation replication blocks displacement = (operation ∷ replication ∷ []) ++ bytes2 blocks ++ word displacement

-- a worked line: what is lent, what is looked at afterwards, and what is to be there
pub record Line : Type 0 where
  pub input : Lent
  pub seen : Called → List ℕ
  pub want : List ℕ

abbrev pub got : Line → List ℕ
got l = l.seen (the_unit l.input)

abbrev pub wanted : Line → List ℕ
wanted l = l.want

abbrev pub cause_of : ℕ → Called → ℕ
cause_of i r = get_or r.answers (i * 8 + 4) 0
