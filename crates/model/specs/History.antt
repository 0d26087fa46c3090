-- The history of a device, and what it says of the alternates (02, ask 6): "Starting from an empty map, used, unused and defective, each
-- counted from the history of formats and returns, are as the map shows and sum to the device's number."
--     Event        what changes a map: a format of a block that was done, or a return
--     mapped_by    by a history, a block is mapped
--     used_by, unused_by, defective_by
--                  the alternates that are used, unused, defective, by a history; the map is not looked at
--     how_many     how many of the device's alternates have such an entry in the map
--     Act          a call on a device: a chain run, a class marked, or a block given back; Held   what it finds of the device, and leaves
--     format_of, formats_in, formats_of, formats_each
--                  the formats that were done: by a command, from a command of a chain on, by a chain, by the chains of a class
--     acted, events_of
--                  what a call leaves, and the events in it
--     held_after, history_of
--                  the same of calls one after the other
--     Counted      the sentence above, of a history and a map
-- A history has its latest event first. `proofs/History.antt` proves it of every history that begins with an empty map. Assumes nothing.
use Rattle.std.specs.Prelude.{ℕ, zero, suc, ◌+◌, ◌-◌, ◌≡◌, Bool, false, not, ◌&&◌, ◌||◌, List, [], ◌∷◌, ◌++◌, length, take, drop}
use Rattle.std.proofs.Math.Option.{get_or}
use Rattle.numbers.specs.Bytes.{AreBytes}
use Rattle.numbers.specs.Choice.{◌=?◌, pick}
use Rattle.model.specs.declared.device.Device.{Device}
use Rattle.model.specs.declared.extent.Located.{Located}
use Rattle.model.specs.State.{State}
use Rattle.model.specs.Names.{LOCATE, format}
use Rattle.model.specs.Rules.{first_of}
use Rattle.model.specs.Alternates.{entry_at, is_unused, is_defective, is_name}
use Rattle.model.specs.Lent.{record_of, map_of}
use Rattle.model.specs.Pieces.{Command, fetched, commands_in, command_at}
use Rattle.model.specs.Parameters.{locate_length, located_in}
use Rattle.model.specs.Causes.{host_causes, give_back_causes}
use Rattle.model.specs.Commands.{first_block}
use Rattle.model.specs.Chain.{System, system, step_at, next, more, start}
use Rattle.model.specs.Host.{host_call_of}
use Rattle.model.specs.Class.{head_size, result_size, chains_in, mark_of, bad_class, run_class_of}
use Rattle.model.specs.GiveBack.{give_back_of}

pub data Event : Type 0 where
  Formatted : ℕ → Event
  Returned : ℕ → Event

-- counted from the history alone

-- the last that was done to it is a format
unfoldable pub mapped_by : List Event → ℕ → Bool
mapped_by [] block = false
mapped_by (Formatted b ∷ earlier) block = b =? block || mapped_by earlier block
mapped_by (Returned b ∷ earlier) block = not (b =? block) && mapped_by earlier block

-- a format of a block that is not mapped puts one to use
unfoldable pub used_by : List Event → ℕ
used_by [] = 0
used_by (Formatted b ∷ earlier) = pick (mapped_by earlier b) (used_by earlier) (used_by earlier + 1)
used_by (Returned b ∷ earlier) = used_by earlier - 1

-- every format takes one, every return gives one back
unfoldable pub unused_by : ℕ → List Event → ℕ
unused_by alternates [] = alternates
unused_by alternates (Formatted b ∷ earlier) = unused_by alternates earlier - 1
unused_by alternates (Returned b ∷ earlier) = unused_by alternates earlier + 1

-- a format of a block that is mapped leaves one defective, for good
unfoldable pub defective_by : List Event → ℕ
defective_by [] = 0
defective_by (Formatted b ∷ earlier) = pick (mapped_by earlier b) (defective_by earlier + 1) (defective_by earlier)
defective_by (Returned b ∷ earlier) = defective_by earlier

-- as the map shows

unfoldable pub how_many : (ℕ → Bool) → List ℕ → ℕ → ℕ
how_many such map zero = 0
how_many such map (suc n) = how_many such map n + pick (such (entry_at map n)) 1 0

pub record Counted (alternates : ℕ) (history : List Event) (map : List ℕ) : Type 0 where
  pub used : how_many is_name map alternates ≡ used_by history
  pub unused : how_many is_unused map alternates ≡ unused_by alternates history
  pub defective : how_many is_defective map alternates ≡ defective_by history
  pub sum : used_by history + unused_by alternates history + defective_by history ≡ alternates

-- the calls, and the events in them

-- a chain, or a class of them, comes with a main storage, and answers or results, of its own
pub data Act : Type 0 where
  Runs : (chain main answers : List ℕ) → Act
  Marks : (chains main results : List ℕ) → Act
  GivesBack : (block : ℕ) → Act

pub record Held : Type 0 where
  pub store : List ℕ
  pub unit : List ℕ

abbrev pub held : List ℕ → List ℕ → Held
held store unit = record { store = store; unit = unit }

-- a command that ended with this cause is a format that was done, or none
unfoldable pub format_of : Command → State → List ℕ → ℕ → List Event
format_of c s main cause =
    let l : Located = located_in (fetched c main locate_length) in
    pick (cause =? 0 && (c.command =? LOCATE && l.operation =? format)) (Formatted (first_block s.extent l) ∷ []) []

module _ (dev : Device) where
  -- of the chain from command i on, n commands at most
  unfoldable pub formats_in : List ℕ → ℕ → ℕ → System → List Event
  formats_in chain zero i y = []
  formats_in chain (suc n) i y =
      pick (more dev chain i y) (formats_in chain n (i + 1) (next dev chain i y)) []
      ++ format_of (command_at chain i) y.state y.main (step_at dev chain i y).done.cause

  -- of a chain that no cause from 1 to 6, nor 8, refuses
  unfoldable pub formats_of : List ℕ → List ℕ → Held → List ℕ → List Event
  formats_of chain main d answers =
      let y = system (start (record_of d.unit) (map_of d.unit)) main d.store answers 0 in
      pick (first_of (host_causes dev chain main d.store d.unit answers) =? 0) (formats_in chain (length (commands_in chain)) 0 y) []

  -- of chains that are marked one after the other
  unfoldable pub formats_each : List (List ℕ) → List ℕ → Held → List ℕ → List Event
  formats_each [] main d results = []
  formats_each (chain ∷ chains) main d results =
      let size = result_size (length chain) in
      let m = mark_of dev chain main d.store d.unit (take size results) in
      formats_each chains m.main (held m.store m.unit) (drop size results) ++ formats_of chain main d (drop head_size (take size results))

  unfoldable pub acted : Held → Act → Held
  acted d (Runs chain main answers) =
      let r = host_call_of dev chain main d.store d.unit answers in
      held r.store r.unit
  acted d (Marks chains main results) =
      let r = (run_class_of dev chains main d.store d.unit results).left in
      held r.store r.unit
  acted d (GivesBack block) =
      let r = give_back_of dev d.store d.unit block in
      held r.store r.unit

  unfoldable pub events_of : Held → Act → List Event
  events_of d (Runs chain main answers) = formats_of chain main d answers
  events_of d (Marks chains main results) = pick (bad_class (chains_in chains) (length results)) [] (formats_each (get_or (chains_in chains) []) main d results)
  events_of d (GivesBack block) = pick (first_of (give_back_causes dev d.store d.unit block) =? 0) (Returned block ∷ []) []

  unfoldable pub held_after : List Act → Held → Held
  held_after [] d = d
  held_after (a ∷ acts) d = held_after acts (acted d a)

  unfoldable pub history_of : List Act → Held → List Event
  history_of [] d = []
  history_of (a ∷ acts) d = history_of acts (acted d a) ++ events_of d a

-- what is lent to a call is bytes
abbrev pub LentBytes : List Act → Type 0
LentBytes [] = Unit {0}
LentBytes (Runs chain main answers ∷ acts) = (AreBytes chain × AreBytes main × AreBytes answers) × LentBytes acts
LentBytes (Marks chains main results ∷ acts) = (AreBytes chains × AreBytes main × AreBytes results) × LentBytes acts
LentBytes (GivesBack block ∷ acts) = LentBytes acts
