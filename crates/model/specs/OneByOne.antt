-- Request 3's theorem: a class leaves, and gives each of its chains, what the calls one by one would.
--     Finds         what a chain finds of storage, store and record
--     after_call    what its call leaves of them
--     found_by      what chain i finds: the calls of the chains before it made, one after the other
--     result_at     where the result of chain i begins in what is lent; room_at, room_length   its room, behind the head
--     call_on       its call, on what it finds: it is lent its own room; call_at   its call in a class that finds f
--     OneByOne      what a class leaves, by these; all else of the results stays
-- `proofs/OneByOne.antt` proves it of every class that cause 7 does not refuse. Assumes nothing.
use Rattle.std.specs.Prelude.{ℕ, zero, suc, ◌+◌, ◌-◌, ◌*◌, ◌/◌, ◌%◌, ◌≤◌, ◌<◌, ◌≡◌, List, [], length, get_or, take}
use Rattle.numbers.specs.Big.{be2}
use Rattle.slices.specs.Parts.{part}
use Rattle.model.specs.declared.device.Device.{Device}
use Rattle.model.specs.Answer.{answer_size}
use Rattle.model.specs.Host.{Hosted, host_call_of}
use Rattle.model.specs.Class.{head_size, result_size, results_of, Marked}

pub record Finds : Type 0 where
  pub main : List ℕ
  pub store : List ℕ
  pub unit : List ℕ

abbrev pub after_call : Hosted → Finds
after_call h = record { main = h.main; store = h.store; unit = h.unit }

module _ (chains : List (List ℕ)) (i : ℕ) where
  abbrev pub chain_at : List ℕ
  chain_at = get_or chains i []

  abbrev pub result_at : ℕ
  result_at = results_of (take i chains)

  -- where its room begins, and how long it is
  abbrev pub room_at : ℕ
  room_at = result_at + head_size

  abbrev pub room_length : ℕ
  room_length = result_size (length chain_at) - head_size

module _ (dev : Device) (chains : List (List ℕ)) (results : List ℕ) where
  abbrev pub call_on : ℕ → Finds → Hosted
  call_on i f = host_call_of dev (chain_at chains i) f.main f.store f.unit (part results (room_at chains i) (room_length chains i))

  unfoldable pub found_by : ℕ → Finds → Finds
  found_by zero f = f
  found_by (suc i) f = after_call (call_on i (found_by i f))

  abbrev pub call_at : Finds → ℕ → Hosted
  call_at f i = call_on i (found_by i f)

-- f is what was lent, m what is left
pub record OneByOne (dev : Device) (chains : List (List ℕ)) (f : Finds) (results : List ℕ) (m : Marked) : Type 0 where
  pub main : m.main ≡ (found_by dev chains results (length chains) f).main
  pub store : m.store ≡ (found_by dev chains results (length chains) f).store
  pub unit : m.unit ≡ (found_by dev chains results (length chains) f).unit
  pub cause : (i : ℕ) → i < length chains → be2 m.results (result_at chains i) ≡ (call_at dev chains results f i).result / 256
  pub reached : (i : ℕ) → i < length chains → be2 m.results (result_at chains i + 2) ≡ (call_at dev chains results f i).result % 256
  -- its room is enough for any chain that no other cause refuses
  pub never_4 : (i : ℕ) → i < length chains → (call_at dev chains results f i).result / 256 ≡ 4 → ⊥
  pub answers : (i : ℕ) → i < length chains → part m.results (room_at chains i) (room_length chains i) ≡ (call_at dev chains results f i).answers
  -- "used or not": bytes of room behind the answers stay
  pub unused : (i : ℕ) → i < length chains → (at : ℕ) → (call_at dev chains results f i).result % 256 * answer_size ≤ at → at < room_length chains i
      → get_or m.results (room_at chains i + at) 0 ≡ get_or results (room_at chains i + at) 0
  pub past : (at : ℕ) → results_of chains ≤ at → get_or m.results at 0 ≡ get_or results at 0
