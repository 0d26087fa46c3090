-- A class, marked in one call (02, ask 3): "Run chains from one lent buffer, each after a two-byte length, each with a call's effects, in order."
--     chains_in       the chains of a buffer; none where "the lengths don't end at the buffer's end"
--     result_size     the results of a chain of this length: head_size bytes, then room for its answers; results_of   of all chains of a class
--     mark_of         a chain's call, on its own part of the results; Marked   what it leaves of all that is lent
--     mark_each_of    the calls of all chains, one after the other
--     bad_class       cause 7's rule
--     run_class_of    refused as a whole by 7, or every chain marked; ClassRun   its result, and what is left; run_class   on the device of every call of ours
-- Assumes nothing.
use Rattle.std.specs.Prelude.{ℕ, zero, suc, ◌+◌, ◌*◌, ◌/◌, ◌%◌, Bool, true, List, [], ◌∷◌, ◌++◌, length, take, drop}
use Rattle.std.proofs.Math.Option.{Option, none, some, map, get_or}
use Rattle.numbers.specs.Big.{be2, bytes2}
use Rattle.numbers.specs.Choice.{◌<?◌, ◌=?◌, pick}
use Rattle.slices.specs.Parts.{part}
use Rattle.model.specs.declared.device.Device.{Device}
use Rattle.model.specs.Answer.{answer_size}
use Rattle.model.specs.Chain.{class_a}
use Rattle.model.specs.Host.{Hosted, result_of, host_call_of}

-- "each after a two-byte length"; a length's bytes and its chain must both be there

abbrev pub length_size : ℕ
length_size = 2

-- n chains at most
unfoldable pub chains_from : ℕ → List ℕ → Option (List (List ℕ))
chains_from zero bytes = some []
chains_from (suc n) bytes =
    let taken = length_size + be2 bytes 0 in
    pick (length bytes =? 0) (some [])
    (pick (length bytes <? taken) none
    (map (λ chains. part bytes length_size (be2 bytes 0) ∷ chains) (chains_from n (drop taken bytes))))

-- each takes two bytes or more
unfoldable pub chains_in : List ℕ → Option (List (List ℕ))
chains_in bytes = chains_from (length bytes) bytes

-- "Each writes its cause (2 bytes) and commands reached (2), then has room for one answer per 8 bytes of its length, rounded up, used or not"

abbrev pub head_size : ℕ
head_size = 4

unfoldable pub result_size : ℕ → ℕ
result_size len = head_size + (len + 7) / 8 * answer_size

unfoldable pub results_of : List (List ℕ) → ℕ
results_of [] = 0
results_of (chain ∷ chains) = result_size (length chain) + results_of chains

unfoldable pub result_head : Hosted → List ℕ
result_head h = bytes2 (h.result / 256) ++ bytes2 (h.result % 256)

-- every byte that was lent to be written, afterwards
pub record Marked : Type 0 where
  pub main : List ℕ
  pub store : List ℕ
  pub unit : List ℕ
  pub results : List ℕ

abbrev pub behind : List ℕ → Marked → Marked
behind front m = record { main = m.main; store = m.store; unit = m.unit; results = front ++ m.results }

module _ (dev : Device) where
  -- `to` is the chain's own part of the results
  unfoldable pub mark_of : List ℕ → List ℕ → List ℕ → List ℕ → List ℕ → Marked
  mark_of chain main store unit to =
      let h = host_call_of dev chain main store unit (drop head_size to) in
      record { main = h.main; store = h.store; unit = h.unit; results = result_head h ++ h.answers }

  unfoldable pub mark_each_of : List (List ℕ) → List ℕ → List ℕ → List ℕ → List ℕ → Marked
  mark_each_of [] main store unit results = record { main = main; store = store; unit = unit; results = results }
  mark_each_of (chain ∷ chains) main store unit results =
      let size = result_size (length chain) in
      let m = mark_of chain main store unit (take size results) in
      behind m.results (mark_each_of chains m.main m.store m.unit (drop size results))

-- "the lengths don't end at the buffer's end or the lent results are shorter than all that room"
unfoldable pub bad_class : Option (List (List ℕ)) → ℕ → Bool
bad_class none lent = true
bad_class (some chains) lent = lent <? results_of chains

-- the result of the call, and what it left
pub record ClassRun : Type 0 where
  pub result : ℕ
  pub left : Marked

-- "first of all and with nothing run or written"
unfoldable pub run_class_of : Device → List ℕ → List ℕ → List ℕ → List ℕ → List ℕ → ClassRun
run_class_of dev chains main store unit results =
    pick (bad_class (chains_in chains) (length results))
    (record { result = result_of 7 0; left = record { main = main; store = store; unit = unit; results = results } })
    (record { result = result_of 0 0; left = mark_each_of dev (get_or (chains_in chains) []) main store unit results })

abbrev pub run_class : ℕ → List ℕ → List ℕ → List ℕ → List ℕ → List ℕ → ClassRun
run_class alternates = run_class_of (class_a alternates)
