-- Demand 3, a data set can be moved: what two calls have in common before, and what they then have in common after.
--     Own                    what each call is lent of its own: main storage and the store
--     InChain                a command that the chain can come to
--     place_of               where in main storage a byte of a command's data area stands
--     OneExtent, ParametersLie, ParametersApart, ParametersAlone, SameButOffset, HasRoom, NoneMapped, SameAlternates, SameData
--                            the sentences of the demand, one each
--     named, SameMaps        an entry with the extent's blocks named by displacement, and two maps that are equal so
--     MovedAnyMap, Moved     all of them but NoneMapped, and all of them
--     SameLent               what was lent ends alike
--     SameAfter, SameHosted  what they come to, and the same of two calls from C
-- Chain, unit record and answers are the same in both calls, and so is the map that they begin with. That `Moved` gives `SameAfter` is `moved_same` in
-- `proofs/MovedRun.antt`. A sentence of the demand is not asked for: that the first displacement is not above the last. Where it
-- fails the DEFINE EXTENT is refused in both calls, and alike.
-- No rule of the unit stands here, and none of them cites this file. Assumes nothing.
use Rattle.std.specs.Prelude.{ℕ, ◌+◌, ◌-◌, ◌≤◌, ◌<◌, ◌≡◌, ◌⊎◌, Bool, true, false, ◌&&◌, List, [], ◌∷◌, length, get_or, take}
use Rattle.numbers.specs.Choice.{◌<?◌, pick}
use Rattle.model.specs.declared.ccw.Piece.{Piece}
use Rattle.model.specs.declared.extent.Extent.{Extent}
use Rattle.model.specs.declared.device.Device.{Device}
use Rattle.model.specs.Names.{DEFINE_EXTENT, READ_IPL, chain_command}
use Rattle.model.specs.Alternates.{name_of, entry_at}
use Rattle.model.specs.Lent.{flag, block_count, alternate_at, block_at, map_place, map_of}
use Rattle.model.specs.Pieces.{Command, pieces, commands_in, command_at, final, fetched}
use Rattle.model.specs.Parameters.{extent_length, extent_in}
use Rattle.model.specs.Chain.{Called}
use Rattle.model.specs.Host.{Hosted}

-- what each call is lent of its own
pub record Own : Type 0 where
  pub main : List ℕ
  pub store : List ℕ

abbrev pub own : List ℕ → List ℕ → Own
own main store = record { main = main; store = store }

-- the chain, up to the command where it ends: each command before this one has flag 40 in its last piece
pub record InChain (chain : List ℕ) (i : ℕ) : Type 0 where
  pub lent : i < length (commands_in chain)
  pub chained : (j : ℕ) → j < i → flag (final (command_at chain j)) chain_command ≡ true

-- "has exactly one DEFINE EXTENT and no READ IPL": command d is the one
pub record OneExtent (chain : List ℕ) (d : ℕ) : Type 0 where
  pub in_chain : InChain chain d
  pub defines : (command_at chain d).command ≡ DEFINE_EXTENT
  pub only : (i : ℕ) → InChain chain i → (command_at chain i).command ≡ DEFINE_EXTENT → i ≡ d
  pub no_ipl : (i : ℕ) → InChain chain i → (command_at chain i).command ≡ READ_IPL → ⊥

-- the place of byte k of some pieces
unfoldable pub place_in : Piece → List Piece → ℕ → ℕ
place_in p [] k = p.address + k
place_in p (q ∷ qs) k = pick (k <? p.count) (p.address + k) (place_in q qs (k - p.count))

abbrev pub place_of : Command → ℕ → ℕ
place_of c k = place_in c.first c.later k

-- byte k is one of the n bytes from a place on
abbrev pub Among : ℕ → ℕ → ℕ → Type 0
Among at n k = (at ≤ k) × (k < at + n)

-- a place is in none of these pieces
abbrev pub Off : ℕ → List Piece → Type 0
Off at [] = Unit {0}
Off at (p ∷ ps) = (Among p.address p.count at → ⊥) × Off at ps

-- "the sixteen bytes are those gathered": they lie in main storage
abbrev pub ParametersLie : Command → List ℕ → Type 0
ParametersLie c main = (k : ℕ) → k < extent_length → place_of c k < length main

-- "the Define Extent's own pieces do not overlap": sixteen bytes, sixteen places
abbrev pub ParametersApart : Command → Type 0
ParametersApart c = (j k : ℕ) → j < extent_length → k < extent_length → place_of c j ≡ place_of c k → j ≡ k

-- "no other command's data area .. touches them", where "data area" means every piece
abbrev pub ParametersAlone : List ℕ → ℕ → Type 0
ParametersAlone chain d = (i : ℕ) → InChain chain i → (i ≡ d → ⊥) → (k : ℕ) → k < extent_length → Off (place_of (command_at chain d) k) (pieces (command_at chain i))

-- "Main storage is equal but for the four offset bytes among them": as long, and equal at any other place
pub record SameButOffset (c : Command) (x y : List ℕ) : Type 0 where
  pub long : length x ≡ length y
  pub same : (i : ℕ) → ((k : ℕ) → Among 4 4 k → i ≡ place_of c k → ⊥) → get_or x i 0 ≡ get_or y i 0

-- an entry names a block of the extent
abbrev pub names_within : Extent → ℕ → Bool
names_within e entry = e.offset.0 <? entry && entry <? name_of (e.offset.0 + (e.last.0 - e.first.0)) + 1

-- "no mapped block in either place"
abbrev pub NoneMapped : Extent → List ℕ → Type 0
NoneMapped e map = (i : ℕ) → names_within e (entry_at map i) ≡ false

-- "the extent's blocks are named by displacement": a number that is a displacement, or an entry. The two are never equal
pub record Name : Type 0 where
  pub displaced : Bool
  pub number : ℕ

abbrev pub named : Extent → ℕ → Name
named e entry = record { displaced = names_within e entry; number = pick (names_within e entry) (e.first.0 + (entry - name_of e.offset.0)) entry }

-- "the two maps end equal once"
abbrev pub SameMaps : Extent → Extent → List ℕ → List ℕ → Type 0
SameMaps e e' map map' = (i : ℕ) → named e (entry_at map i) ≡ named e' (entry_at map' i)

module _ (dev : Device) where
  -- "leave room for the extent (offset + last - first below the device's block count)"
  abbrev pub HasRoom : Extent → List ℕ → Type 0
  HasRoom e store = e.offset.0 + (e.last.0 - e.first.0) < block_count dev store

  -- "the same alternates, data included, in both devices"
  abbrev pub SameAlternates : List ℕ → List ℕ → Type 0
  SameAlternates store store' = (i : ℕ) → i < dev.alternates → alternate_at dev store i ≡ alternate_at dev store' i

  -- "the extent's blocks hold the same data at both places", where "block" means what READ would show
  abbrev pub SameData : Extent → Extent → List ℕ → List ℕ → List ℕ → List ℕ → Type 0
  SameData e e' map store map' store' = (k : ℕ) → k ≤ e.last.0 - e.first.0 → block_at dev map store (e.offset.0 + k) ≡ block_at dev map' store' (e'.offset.0 + k)

  -- "no block outside the extent changes": of the device's, which held `store` with `map` and hold `store'` with `map'`
  abbrev pub KeptOutside : Extent → List ℕ → List ℕ → List ℕ → List ℕ → Type 0
  KeptOutside e map store map' store' =
      (n : ℕ) → n < block_count dev store → (n < e.offset.0) ⊎ (e.offset.0 + (e.last.0 - e.first.0) < n) → block_at dev map' store' n ≡ block_at dev map store n

-- what the sixteen bytes say
abbrev pub extent_at : List ℕ → ℕ → Own → Extent
extent_at chain d l = extent_in (fetched (command_at chain d) l.main extent_length)

-- two calls with one chain and one map, l lent in the one and l' in the other
module _ (dev : Device) (chain : List ℕ) (d : ℕ) (map : List ℕ) (l l' : Own) where
  -- all sentences but the one about mapped blocks
  pub record MovedAnyMap : Type 0 where
    pub one : OneExtent chain d
    pub lie : ParametersLie (command_at chain d) l.main
    pub apart : ParametersApart (command_at chain d)
    pub alone : ParametersAlone chain d
    pub typed : SameButOffset (command_at chain d) l.main l'.main
    pub sizes : length l.store ≡ length l'.store
    pub room : HasRoom dev (extent_at chain d l) l.store
    pub room' : HasRoom dev (extent_at chain d l') l'.store
    pub alternates : SameAlternates dev l.store l'.store
    pub blocks : SameData dev (extent_at chain d l) (extent_at chain d l') map l.store map l'.store

  pub record Moved : Type 0 where
    pub lent : MovedAnyMap
    pub unmapped : NoneMapped (extent_at chain d l) map
    pub unmapped' : NoneMapped (extent_at chain d l') map

  -- what was lent ends alike: k and map m are left of l, k' and map m' of l'
  pub record SameLent (m m' : List ℕ) (k k' : Own) : Type 0 where
    pub maps : SameMaps (extent_at chain d l) (extent_at chain d l') m m'
    pub storage : SameButOffset (command_at chain d) k.main k'.main
    pub alternates : SameAlternates dev k.store k'.store
    pub blocks : SameData dev (extent_at chain d l) (extent_at chain d l') m k.store m' k'.store
    pub outside : KeptOutside dev (extent_at chain d l) map l.store m k.store
    pub outside' : KeptOutside dev (extent_at chain d l') map l'.store m' k'.store

  -- r and r' are what the two calls gave
  pub record SameAfter (r r' : Called) : Type 0 where
    pub cause : r.cause ≡ r'.cause
    pub reached : r.reached ≡ r'.reached
    pub unit : r.unit ≡ r'.unit
    pub answers : r.answers ≡ r'.answers
    pub lent : SameLent r.map r'.map (own r.main r.store) (own r'.main r'.store)

  -- of the records' bytes all but the map are equal
  pub record SameHosted (r r' : Hosted) : Type 0 where
    pub result : r.result ≡ r'.result
    pub unit : take map_place r.unit ≡ take map_place r'.unit
    pub answers : r.answers ≡ r'.answers
    pub lent : SameLent (map_of r.unit) (map_of r'.unit) (own r.main r.store) (own r'.main r'.store)
