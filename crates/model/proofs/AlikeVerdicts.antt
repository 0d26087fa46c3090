-- Demand 3, the verdicts: in two runs that are alike a command is given one cause.
--     Fits            what the demand says of one command: it is the DEFINE EXTENT, or its pieces lie apart from the parameters
--     fetched_same    the bytes that a command fetches from its data area are the same in both runs
--     define_same, locate_same, transfer_same
--                     the verdict of each command's own table is the same
--     verdict_same    so is that of all of them
-- No contract cites this file.
use Prim.Native.Nat.{ℕ, ◌+◌, ◌-◌, ◌<◌}
use mathlib.Core.Path.{◌≡◌, refl, sym, ap, ◌∙◌}
use mathlib.Core.Bool.{Bool, true}
use mathlib.Core.List.{List, ◌++◌}
use lib.ListN.{get_or, take}
use native.Mathlib.Omega.{arith}
use borrow.Author.Tests.{eqb-true, lt-ltb}
use Rattle.model.specs.declared.extent.Extent.{Extent}
use Rattle.model.specs.declared.device.Device.{Device}
use Rattle.model.specs.State.{State}
use Rattle.model.specs.Names.{DEFINE_EXTENT, LOCATE, READ_IPL}
use Rattle.numbers.specs.Choice.{◌<?◌}
use Rattle.model.specs.Rules.{Rule, first_of}
use Rattle.model.specs.Alternates.{unused_in}
use Rattle.model.specs.Lent.{block_count}
use Rattle.model.specs.Pieces.{Command, pieces, fetched}
use Rattle.model.specs.Parameters.{extent_length, extent_in, reserved_in, size_in, locate_length, address, outside, reads, writes}
use Rattle.model.specs.Causes.{channel_causes, unit_causes, extent_causes, define_extent_causes, permission_causes, location_causes, locate_causes, transfer_causes, own_causes, causes_of, verdict}
use Rattle.model.specs.Moved.{place_of, Off, ParametersApart}
use Rattle.numbers.proofs.Choice.{pick_both}
use Rattle.model.proofs.Verdicts.{first_same}
use Rattle.model.proofs.Blocks.{count_same}
use Rattle.model.proofs.AlikeMaps.{unused_same}
use Rattle.model.proofs.Alike.{parameter_same, Place, SoundPlace, place_spans, States, Mains, Stores, mains_gathered}

pub record Fits (F : Place) (c : Command) : Type 0 where
  pub own : c.command ≡ DEFINE_EXTENT → c ≡ F.define
  pub apart : (c.command ≡ DEFINE_EXTENT → ⊥) → (k : ℕ) → k < extent_length → Off (place_of F.define k) (pieces c)
  pub no_ipl : c.command ≡ READ_IPL → ⊥

module _ (F : Place) (c : Command) (m m' : List ℕ) (f : Fits F c) (g : Mains F m m') where
  pub fetched_same : (n : ℕ) → (c.command ≡ DEFINE_EXTENT → ⊥) → fetched c m n ≡ fetched c m' n
  unfolding fetched
  fetched_same n o = ap (take n) (mains_gathered F (pieces c) m m' (f.apart o) g)

  -- the parameters of the DEFINE EXTENT: the two extents, and the same bytes but for the offset
  pub extent_here : c.command ≡ DEFINE_EXTENT → extent_in (fetched c m extent_length) ≡ F.here
  extent_here e = rw (f.own e) g.here

  pub extent_there : c.command ≡ DEFINE_EXTENT → extent_in (fetched c m' extent_length) ≡ F.there
  extent_there e = rw (f.own e) g.there

  byte_same : ParametersApart F.define → c.command ≡ DEFINE_EXTENT → (i : ℕ) → i < 4 → get_or (fetched c m extent_length) i 0 ≡ get_or (fetched c m' extent_length) i 0
  byte_same p e i b = rw (f.own e) (parameter_same F.define m m' g.but g.lie p i (omega arith) (λ k. omega (arith, k)))

  reserved_same : ParametersApart F.define → c.command ≡ DEFINE_EXTENT → reserved_in (fetched c m extent_length) ≡ reserved_in (fetched c m' extent_length)
  unfolding reserved_in
  reserved_same p e = byte_same p e 1 (omega arith)

  dev_same : ParametersApart F.define → c.command ≡ DEFINE_EXTENT → size_in (fetched c m extent_length) ≡ size_in (fetched c m' extent_length)
  unfolding size_in
  dev_same p e = rw (byte_same p e 2 (omega arith), byte_same p e 3 (omega arith))

-- each command's own table

last_inside : (e : Extent) (n : ℕ) → e.offset.0 + (e.last.0 - e.first.0) < n → address e e.last <? n ≡ true
unfolding address
last_inside e n h = lt-ltb (e.last.0 - e.first.0 + e.offset.0) n (omega arith)

extent_same : (dev : Device) (n : ℕ) (p p' : List ℕ) (e e' : Extent) → extent_in p ≡ e → extent_in p' ≡ e' → e.mask ≡ e'.mask → e.first ≡ e'.first → e.last ≡ e'.last
    → reserved_in p ≡ reserved_in p' → size_in p ≡ size_in p' → address e e.last <? n ≡ true → address e' e'.last <? n ≡ true
    → extent_causes dev n p ≡ extent_causes dev n p'
unfolding extent_causes
extent_same dev n p p' e e' a b mask first last reserved sizes in-here in-there = rw (a, b, in-here, in-there, mask, first, last, reserved, sizes)

module _ (dev : Device) (F : Place) (k : SoundPlace dev F) (c : Command) (f : Fits F c) (s t : State) (r : States F s t) (m m' : List ℕ) (g : Mains F m m') where
  define_same : (n : ℕ) → c.command ≡ DEFINE_EXTENT → n ≡ block_count dev F.store
      → define_extent_causes dev n c s (fetched c m extent_length) ≡ define_extent_causes dev n c t (fetched c m' extent_length)
  unfolding define_extent_causes
  define_same n e w =
      let here = last_inside F.here n (rw w k.room) in
      let there = last_inside F.there n (rw (w, count_same dev F.store F.store' k.sizes) k.room') in
      let x = extent_same dev n _ _ F.here F.there (extent_here F c m m' f g e) (extent_there F c m m' f g e) k.mask k.first k.last
      (reserved_same F c m m' f g k.apart e) (dev_same F c m m' f g k.apart e) here there in
      rw (r.defined, x)

  -- u: the alternate that a format would take is the same
  locate_states : unused_in s.map dev.alternates ≡ unused_in t.map dev.alternates → (p : List ℕ) → locate_causes dev c s p ≡ locate_causes dev c t p
  unfolding locate_causes location_causes permission_causes outside
  locate_states u p = rw (r.defined, r.mask, r.first, r.last, r.unit, u)

  locate_same : unused_in s.map dev.alternates ≡ unused_in t.map dev.alternates → c.command ≡ LOCATE → locate_causes dev c s (fetched c m locate_length) ≡ locate_causes dev c t (fetched c m' locate_length)
  locate_same u e = locate_states u (fetched c m locate_length) ∙ ap (locate_causes dev c t) (fetched_same F c m m' f g locate_length (λ d. omega arith))

  transfer_same : (follows : ℕ → Bool) → transfer_causes follows s ≡ transfer_causes follows t
  unfolding transfer_causes
  transfer_same follows = rw (r.before, r.located)

-- all the lines that can apply to a command

channel_same : (F : Place) (c : Command) (m m' : List ℕ) → Mains F m m' → channel_causes c m ≡ channel_causes c m'
unfolding channel_causes
channel_same F c m m' g = rw g.but.long

unit_same : (F : Place) (c : Command) (s t : State) → States F s t → unit_causes c s ≡ unit_causes c t
unfolding unit_causes
unit_same F c s t r = rw r.unit

module _ (dev : Device) (F : Place) (k : SoundPlace dev F) (c : Command) (f : Fits F c) (s t : State) (r : States F s t) (m m' : List ℕ) (g : Mains F m m') (x x' : List ℕ) (h : Stores dev F s.map t.map x x') where
  own_same : first_of (own_causes dev c s m x) ≡ first_of (own_causes dev c t m' x')
  unfolding own_causes
  own_same =
      let Q : List Rule → List Rule → Type 0 = λ a b. first_of a ≡ first_of b in
      let u = unused_same F.here F.there (place_spans dev F k) s.map t.map h.maps dev.alternates in
      let n : block_count dev x ≡ block_count dev F.store = count_same dev x F.store h.long in
      let n' : block_count dev x' ≡ block_count dev F.store = count_same dev x' F.store (h.long' ∙ sym k.sizes) in
      pick_both Q _ _ _ _ _ (λ b. rw (n, n') (ap first_of (define_same dev F k c f s t r m m' g _ (eqb-true _ _ b) refl))) (λ _.
      pick_both Q _ _ _ _ _ (λ b. ap first_of (locate_same dev F k c f s t r m m' g u (eqb-true _ _ b))) (λ _.
      pick_both Q _ _ _ _ _ (λ b. absurd (f.no_ipl (eqb-true _ _ b))) (λ _.
      pick_both Q _ _ _ _ _ (λ _. ap first_of (transfer_same dev F k c f s t r m m' g reads)) (λ _.
      pick_both Q _ _ _ _ _ (λ _. ap first_of (transfer_same dev F k c f s t r m m' g writes)) (λ _. refl)))))

  pub verdict_same : verdict dev c s m x ≡ verdict dev c t m' x'
  unfolding verdict causes_of
  verdict_same = rw (← (channel_same F c m m' g), ← (unit_same F c s t r)) (first_same (channel_causes c m ++ unit_causes c s) _ _ (λ w. own_same))
