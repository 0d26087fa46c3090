-- What the stores of this crate leave, one after the other, is what the definition says.
--     counts_stored          of `put_counts`: the record that was there, with these counts
--     record_stored          of `pack`: the record
--     sense_made, sense_is   of `put_sense`: the sense of a unit check; that of any other chain, which is still what was found, or none
--     unit_left_lem          what a chain leaves of a record: another sense, other counts, and the rest as it was
--     left_stored            of `pack_left`: the record that is left
-- No contract cites this file.
use Prim.Native.Nat.{ℕ, ◌+◌, ◌≤◌}
use mathlib.Core.Path.{◌≡◌, refl, sym, ap, ◌∙◌}
use mathlib.Core.Logic.{◌⊎◌, inl, inr}
use mathlib.Core.List.{List, [], ◌∷◌, ◌++◌, append_assoc}
use native.Mathlib.Nat.{zero-add}
use native.Mathlib.Omega.{arith}
use lib.ListN.{length, get_or, set, drop, length-append, length-set, drop_of_length-le}
use lib.Seq.{drop-cons, get_or-set_same, get_or-set_other}
use Rattle.slices.specs.Parts.{part, put}
use Rattle.slices.proofs.Laws.{put_more, get_after, part_put, part_apart}
use Rattle.model.specs.declared.kind.Kind.{Kind}
use Rattle.model.specs.declared.kind.Kind.TheVariants.{Accepted, ProgramCheck, UnitCheck}
use Rattle.model.specs.declared.record.Record.{Record}
use Rattle.model.specs.State.{State}
use Rattle.model.specs.Causes.{kind_of}
use Rattle.model.specs.Log.{with_sense, with_counts}
use Rattle.model.specs.Commands.{after, leaves}
use Rattle.model.specs.Lent.{unit_bytes, record_of}
use Rattle.model.proofs.Leaving.{leaves_ind}
use Rattle.buffered_log.specs.Counts.{counted}
use Rattle.sense_table.specs.Sensed.{sense_bytes}
use Rattle.unit_state.specs.declared.Left.{Left}
use Rattle.unit_state.specs.Standing.{holding, sense_now, unit_of, state_of, unit_left}

-- more bytes are put behind the n that were put
put_behind : (d : List ℕ) (at n : ℕ) (bytes more : List ℕ) → length bytes ≡ n → at ≤ length d → put (put d at bytes) (at + n) more ≡ put d at (bytes ++ more)
put_behind d at n bytes more e h = rw e at (put_more d at bytes more h)

pub counts_stored : (r w m d d₁ d₂ d₃ : List ℕ) → length r ≡ 3 → length w ≡ 3 → length m ≡ 2 → length d ≡ 34
    → d₁ ≡ put d 24 r → d₂ ≡ put d₁ 27 w → d₃ ≡ put d₂ 30 m
    → d₃ ≡ unit_bytes (with_counts (record_of d) r w m)
unfolding unit_bytes record_of with_counts part put
counts_stored r w m d d₁ d₂ d₃ r-long w-long m-long n e₁ e₂ e₃ =
    let six : length (r ++ w) ≡ 6 = rw (length-append, r-long, w-long) in
    let eight : length (r ++ w ++ m) ≡ 8 = rw (length-append, six, m-long) in
    let end : drop 32 d ≡ get_or d 32 0 ∷ get_or d 33 0 ∷ [] =
    drop-cons d 32 0 (omega (arith, n)) ∙ ap (λ (x : List ℕ). get_or d 32 0 ∷ x)
    (drop-cons d 33 0 (omega (arith, n)) ∙ ap (λ (x : List ℕ). get_or d 33 0 ∷ x) (drop_of_length-le d {i = 34} (omega (arith, n)))) in
    rw (e₃, e₂, e₁)
    (rw (put_behind d 24 3 r w r-long (omega arith), put_behind d 24 6 (r ++ w) m six (omega arith), eight, end) (simp append_assoc))

-- the record that was there, with this sense
sense_put : (d sense : List ℕ) → length d ≡ 34 → length sense ≡ 24 → record_of (put d 0 sense) ≡ with_sense (record_of d) sense
unfolding record_of with_sense
sense_put d sense n m =
    let front : part (put d 0 sense) 0 24 ≡ sense = rw m at (part_put d 0 sense (omega arith)) in
    let same : (at k : ℕ) → 24 ≤ at → part (put d 0 sense) at k ≡ part d at k = λ at k h. part_apart d 0 sense at k (omega arith) (inr (omega arith)) in
    rw (front, same 24 3 (omega arith), same 27 3 (omega arith), same 30 2 (omega arith), get_after d 0 sense 32 (omega arith) (omega arith), get_after d 0 sense 33 (omega arith) (omega arith))
    refl

pub record_stored : (u : Record) (d d₁ : List ℕ) → length d ≡ 34 → length u.sense ≡ 24
    → d₁ ≡ put (set (set d 32 u.ready) 33 u.read_only) 0 u.sense
    → unit_bytes (with_counts (record_of d₁) u.blocks_read u.blocks_written u.movements) ≡ unit_bytes u
unfolding with_counts with_sense record_of
record_stored u d d₁ n m e =
    let b : List ℕ = set d 32 u.ready in
    let long : length b ≡ 34 = length-set d 32 _ ∙ n in
    let ready : get_or (set b 33 u.read_only) 32 0 ≡ u.ready = get_or-set_other b 33 32 _ 0 (λ h. omega (arith, h)) ∙ get_or-set_same d 32 _ 0 (omega arith) in
    let read_only : get_or (set b 33 u.read_only) 33 0 ≡ u.read_only = get_or-set_same b 33 _ 0 (omega arith) in
    ap (λ (v : Record). unit_bytes (with_counts v u.blocks_read u.blocks_written u.movements))
    (ap record_of e ∙ sense_put (set b 33 u.read_only) u.sense (length-set b 33 _ ∙ long) m)
    ∙ rw (ready, read_only) refl

pub sense_made : (u : Record) (l : Left) → l.kind ≡ UnitCheck → (unit_left u l).sense ≡ sense_bytes l.sense
unfolding after with_sense
sense_made u l e = ap (λ (q : Kind). (leaves q (state_of (holding u []) l.state) (sense_bytes l.sense)).unit.sense) e

-- the kinds that are no unit check
pub sense_is : (u : Record) (l : Left) → (l.kind ≡ Accepted) ⊎ (l.kind ≡ ProgramCheck) → (unit_left u l).sense ≡ sense_now u.sense l.state.kept
unfolding after state_of unit_of counted with_counts with_sense
sense_is u l (inl p) = rw p refl
sense_is u l (inr p) = rw p refl

pub unit_left_lem : (u : Record) (l : Left) → unit_left u l ≡ counted (with_sense u (unit_left u l).sense) l.state.counts
unfolding state_of unit_of counted with_counts with_sense after
unit_left_lem u l =
    leaves_ind (λ (s : State). s.unit ≡ counted (with_sense u s.unit.sense) l.state.counts) l.kind (state_of (holding u []) l.state) (sense_bytes l.sense) refl refl refl

-- `sense` is what the first 24 bytes came back as
pub left_stored : (l : Left) (d sense : List ℕ) → length d ≡ 34 → length sense ≡ 24 → sense ≡ (unit_left (record_of d) l).sense
    → (let k = l.state.counts in unit_bytes (with_counts (record_of (sense ++ drop 24 d)) k.blocks_read k.blocks_written k.movements)) ≡ unit_bytes (unit_left (record_of d) l)
unfolding put counted
left_stored l d sense n m e =
    let is : sense ++ drop 24 d ≡ put d 0 sense = rw (zero-add, m) refl in
    ap unit_bytes (ap (λ (v : Record). counted v l.state.counts) (ap record_of is ∙ sense_put d sense n m ∙ ap (with_sense (record_of d)) e) ∙ sym (unit_left_lem (record_of d) l))
