-- One chain of a class is marked, and then another.
--     refused_marked, ran_marked
--                       a chain that one of causes 1 to 6 refuses, and one that none of them does: the head, and the answers behind it
--     Marking           those ahead, marked behind the results so far, are the whole class marked
--     marking_none, marking_more, marked_all
--                       before the first turn, after one more, and at the end
--     next_room         what the next turn takes of the results
--     class_rules       what the check finds `class_wrong` by: cause 7's rule, of the first chain and those behind it
-- No contract cites this file.
use Prim.Native.Nat.{ℕ, ◌+◌, ◌-◌, ◌≤◌, ◌<◌}
use mathlib.Core.Path.{◌≡◌, refl, sym, ap, ◌∙◌}
use mathlib.Core.Bool.{false, false≢true}
use mathlib.Core.Option.{get_or}
use mathlib.Core.List.{List, [], ◌∷◌, ◌++◌, append_assoc}
use lib.ListN.{length, take, drop, take-append-drop}
use lib.Seq.{drop-drop}
use native.Mathlib.Omega.{arith}
use Rattle.std.specs.Prelude.{Result, Ok, Err, IfOk}
use borrow.Rule.Slice.PartMut.{mid_of, put_mid}
use Rattle.numbers.specs.Big.{be2, bytes2}
use Rattle.slices.specs.Parts.{part, put}
use Rattle.slices.proofs.Laws.{rest_lent, rest_back, length_put, take_put, drop_put, length_part, part_lent, put_lent_whole}
use Rattle.model.specs.declared.cause.Cause.{Cause}
use Rattle.model.specs.declared.device.Device.{Device}
use Rattle.model.specs.Rules.{first_of}
use Rattle.model.specs.Host.{Hosted, result_of, host_call_of}
use Rattle.model.specs.Class.{head_size, length_size, result_size, result_head, Marked, behind, mark_of, mark_each_of, chains_in, bad_class}
use Rattle.model.specs.Told.{cause_number, told}
use Rattle.model.proofs.Hosts.{result_reads}
use Rattle.model.proofs.Class.{FirstIn, right_first, mark_next, chains_none, right_end, wrong_short, wrong_room, wrong_next}
use Rattle.chain.specs.Outcome.{reached_in}
use Rattle.loughrella.specs.Sized.{sized_causes}
use Rattle.loughrella.proofs.Hosted.{refused_sized}

-- a class that is right ends with a chain
right_none : (bytes : List ℕ) (lent : ℕ) → length bytes < length_size + be2 bytes 0 → bad_class (chains_in bytes) lent ≡ false → length bytes ≡ 0
right_none [] lent h e = refl
right_none (b ∷ bytes) lent h e = absurd (false≢true (sym e ∙ wrong_short (b ∷ bytes) lent (omega arith) h))

few_in : (outcome : Result ℕ Cause) → IfOk outcome (λ reached. reached ≤ 32) → reached_in outcome ≤ 32
few_in (Ok reached) few = few
few_in (Err cause) few = omega arith

module _ (dev : Device) (chain main store unit to : List ℕ) where
  -- the room, as it is lent
  abbrev room : List ℕ
  room = mid_of head_size (length to - head_size) to

  marked_as : (h : Hosted) (given : List ℕ) (cause reached : ℕ) → h ≡ host_call_of dev chain main store unit room → h.result ≡ result_of cause reached → reached ≤ 32
      → given ≡ (bytes2 cause ++ bytes2 reached) ++ h.answers
      → record { main = h.main; store = h.store; unit = h.unit; results = given } ≡ mark_of dev chain main store unit to
  unfolding mark_of result_head
  marked_as h given cause reached e r few g =
      let called : h ≡ host_call_of dev chain main store unit (drop head_size to) = e ∙ ap (host_call_of dev chain main store unit) (rest_lent to head_size) in
      let reads = result_reads cause reached (omega arith) in
      rw (← called, g, r, reads.0, reads.1)

  pub refused_marked : (cause : Cause) → cause_number cause ≡ first_of (sized_causes dev chain main store unit room)
      → mark_of dev chain main store unit to ≡ record { main = main; store = store; unit = unit; results = (bytes2 (cause_number cause) ++ bytes2 0) ++ drop head_size to }
  refused_marked cause e =
      sym (marked_as _ _ (cause_number cause) 0 (sym (refused_sized dev chain main store unit room cause e)) refl (omega arith)
      (ap (λ (l : List ℕ). (bytes2 (cause_number cause) ++ bytes2 0) ++ l) (sym (rest_lent to head_size))))

  pub ran_marked : (outcome : Result ℕ Cause) (m s u a : List ℕ)
      → record { result = result_of (told outcome) (reached_in outcome); main = m; store = s; unit = u; answers = a } ≡ host_call_of dev chain main store unit room
      → IfOk outcome (λ reached. reached ≤ 32) → head_size ≤ length to
      → mark_of dev chain main store unit to
      ≡ record { main = m; store = s; unit = u; results = (bytes2 (told outcome) ++ bytes2 (reached_in outcome)) ++ drop head_size (put_mid head_size (length to - head_size) to a) }
  ran_marked outcome m s u a e few enough =
      sym (marked_as _ _ (told outcome) (reached_in outcome) e refl (few_in outcome few)
      (ap (λ (l : List ℕ). (bytes2 (told outcome) ++ bytes2 (reached_in outcome)) ++ l) (rest_back to a head_size enough)))

abbrev marked : Device → List ℕ → List ℕ → List ℕ → List ℕ → List ℕ → Marked
marked dev chains main store unit results = mark_each_of dev (get_or (chains_in chains) []) main store unit results

-- the class as it was lent
module _ (dev : Device) (chains main₀ store₀ unit₀ results₀ : List ℕ) where
  -- with these bytes ahead, and so much of the results used
  pub record Marking (ahead main store unit results : List ℕ) (used : ℕ) : Type 0 where
    pub room : used ≤ length results
    pub right : bad_class (chains_in ahead) (length results - used) ≡ false
    pub same : behind (take used results) (marked dev ahead main store unit (drop used results)) ≡ marked dev chains main₀ store₀ unit₀ results₀

  pub marking_none : bad_class (chains_in chains) (length results₀) ≡ false → Marking chains main₀ store₀ unit₀ results₀ 0
  marking_none right =
      let all : length results₀ - 0 ≡ length results₀ = omega arith in
      record { room = omega arith; right = rw all right; same = refl }

  module _ (ahead main store unit results : List ℕ) (used : ℕ) (k : Marking ahead main store unit results used) where
    -- no chain is ahead
    pub marked_all : length ahead < length_size + be2 ahead 0 → record { main = main; store = store; unit = unit; results = results } ≡ marked dev chains main₀ store₀ unit₀ results₀
    unfolding mark_each_of
    marked_all h = rw (chains_none ahead (right_none ahead _ h k.right), take-append-drop used results) at k.same

    module _ (there : length_size + be2 ahead 0 ≤ length ahead) where
      begins : FirstIn ahead (length results - used)
      begins = right_first ahead (length results - used) (omega (arith, there)) k.right

      abbrev size : ℕ
      size = result_size (be2 ahead 0)

      pub next_room : used + size ≤ length results
      next_room = omega (arith, begins.room, k.room)

      marked_next : (m s u back : List ℕ)
          → record { main = m; store = s; unit = u; results = back } ≡ mark_of dev (part ahead length_size (be2 ahead 0)) main store unit (part results used size)
          → length back ≡ size → Marking (drop (length_size + be2 ahead 0) ahead) m s u (put results used back) (used + size)
      unfolding part
      marked_next m s u back e long =
          let kept : length (put results used back) ≡ length results = length_put results used back (omega (arith, next_room, long)) in
          let left : length (put results used back) - (used + size) ≡ length results - used - size = omega (arith, kept) in
          let next = mark_next ahead (length results - used) (omega (arith, there)) k.right dev main store unit (drop used results) in
          let marked_so = rw (← e) at next in
          record {
            room = omega (arith, kept, next_room);
            right = rw left begins.right;
            same = rw (take_put results used back size long next_room, drop_put results used back size long next_room, ← (drop-drop size used results), append_assoc) (rw marked_so at k.same);
          }

      -- as the code lends the room
      module _ (n : ℕ) (ln : n ≡ size) where
        abbrev lent_room : List ℕ
        lent_room = mid_of used (used + n - used) results

        enough : used + n ≤ length results
        enough = rw ln next_room

        lent_long : length lent_room ≡ n
        lent_long = rw (part_lent results used n) (length_part results used n enough)

        pub head_fits : head_size ≤ length lent_room
        unfolding result_size
        head_fits = rw lent_long (omega (arith, ln))

        pub marking_more : (m s u back : List ℕ) → record { main = m; store = s; unit = u; results = back } ≡ mark_of dev (part ahead length_size (be2 ahead 0)) main store unit lent_room
            → length back ≡ length lent_room → Marking (drop (length_size + be2 ahead 0) ahead) m s u (put_mid used (used + n - used) results back) (used + n)
        marking_more m s u back e long =
            let whole = put_lent_whole results back used n long enough in
            let marked_so = rw (part_lent results used n, ln) at e in
            rw (whole, ln) (marked_next m s u back marked_so (long ∙ lent_long ∙ ln))

-- what `class_wrong` stands on
pub ruleset class_rules = (right_end, wrong_short, wrong_room, wrong_next, length_part)
