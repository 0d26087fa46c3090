-- When what the code says of a command is what the definition says. No contract cites this file.
--     refused_ends, accepted_ends    of a command that was refused, and of one that was accepted; unread_ends   refused before it had read anything
--     decided_refused, decided_accepted
--                                    so of one that its table decided
--     refused_by, accepted_by, decided_by
--                                    the same, whole: by a cause without parameters; accepted; by the parameters of DEFINE EXTENT or LOCATE
use Prim.Native.Nat.{ℕ}
use mathlib.Core.Path.{◌≡◌, refl, sym, ap, subst, ◌∙◌}
use mathlib.Core.Bool.{Bool, true, false, ◌&&◌}
use mathlib.Core.List.{List, [], ◌∷◌}
use borrow.Author.Tests.{eqb-false, ne_eqb}
use Rattle.numbers.specs.Choice.{◌=?◌, pick, one_of}
use Rattle.numbers.proofs.Choice.{pick_true, pick_false, pick_both}
use Rattle.slices.specs.Parts.{zeros}
use Rattle.std.specs.Prelude.{Result, Err, ⊤}
use Rattle.model.specs.declared.cause.Cause.{Cause}
use Rattle.model.specs.declared.decoded.Decoded.{Decoded}
use Rattle.model.specs.declared.record.UnitRecord.{UnitRecord}
use Rattle.model.specs.Names.{NO_OPERATION}
use Rattle.model.specs.Lent.{flag}
use Rattle.model.specs.Pieces.{fetched}
use Rattle.model.specs.Decoded.{command_of, Decodes}
use Rattle.model.specs.Parameters.{locate_length}
use Rattle.model.specs.Sense.{shown}
use Rattle.model.specs.Causes.{kind_by, kind_of, bytes_read}
use Rattle.model.specs.Told.{cause_number, told, outcome_of}
use Rattle.model.proofs.Told.{refused_told}
use Rattle.model.specs.Commands.{Out, out, leaves, ended, refused, decided}
use Rattle.model.specs.Answer.{wrong_length}
use Rattle.model.proofs.Read.{unread_shows}
use Rattle.sense_table.specs.Sensed.{sense_showing}
use Rattle.sense_table.proofs.Stores.{sense_is, none_showing}
use Rattle.unit_state.specs.declared.Running.{Running}
use Rattle.unit_state.specs.Standing.{state_of}
use Rattle.endings.specs.declared.Ended.{Ended}
use Rattle.endings.specs.Ending.{wrong_told, wrong_by, accepted_end, parameters_refused, refused_end, Ends}

-- what the code carries of a command says its length wrong where the definition does
told_wrong : (chain : List ℕ) (c : Decoded) (can : ℕ) → Decodes chain c → wrong_told c can ≡ wrong_length (command_of chain c) can
unfolding wrong_length flag
told_wrong chain c can t = rw (t.count, t.flags) refl

-- a refused command's length is not held against what it could move
never_wrong : (n : ℕ) → (n ≡ 0 → ⊥) → (wrong : Bool) → wrong_by (kind_of n) wrong ≡ false
never_wrong n z wrong = by_kind (one_of (10 ∷ 11 ∷ 12 ∷ 13 ∷ []) n)
  where
    by_kind : (channels : Bool) → wrong_by (kind_by (n =? 0) channels) wrong ≡ false
    by_kind true = rw (ne_eqb n 0 z) refl
    by_kind false = rw (ne_eqb n 0 z) refl

module _ (u : UnitRecord) (chain : List ℕ) (c : Decoded) (decodes : Decodes chain c) (s : Running) (main store : List ℕ) where
  pub refused_ends : (w : Result ⊤ Cause) (n : ℕ) (p : List ℕ) (r : Ended) → r ≡ parameters_refused s w n p → n ≡ bytes_read (told w) → p ≡ shown (told w) (fetched (command_of chain c) main locate_length) → (told w ≡ 0 → ⊥)
      → Ends u (command_of chain c) s r main store (refused (command_of chain c) (state_of u s) main store (told w))
  unfolding refused
  refused_ends w n p r e k f z =
      rw (e, k, f)
      (record {
        left = record { state = ap (leaves (kind_of (told w)) (state_of u s)) (sense_is (told w) (shown (told w) (fetched (command_of chain c) main locate_length))); kind = refl; kept = λ y. absurd (z y); refused = λ _. refl; sense = refl };
        answer = refl;
        moved = refl;
        wrong = sym (never_wrong (told w) z _);
        main_same = refl;
        store_same = refl;
      })

  pub accepted_ends : (t : Running) (moved can blocks : ℕ) (r : Ended) (main' store' : List ℕ) (o : Out) → r ≡ accepted_end c t moved can blocks
      → t.kept ≡ (s.kept && c.command =? NO_OPERATION) → o.done ≡ ended (state_of u t) moved can blocks → main' ≡ o.main → store' ≡ o.store
      → Ends u (command_of chain c) s r main' store' o
  unfolding shown
  accepted_ends t moved can blocks r main' store' o e k d m x =
      rw e
      (record {
        left = record {
          state = rw d refl;
          kind = rw d refl;
          kept = λ _. k;
          refused = λ n. absurd (n (rw d refl));
          sense = rw d (sym (ap (sense_showing 0) (pick_false _ _ _ refl) ∙ none_showing));
        };
        answer = rw d refl;
        moved = rw d refl;
        wrong = rw d (told_wrong chain c can decodes);
        main_same = m;
        store_same = x;
      })

  pub decided_refused : (v w : ℕ) (r : Ended) (o : Out) → v ≡ w → (w ≡ 0 → ⊥) → Ends u (command_of chain c) s r main store (refused (command_of chain c) (state_of u s) main store w)
      → Ends u (command_of chain c) s r main store (decided (command_of chain c) (state_of u s) main store v o)
  unfolding decided
  decided_refused v w r o e n h = rw (e, pick_false (w =? 0) _ _ (ne_eqb w 0 n)) h

  pub decided_accepted : (v : ℕ) (r : Ended) (main' store' : List ℕ) (o : Out) → v ≡ 0 → Ends u (command_of chain c) s r main' store' o
      → Ends u (command_of chain c) s r main' store' (decided (command_of chain c) (state_of u s) main store v o)
  unfolding decided
  decided_accepted v r main' store' o e h = rw (e, pick_true (0 =? 0) o (refused (command_of chain c) (state_of u s) main store 0) refl) h

  -- by a cause that has read nothing, and shows none
  pub unread_ends : (w : Result ⊤ Cause) (r : Ended) → r ≡ refused_end s w → bytes_read (told w) ≡ 0 → (told w ≡ 0 → ⊥) → Ends u (command_of chain c) s r main store (refused (command_of chain c) (state_of u s) main store (told w))
  unfolding shown
  unread_ends w r e k = refused_ends w 0 (zeros locate_length) r e (sym k) (sym (pick_false _ _ _ (unread_shows (told w) k)))

  -- x is a command that a table decides

  -- refused, by a cause that has read nothing
  pub refused_by : (x : Out) (v : ℕ) (o : Out) (w : Cause) (r : Ended) → x ≡ decided (command_of chain c) (state_of u s) main store v o → r ≡ refused_end s (Err w) → v ≡ cause_number w → bytes_read (cause_number w) ≡ 0
      → Ends u (command_of chain c) s r main store x
  refused_by x v o w r d e f k =
      let n = eqb-false _ _ (refused_told w) in
      rw d (decided_refused v (cause_number w) r o f n (unread_ends (Err w) r e k n))

  -- accepted
  pub accepted_by : (x : Out) (v : ℕ) (o : Out) (t : Running) (moved can blocks : ℕ) (r : Ended) (main' store' : List ℕ)
      → x ≡ decided (command_of chain c) (state_of u s) main store v o → v ≡ 0 → r ≡ accepted_end c t moved can blocks
      → t.kept ≡ (s.kept && c.command =? NO_OPERATION) → out (ended (state_of u t) moved can blocks) main' store' ≡ o → Ends u (command_of chain c) s r main' store' x
  accepted_by x v o t moved can blocks r main' store' d f e k p =
      rw d (decided_accepted v r main' store' o f (rw (← p) (accepted_ends t moved can blocks r main' store' _ e k refl refl refl)))

-- by its parameters, and all that it moves is those. u is the record with the map as the command found it, w with the map that it leaves: if it is refused, the same
pub decided_by : (u w : UnitRecord) (chain : List ℕ) (c : Decoded) (decodes : Decodes chain c) (s : Running) (main store : List ℕ) (x : Out) (v : ℕ) (o : Out) (t : Running) (n : ℕ) (p : List ℕ) (r : Ended)
    → told (outcome_of v) ≡ v → x ≡ decided (command_of chain c) (state_of u s) main store v o → r ≡ pick (v =? 0) (accepted_end c t n n 0) (parameters_refused s (outcome_of v) n p)
    → (v =? 0 ≡ false → bytes_read v ≡ n) → (v =? 0 ≡ false → p ≡ shown v (fetched (command_of chain c) main locate_length)) → (v =? 0 ≡ false → w ≡ u)
    → t.kept ≡ (s.kept && c.command =? NO_OPERATION) → (v =? 0 ≡ true → out (ended (state_of w t) n n 0) main store ≡ o) → Ends w (command_of chain c) s r main store x
unfolding decided
decided_by u w chain c decodes s main store x v o t n p r named d e b q m k f =
    rw (d, e)
    (pick_both (λ (y : Ended) (z : Out). Ends w (command_of chain c) s y main store z) (v =? 0) _ _ _ _
    (λ z. rw (← (f z)) (accepted_ends w chain c decodes s main store t n n 0 _ main store _ refl k refl refl refl))
    (λ z. rw (m z)
    (subst (λ (x : ℕ). n ≡ bytes_read x → p ≡ shown x (fetched (command_of chain c) main locate_length) → (x ≡ 0 → ⊥)
    → Ends u (command_of chain c) s (parameters_refused s (outcome_of v) n p) main store (refused (command_of chain c) (state_of u s) main store x)) named
    (refused_ends u chain c decodes s main store (outcome_of v) n p _ refl) (sym (b z)) (q z) (eqb-false _ _ z))))
