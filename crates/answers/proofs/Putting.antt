-- Laws of what is put for a command.
--     put_words, put_marked      an answer is put: its two numbers, one after the other, and the mark of a wrong length
--     put_none, put_lent_zeros   no zeros are put; a part that was lent is all zeros
--     put_given                  the zeros, then the last answer, are the answers of the command
-- No contract cites this file.
use Prim.Native.Nat.{ℕ, ◌+◌, ◌-◌, ◌*◌, ◌≤◌}
use mathlib.Core.Path.{◌≡◌, sym, ap, ◌∙◌}
use mathlib.Core.Bool.{Bool, true, false}
use mathlib.Core.List.{List, ◌++◌}
use lib.ListN.{length, take, set}
use native.Mathlib.Omega.{arith}
use Rattle.numbers.specs.Choice.{pick}
use Rattle.numbers.specs.Big.{bytes4}
use Rattle.slices.specs.Parts.{zeros, put}
use Rattle.slices.proofs.Laws.{length_zeros, put_nil, put_more, put_second, put_lent_whole}
use borrow.Rule.Slice.PartMut.{mid_of, put_mid, mid_len}
use Rattle.model.specs.Names.{INCORRECT_LENGTH}
use Rattle.model.specs.declared.decoded.Area.{Area}
use Rattle.endings.specs.declared.Answer.{Answer}
use Rattle.endings.specs.Ending.{with_residual, answer_bytes, marked}
use Rattle.answers.specs.Reached.{spread_over, answers_given}

pub put_words : (answers first both f b : List ℕ) (at front back : ℕ) → f ≡ bytes4 front → b ≡ bytes4 back → first ≡ put answers at (take 4 f) → both ≡ put first (at + 4) (take 4 b)
    → at ≤ length answers → both ≡ put answers at (bytes4 front ++ bytes4 back)
put_words answers first both f b at front back d e g h l = h ∙ rw (g, d, e) (put_more answers at (bytes4 front) (bytes4 back) l)

pub put_marked : (answers both marks : List ℕ) (at front back : ℕ) (wrong : Bool) → both ≡ put answers at (bytes4 front ++ bytes4 back) → marks ≡ pick wrong (set both (at + 1) INCORRECT_LENGTH) both
    → at ≤ length answers → marks ≡ put answers at (marked wrong (bytes4 front ++ bytes4 back))
unfolding pick
put_marked answers both marks at front back true e f l = f ∙ rw e (put_second answers at _ _ _ INCORRECT_LENGTH l)
put_marked answers both marks at front back false e f l = f ∙ e

pub put_none : (answers : List ℕ) (at n : ℕ) → n ≡ 0 → answers ≡ put answers at (zeros (n * 8))
unfolding zeros
put_none answers at n e = rw e (sym (put_nil answers at))

pub put_lent_zeros : (answers back : List ℕ) (from n : ℕ) → back ≡ zeros (length (mid_of (from * 8) ((from + n) * 8 - from * 8) answers)) → (from + n) * 8 ≤ length answers
    → put_mid (from * 8) ((from + n) * 8 - from * 8) answers back ≡ put answers (from * 8) (zeros (n * 8))
put_lent_zeros answers back from n e h =
    let end : (from + n) * 8 ≡ from * 8 + n * 8 = omega arith in
    let long : length (mid_of (from * 8) ((from + n) * 8 - from * 8) answers) ≡ n * 8 = mid_len (from * 8) ((from + n) * 8) answers h ∙ omega arith in
    let all : back ≡ zeros (n * 8) = rw long at e in
    rw end (put_lent_whole answers back (from * 8) (n * 8) (rw (all, ← end, long) (length_zeros (n * 8))) (omega arith) ∙ ap (put answers (from * 8)) all)

pub put_given : (chain : List ℕ) (a : Area) (last : Answer) (moved : ℕ) (wrong : Bool) (answers cleared both : List ℕ) (given filled residual : ℕ)
    → filled ≡ (spread_over chain a moved).filled → residual ≡ (spread_over chain a moved).residual → cleared ≡ put answers (given * 8) (zeros (filled * 8))
    → both ≡ put cleared ((given + filled) * 8) (marked wrong (answer_bytes (with_residual last residual))) → given * 8 ≤ length answers
    → both ≡ put answers (given * 8) (answers_given chain a last moved wrong)
unfolding answers_given
put_given chain a last moved wrong answers cleared both given filled residual p q e f l =
    let answer = marked wrong (answer_bytes (with_residual last residual)) in
    let behind : (given + filled) * 8 ≡ given * 8 + length (zeros (filled * 8)) = rw length_zeros (omega arith) in
    f ∙ rw (e, behind, ← p, ← q) (put_more answers (given * 8) (zeros (filled * 8)) answer l)
