-- `copy_within` meets its contract: what is held begins with the part that was copied there, and that part goes to `at`. Assumes nothing.
use Rattle.std.proofs.Common.{◌≡◌, ◌+◌, ◌-◌, length, arith, ap, ◌∙◌}
use Rattle.std.proofs.Math.Seq.{take_at}
use Rattle.slices.specs.Parts.{part, put}
use Rattle.slices.proofs.Laws.{length_part, put_lent_whole}
use Rattle.slices.proofs.copy_within.Goals as goal

pub returns : goal.returns
unfolding part
returns c =
    let a = c.args in
    let n : a.from + a.n - a.from ≡ a.n = omega arith in
    let held : c.copy_from_slice.new.self ≡ part a.l.now a.from a.n = rw n at c.copy_from_slice.ensures.after in
    let long : length c.copy_from_slice.new.self ≡ a.n = ap length held ∙ length_part a.l.now a.from a.n c.requires.0 in
    put_lent_whole a.l.now _ a.at a.n c.copy_from_slice-2.ensures.len c.requires.1
    ∙ ap (put a.l.now a.at) (c.copy_from_slice-2.ensures.after ∙ take_at c.copy_from_slice.new.self _ a.n long ∙ held)
