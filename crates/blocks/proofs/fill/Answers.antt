-- `fill` meets its contract: what is fetched, and the rest cleared. Assumes nothing.
use Prim.Native.Nat.{ℕ}
use mathlib.Core.Path.{◌≡◌, sym, ap, ◌∙◌}
use mathlib.Core.List.{◌++◌}
use lib.ListN.{take, drop}
use lib.Seq.{length-take-le}
use Rattle.slices.specs.Parts.{zeros, put}
use Rattle.slices.proofs.Laws.{put_copied, pad_cleared}
use Rattle.model.specs.Pieces.{bytes_in}
use Rattle.model.specs.Decoded.{area_of}
use Rattle.storage.proofs.Laws.{length_taken}
use Rattle.blocks.proofs.fill.Goals as goal

pub returns : goal.returns
unfolding zeros
returns c =
    let a = c.args in
    let area = c.requires.1 in
    let pieces = area_of a.chain.now a.a in
    let bytes = take a.n (bytes_in pieces a.main.now) in
    let long = length_taken pieces a.main.now a.n area.inside area.left in
    let fetched : c.fetch.new.to ≡ bytes = rw (length-take-le a.n a.part.now c.requires.0) at c.fetch.ensures in
    let front : c.fetch.new.to ++ drop a.n a.part.now ≡ put a.part.now 0 bytes = rw fetched (ap (λ (k : ℕ). bytes ++ drop k a.part.now) (sym long) ∙ put_copied a.part.now bytes) in
    pad_cleared a.part.now bytes _ _ a.n long c.requires.0 front (c.fill.ensures.after (λ y e. e))
