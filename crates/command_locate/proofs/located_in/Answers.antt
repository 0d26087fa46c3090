-- `located_in` meets its contract. Assumes nothing.
use lib.Bits.{and_mask, mask_lt}
use lib.ListN.{get_or}
use borrow.Author.Rules.{Fits-under}
use Rattle.model.specs.Parameters.{located_in}
use Rattle.command_locate.proofs.located_in.Goals as goal

pub overflow_cast-result : goal.overflow_cast-result
overflow_cast-result c = Fits-under _ _ 16 (mask_lt (get_or c.args.p.now 0 0) 4) tt

pub overflow_cast-result-2 : goal.overflow_cast-result-2
overflow_cast-result-2 c = Fits-under _ _ 65536 c.be2.ensures.1 tt

pub returns : goal.returns
unfolding located_in
returns c =
    let byte = get_or c.args.p.now 0 0 in
    (rw (and_mask byte 4, c.be4.ensures, c.be2.ensures.0), mask_lt byte 4, c.be2.ensures.1)
