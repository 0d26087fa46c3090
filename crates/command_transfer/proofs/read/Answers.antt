-- `read` meets its contract. The cause that was found refuses it; where there is none a sound state places the blocks, which are moved. Assumes nothing.
use mathlib.Core.Path.{refl}
use borrow.Author.Rules.{rules}
use Rattle.command_transfer.proofs.Transfers.{placed, reading, transfer_refused, passed, move_asks, done_asks, read_ends}
use Rattle.command_transfer.proofs.read.Goals as goal

pub returns-in-Err : goal.returns-in-Err
returns-in-Err c =
    λ u. transfer_refused (reading c.requires) c.reads.ensures c.in-Err.ensures c.in-Err.cause refl c.refuse.ensures

pub located_move-m-requires : goal.located_move-m-requires
located_move-m-requires c = let p = (passed (reading c.requires) c.reads.ensures c.in_default.ensures refl) in placed _ _ _ _ p.transfer.sound p.located

pub read_blocks-requires : goal.read_blocks-requires
read_blocks-requires c = move_asks (passed (reading c.requires) c.reads.ensures c.in_default.ensures refl) c.located_move-m.ensures

pub read_done-requires : goal.read_done-requires
read_done-requires c =
    done_asks (passed (reading c.requires) c.reads.ensures c.in_default.ensures refl) c.located_move-m.ensures (search (rules, c.struct_known-1))

pub returns : goal.returns
returns c =
    λ u. read_ends (passed (reading c.requires) c.reads.ensures c.in_default.ensures refl) c.requires.2 c.read_done.ensures c.located_move-m.ensures c.read_blocks.ensures
