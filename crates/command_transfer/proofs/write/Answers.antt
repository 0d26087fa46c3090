-- `write` meets its contract, as `read` does. Assumes nothing.
use mathlib.Core.Path.{refl}
use borrow.Author.Rules.{rules}
use Rattle.command_transfer.proofs.Transfers.{placed, writing, transfer_refused, passed, move_asks, done_asks, write_ends}
use Rattle.command_transfer.proofs.write.Goals as goal

pub returns-in-Err : goal.returns-in-Err
returns-in-Err c =
    λ u. transfer_refused (writing c.requires) c.writes.ensures c.in-Err.ensures c.in-Err.cause refl c.refuse.ensures

pub located_move-m-requires : goal.located_move-m-requires
located_move-m-requires c = let p = (passed (writing c.requires) c.writes.ensures c.in_default.ensures refl) in placed _ _ _ _ p.transfer.sound p.located

pub store_blocks-requires : goal.store_blocks-requires
store_blocks-requires c = move_asks (passed (writing c.requires) c.writes.ensures c.in_default.ensures refl) c.located_move-m.ensures

pub write_done-requires : goal.write_done-requires
write_done-requires c =
    done_asks (passed (writing c.requires) c.writes.ensures c.in_default.ensures refl) c.located_move-m.ensures (search (rules, c.struct_known-1))

pub returns : goal.returns
returns c =
    λ u. write_ends (passed (writing c.requires) c.writes.ensures c.in_default.ensures refl) c.requires.2 c.write_done.ensures c.located_move-m.ensures c.store_blocks.ensures
