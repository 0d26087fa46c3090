-- `store_blocks` meets its contract: the blocks are one row, or they go by windows. Assumes nothing.
use mathlib.Core.Path.{sym, ◌∙◌}
use Rattle.model.proofs.Blocks.{row_into_part}
use Rattle.blocks.proofs.Rows.{unmapped_row}
use Rattle.blocks.proofs.Asked.{row_movable}
use Rattle.blocks.proofs.store_blocks.Goals as goal

pub store_row-requires : goal.store_row-requires
store_row-requires c = row_movable _ _ _ _ _ _ _ _ _ c.requires

pub returns-then-no_alternate : goal.returns-then-no_alternate
returns-then-no_alternate c =
    let a = c.args in
    let none = sym c.no_alternate.ensures ∙ c.if-no_alternate.true in
    let row = unmapped_row a.d a.map.now a.store.now a.block a.blocks none in
    let inside = (row_movable _ _ _ _ _ _ _ _ _ c.requires).stored in
    rw (row_into_part a.d a.map.now a.store.now a.block a.blocks a.block _ row inside) c.store_row.ensures
