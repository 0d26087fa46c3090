-- `read_blocks` meets its contract: the blocks are one row, or they go by windows. Assumes nothing.
use mathlib.Core.Path.{sym, ◌∙◌}
use Rattle.model.proofs.Blocks.{row_from_part}
use Rattle.blocks.proofs.Rows.{unmapped_row}
use Rattle.blocks.proofs.Asked.{row_movable}
use Rattle.blocks.proofs.read_blocks.Goals as goal

pub read_row-requires : goal.read_row-requires
read_row-requires c = row_movable _ _ _ _ _ _ _ _ _ c.requires

pub returns-then-no_alternate : goal.returns-then-no_alternate
returns-then-no_alternate c =
    let a = c.args in
    let none = sym c.no_alternate.ensures ∙ c.if-no_alternate.true in
    let row = unmapped_row a.d a.map.now a.store.now a.block a.blocks none in
    rw (row_from_part a.d a.map.now a.store.now a.block a.blocks a.block row) c.read_row.ensures
