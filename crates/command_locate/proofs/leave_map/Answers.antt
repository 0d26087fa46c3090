-- `leave_map` meets its contract. A format's block is one of the device's, so that its number is small. Assumes nothing.
use mathlib.Core.Path.{sym, ap, ◌∙◌}
use native.Mathlib.Omega.{arith}
use borrow.Author.Tests.{eq-eqb, ne_eqb}
use Rattle.numbers.proofs.Choice.{pick_true, pick_false}
use Rattle.model.specs.Alternates.{formatted}
use Rattle.model.specs.Commands.{map_after}
use Rattle.model.proofs.Safety.{located_below}
use Rattle.command_locate.proofs.leave_map.Goals as goal

pub returns-then-l-ne-FORMAT : goal.returns-then-l-ne-FORMAT
unfolding map_after
returns-then-l-ne-FORMAT c = sym (pick_false _ _ _ (ne_eqb _ _ c.if-l-ne-FORMAT.true))

pub address-block-requires : goal.address-block-requires
address-block-requires c = c.requires.1.from_first

pub format_block-requires : goal.format_block-requires
format_block-requires c =
    let within = c.requires.1 in
    let below = located_below c.args.e c.args.l 131072 c.requires.2 within in
    (c.requires.0.whole_map, c.requires.0.few_alternates, c.requires.3 c.if-l-ne-FORMAT.false, omega (arith, c.address-block.ensures, below, within.some))

pub returns : goal.returns
unfolding map_after
returns c =
    c.format_block.ensures ∙ ap (formatted c.args.map.now c.args.d.alternates) c.address-block.ensures ∙ sym (pick_true _ _ _ (eq-eqb _ _ c.if-l-ne-FORMAT.false))
