-- `read_ipl` meets its contract. 40 is the line of its table; past it block 0 is moved. Assumes nothing.
use mathlib.Core.Path.{refl, sym, ap, ◌∙◌}
use mathlib.Core.Bool.{not}
use native.Mathlib.Omega.{arith}
use Rattle.numbers.specs.Choice.{pick, one_of}
use Rattle.model.specs.Causes.{bytes_read, read_ipl_causes}
use Rattle.model.proofs.Verdicts.{first_here, first_later, first_none}
use Rattle.model.proofs.Blocks.{mounted_alternates, mounted_primaries}
use Rattle.model.proofs.Steps.{performed_as}
use Rattle.unit_state.specs.Standing.{holding, state_of}
use Rattle.endings.proofs.Ends.{refused_by}
use Rattle.model.specs.declared.cause.Cause.TheVariants.{IplNotFirst}
use Rattle.model.specs.Decoded.{command_of}
use Rattle.command_transfer.proofs.Transfers.{ipl_ends}
use Rattle.command_transfer.proofs.read_ipl.Goals as goal

pub returns-then-not-none_or_ipl : goal.returns-then-not-none_or_ipl
unfolding read_ipl_causes state_of bytes_read one_of pick
returns-then-not-none_or_ipl c =
    let a = c.args in
    λ u. refused_by (holding u a.map.now) a.chain.now a.c c.requires.1.told a.s a.main.now a.store.now _ _ _ IplNotFirst _ ((performed_as a.d (command_of a.chain.now a.c) _ a.main.now a.store.now).read_ipl_lem c.requires.2) c.refuse.ensures
    (first_here _ _ (ap not (sym c.none_or_ipl.ensures) ∙ (ap not c.if-not-none_or_ipl.true))) refl

pub read_mapped-requires : goal.read_mapped-requires
read_mapped-requires c =
    let h = c.requires.1 in
    let mounted = c.requires.0.mounted in
    record {
      mounted = mounted;
      stored = omega (arith, mounted.some_block);
      bytes = omega (arith, c.min-n.ensures);
      area = record { ccws = h.told.ccws; inside = h.inside; left = omega (arith, c.min-n.ensures, h.told.count) };
    }

pub block_count-requires : goal.block_count-requires
block_count-requires c =
    let mounted = c.requires.0.mounted in
    (mounted.device, mounted_alternates _ _ _ mounted)

pub ipl_done-requires : goal.ipl_done-requires
ipl_done-requires c =
    let mounted = c.requires.0.mounted in
    let blocks = c.block_count.ensures in
    (omega (arith, blocks, mounted.some_block), omega (arith, blocks, mounted_primaries _ _ _ mounted))

pub returns : goal.returns
unfolding read_ipl_causes state_of
returns c =
    let a = c.args in
    λ u. ipl_ends u a.d a.chain.now a.c a.s a.main.now a.store.now a.map.now _ c.requires.1 _ _ _ c.requires.2
    (first_later _ _ (ap not (sym c.none_or_ipl.ensures) ∙ (ap not c.if-not-none_or_ipl.false)) ∙ first_none)
    c.ipl_done.ensures c.min-n.ensures c.block_count.ensures c.read_mapped.ensures
