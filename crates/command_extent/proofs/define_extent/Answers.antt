-- `define_extent` meets its contract. 20 and 21 are lines of its table; past them the sixteen bytes are there, and decide. Assumes nothing.
use mathlib.Core.Path.{refl, ◌∙◌}
use native.Mathlib.Omega.{arith}
use borrow.Author.Tests.{lt-ltb, le-ltb}
use Rattle.slices.specs.Parts.{zeros}
use Rattle.numbers.specs.Choice.{pick, one_of}
use Rattle.model.specs.Pieces.{fetched}
use Rattle.model.specs.Lent.{block_count}
use Rattle.model.specs.Causes.{bytes_read, define_extent_causes}
use Rattle.model.specs.declared.cause.Cause.TheVariants.{ShortExtent, SecondExtent}
use Rattle.model.specs.Decoded.{command_of}
use Rattle.model.proofs.Verdicts.{first_here, first_later}
use Rattle.model.proofs.Steps.{performed_as}
use Rattle.unit_state.specs.Standing.{state_of}
use Rattle.endings.proofs.Ends.{refused_by}
use Rattle.command_extent.proofs.Defining.{define_ends}
use Rattle.command_extent.proofs.define_extent.Goals as goal

pub returns-then-c-lt-EXTENT : goal.returns-then-c-lt-EXTENT
unfolding define_extent_causes state_of bytes_read one_of pick
returns-then-c-lt-EXTENT c =
    let a = c.args in
    λ u. refused_by u a.chain.now a.c c.requires.2.told a.s a.main.now a.store.now _ _ _ ShortExtent _ ((performed_as a.d (command_of a.chain.now a.c) _ a.main.now a.store.now).define_extent_lem c.requires.3)
    c.refuse.ensures (first_here _ _ (lt-ltb _ _ (rw c.requires.2.told.count at c.if-c-lt-EXTENT.true))) refl

pub returns-then-s : goal.returns-then-s
unfolding define_extent_causes state_of bytes_read one_of pick
returns-then-s c =
    let a = c.args in
    λ u. refused_by u a.chain.now a.c c.requires.2.told a.s a.main.now a.store.now _ _ _ SecondExtent _ ((performed_as a.d (command_of a.chain.now a.c) _ a.main.now a.store.now).define_extent_lem c.requires.3)
    c.refuse-then-s.ensures (first_later _ _ (le-ltb _ _ (rw c.requires.2.told.count at c.if-c-lt-EXTENT.false)) ∙ first_here _ _ c.if-s.true) refl

pub fetch-requires : goal.fetch-requires
fetch-requires c =
    let h = c.requires.2 in
    record { ccws = h.told.ccws; inside = h.inside; left = rw (← h.told.count) c.if-c-lt-EXTENT.false }

pub block_count-requires : goal.block_count-requires
unfolding block_count
block_count-requires c =
    (c.requires.0, omega (arith, c.requires.1))

pub returns : goal.returns
unfolding zeros fetched
returns c =
    let a = c.args in
    λ u. define_ends u a.d a.chain.now a.c a.s a.main.now a.store.now c.requires.2 _ _ _ c.define_by.ensures c.block_count.ensures c.fetch.ensures c.requires.3 c.if-c-lt-EXTENT.false c.if-s.false
