-- `locate` meets its contract. 30 and 31 are lines of its table; past them the eight bytes are there, and decide. Assumes nothing.
use mathlib.Core.Path.{refl, ◌∙◌}
use borrow.Author.Tests.{lt-ltb, not-false}
use Rattle.slices.specs.Parts.{zeros}
use Rattle.numbers.specs.Choice.{pick, one_of}
use Rattle.model.specs.Pieces.{fetched}
use Rattle.model.specs.Causes.{bytes_read, locate_causes}
use Rattle.model.proofs.Verdicts.{first_here, first_later}
use Rattle.model.proofs.Steps.{performed_as}
use Rattle.unit_state.specs.Standing.{holding, state_of}
use Rattle.endings.proofs.Ends.{refused_by}
use Rattle.model.specs.declared.cause.Cause.TheVariants.{NoExtent, ShortLocate}
use Rattle.model.specs.Decoded.{command_of}
use Rattle.command_locate.proofs.Locating.{locate_ends}
use Rattle.command_locate.proofs.locate.Goals as goal

pub returns-then-not-s : goal.returns-then-not-s
unfolding locate_causes state_of bytes_read one_of pick
returns-then-not-s c =
    let a = c.args in
    λ store. refused_by (holding a.u a.map.now) a.chain.now a.c c.requires.0.told a.s a.main.now store _ _ _ NoExtent _ ((performed_as a.d (command_of a.chain.now a.c) _ a.main.now store).locate c.requires.1)
    c.refuse.ensures (first_here _ _ c.if-not-s.true) refl

pub returns-then-c-lt-LOCATE : goal.returns-then-c-lt-LOCATE
unfolding locate_causes state_of bytes_read one_of pick
returns-then-c-lt-LOCATE c =
    let a = c.args in
    λ store. refused_by (holding a.u a.map.now) a.chain.now a.c c.requires.0.told a.s a.main.now store _ _ _ ShortLocate _ ((performed_as a.d (command_of a.chain.now a.c) _ a.main.now store).locate c.requires.1)
    c.refuse-then-c-lt-LOCATE.ensures (first_later _ _ c.if-not-s.false ∙ first_here _ _ (lt-ltb _ _ (rw c.requires.0.told.count at c.if-c-lt-LOCATE.true))) refl

pub fetch-requires : goal.fetch-requires
fetch-requires c =
    let h = c.requires.0 in
    record { ccws = h.told.ccws; inside = h.inside; left = rw (← h.told.count) c.if-c-lt-LOCATE.false }

pub locate_by-requires : goal.locate_by-requires
locate_by-requires c =
    (c.requires.2, c.requires.3 (not-false _ c.if-not-s.false))

pub returns : goal.returns
unfolding zeros fetched
returns c =
    let a = c.args in
    λ store. locate_ends a.u a.map.now a.d a.chain.now a.c a.s a.main.now store c.requires.0 _ _ _ c.locate_by.ensures.ended c.locate_by.ensures.left c.fetch.ensures c.requires.1 c.if-not-s.false c.if-c-lt-LOCATE.false
