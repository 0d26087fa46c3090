-- `perform` meets its contract. Each arm: the command is of the list, and its own promise is the step's. Assumes nothing.
use mathlib.Core.Path.{refl, ap, ◌∙◌}
use Rattle.std.specs.Prelude.{Err}
use Rattle.numbers.specs.Choice.{one_of}
use Rattle.model.specs.declared.cause.Cause.{Cause}
use Rattle.endings.specs.Ending.{refused_end}
use Rattle.unit.proofs.Performing.{coded, handed, by_list, by_own, no_operation_ends, has_map, extent_below}
use Rattle.unit.proofs.perform.Goals as goal

pub define_extent-requires : goal.define_extent-requires
define_extent-requires c =
    let pre = c.requires in
    let code = coded c.in-Ok-DefineExtent.ensures c.in-Ok-DefineExtent.field-0-is in
    (pre.0.mounted.device, pre.0.mounted.some_block, handed pre.0 pre.1 pre.2 code refl, code)

pub locate-requires : goal.locate-requires
locate-requires c =
    let pre = c.requires in
    let code = coded c.in-Ok-Locate.ensures c.in-Ok-Locate.field-0-is in
    (handed pre.0 pre.1 pre.2 code refl, code, has_map _ _ _ pre.0.mounted, extent_below pre.0)

pub read-requires : goal.read-requires
read-requires c =
    let pre = c.requires in
    let code = coded c.in-Ok-Read.ensures c.in-Ok-Read.field-0-is in
    (pre.0, handed pre.0 pre.1 pre.2 code refl, code)

pub write-requires : goal.write-requires
write-requires c =
    let pre = c.requires in
    let code = coded c.in-Ok-Write.ensures c.in-Ok-Write.field-0-is in
    (pre.0, handed pre.0 pre.1 pre.2 code refl, code)

pub read_ipl-requires : goal.read_ipl-requires
read_ipl-requires c =
    let pre = c.requires in
    let code = coded c.in-Ok-ReadIpl.ensures c.in-Ok-ReadIpl.field-0-is in
    (pre.0, handed pre.0 pre.1 pre.2 code refl, code)

pub sense-requires : goal.sense-requires
sense-requires c =
    let pre = c.requires in
    let code = coded c.in-Ok-Sense.ensures c.in-Ok-Sense.field-0-is in
    (handed pre.0 pre.1 pre.2 code refl, code)

pub sense_type-requires : goal.sense_type-requires
sense_type-requires c =
    let pre = c.requires in
    let code = coded c.in-Ok-SenseType.ensures c.in-Ok-SenseType.field-0-is in
    (handed pre.0 pre.1 pre.2 code refl, code)

pub read_log-requires : goal.read_log-requires
read_log-requires c =
    let pre = c.requires in
    let code = coded c.in-Ok-ReadLog.ensures c.in-Ok-ReadLog.field-0-is in
    (handed pre.0 pre.1 pre.2 code refl, code)

pub returns-in-Ok-NoOperation : goal.returns-in-Ok-NoOperation
returns-in-Ok-NoOperation c =
    no_operation_ends _ c.requires.0 c.requires.1 c.requires.2 (coded c.in-Ok-NoOperation.ensures c.in-Ok-NoOperation.field-0-is) (rw c.passed.ensures at c.accept.ensures)

pub returns-in-Ok-DefineExtent : goal.returns-in-Ok-DefineExtent
unfolding one_of
returns-in-Ok-DefineExtent c =
    let pre = c.requires in
    by_own _ pre.0 pre.1 pre.2 (coded c.in-Ok-DefineExtent.ensures c.in-Ok-DefineExtent.field-0-is) refl (c.define_extent.ensures _)

pub returns-in-Ok-Locate : goal.returns-in-Ok-Locate
unfolding one_of
returns-in-Ok-Locate c =
    let pre = c.requires in
    by_own _ pre.0 pre.1 pre.2 (coded c.in-Ok-Locate.ensures c.in-Ok-Locate.field-0-is) refl (c.locate.ensures _)

pub returns-in-Ok-Read : goal.returns-in-Ok-Read
unfolding one_of
returns-in-Ok-Read c =
    let pre = c.requires in
    by_own _ pre.0 pre.1 pre.2 (coded c.in-Ok-Read.ensures c.in-Ok-Read.field-0-is) refl (c.read.ensures _)

pub returns-in-Ok-Write : goal.returns-in-Ok-Write
unfolding one_of
returns-in-Ok-Write c =
    let pre = c.requires in
    by_own _ pre.0 pre.1 pre.2 (coded c.in-Ok-Write.ensures c.in-Ok-Write.field-0-is) refl (c.write.ensures _)

pub returns-in-Ok-ReadIpl : goal.returns-in-Ok-ReadIpl
unfolding one_of
returns-in-Ok-ReadIpl c =
    let pre = c.requires in
    by_own _ pre.0 pre.1 pre.2 (coded c.in-Ok-ReadIpl.ensures c.in-Ok-ReadIpl.field-0-is) refl (c.read_ipl.ensures _)

pub returns-in-Ok-Sense : goal.returns-in-Ok-Sense
unfolding one_of
returns-in-Ok-Sense c =
    let pre = c.requires in
    by_own _ pre.0 pre.1 pre.2 (coded c.in-Ok-Sense.ensures c.in-Ok-Sense.field-0-is) refl (c.sense.ensures _ _ _)

pub returns-in-Ok-SenseType : goal.returns-in-Ok-SenseType
unfolding one_of
returns-in-Ok-SenseType c =
    let pre = c.requires in
    by_own _ pre.0 pre.1 pre.2 (coded c.in-Ok-SenseType.ensures c.in-Ok-SenseType.field-0-is) refl (c.sense_type.ensures _ _ _)

pub returns-in-Ok-ReadLog : goal.returns-in-Ok-ReadLog
unfolding one_of
returns-in-Ok-ReadLog c =
    let pre = c.requires in
    by_own _ pre.0 pre.1 pre.2 (coded c.in-Ok-ReadLog.ensures c.in-Ok-ReadLog.field-0-is) refl (c.read_log.ensures _ _ _)

pub returns-in-Err : goal.returns-in-Err
returns-in-Err c =
    let unlisted = c.in-Err.ensures in
    by_list _ c.requires.0 c.requires.1 c.requires.2 unlisted.1 (c.refuse.ensures ∙ ap (λ (cause : Cause). refused_end c.args.s (Err cause)) unlisted.0)
