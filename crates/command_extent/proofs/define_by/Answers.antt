-- `define_by` meets its contract: what the parameters tell is the verdict. Assumes nothing.
use mathlib.Core.Path.{sym, ap, ◌∙◌}
use borrow.Author.Tests.{eq-eqb}
use Rattle.std.specs.Prelude.{Result, ⊤}
use Rattle.numbers.proofs.Choice.{pick_true, pick_false}
use Rattle.slices.specs.Parts.{zeros}
use Rattle.model.specs.declared.cause.Cause.{Cause}
use Rattle.model.specs.Parameters.{extent_length, locate_length}
use Rattle.model.proofs.Told.{refusal_named, refusal_given}
use Rattle.endings.specs.Ending.{parameters_refused}
use Rattle.command_extent.specs.Answers.{defined_by}
use Rattle.command_extent.proofs.define_by.Goals as goal

pub define_parameters-requires : goal.define_parameters-requires
define_parameters-requires c = c.extent_in-e.ensures

pub returns : goal.returns
unfolding defined_by
returns c = rw (c.extent_set-t.ensures, c.extent_in-e.ensures) at c.accept.ensures ∙ sym (pick_true _ _ _ (eq-eqb _ _ (sym c.in_default.ensures)))

pub returns-in-Err : goal.returns-in-Err
unfolding defined_by zeros
returns-in-Err c =
    c.refuse_parameters.ensures
    ∙ ap (λ (w : Result ⊤ Cause). parameters_refused c.args.s w extent_length (zeros locate_length)) (sym (refusal_named _ _ c.in-Err.ensures))
    ∙ sym (pick_false _ _ _ (refusal_given _ _ c.in-Err.ensures))
