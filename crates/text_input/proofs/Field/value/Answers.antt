-- `text_input::Field::value` meets its contract: what is left without the line feed and the key is the value. Assumes nothing.
use mathlib.Core.List.{[], ◌∷◌}
use Rattle.std.proofs.Common.{Some, None}
use Rattle.std.proofs.lemmas.Bool.{false_from_ne_true}
use Rattle.std.proofs.lemmas.Bool.Decides.{Decides-eqb}
use Rattle.std.proofs.lemmas.Slice.Eq.{strip_prefix_is, strip_suffix_is}
use Rattle.text_output.specs.Printout.{line_feed}
use Rattle.text_input.proofs.Values.{keyed_parts, stripped}
use Rattle.text_input.proofs.Field.value.Goals as goal

pub returns-in_err-strip_suffix : goal.returns-in_err-strip_suffix
returns-in_err-strip_suffix c =
    let a = c.args in
    let no = strip_suffix_is Decides-eqb a.line.now (line_feed ∷ []) None c.in_err-strip_suffix.ensures.cases in
    rw c.from_residual.ensures (false_from_ne_true _ (λ t. no _ (keyed_parts a.self.now.key.now a.line.now t)))

pub returns : goal.returns
returns c =
    let a = c.args in
    let x = c.in_ok-strip_suffix.field-0 in
    let front = strip_suffix_is Decides-eqb a.line.now (line_feed ∷ []) (Some x) c.in_ok-strip_suffix.ensures.cases in
    stripped a.self.now.key.now a.line.now x.now c.strip_prefix.result front (strip_prefix_is Decides-eqb x.now a.self.now.key.now c.strip_prefix.result c.strip_prefix.ensures.cases)
