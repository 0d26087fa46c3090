-- `text_input::line_at` meets its contract: the lines before it are passed over. Assumes nothing.
use mathlib.Core.Path.{◌∙◌, ap, refl}
use borrow.Author.Rules.{rules}
use Rattle.text_input.proofs.Lines.{given_at}
use Rattle.text_input.proofs.line_at.Goals as goal

pub returns : goal.returns
returns c = ap (λ x. x.now) c.unwrap_or.ensures ∙ given_at c.args.input.now c.split_inclusive.result _ c.nth.result c.args.n _ c.nth.ensures.ran c.split_inclusive.ensures.rest (λ f a b h k. search rules) refl
