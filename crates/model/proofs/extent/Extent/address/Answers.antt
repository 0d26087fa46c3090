-- `model::extent::Extent::address` meets its contract. Assumes nothing.
use Rattle.model.specs.Parameters.{address}
use borrow.Author.Rules.{rules}
use Rattle.model.proofs.extent.Extent.address.Goals as goal

pub overflow_sub-within : goal.overflow_sub-within
unfolding address
overflow_sub-within c = search rules

pub overflow_cast-result : goal.overflow_cast-result
unfolding address
overflow_cast-result c = search rules

pub overflow_cast-result-2 : goal.overflow_cast-result-2
unfolding address
overflow_cast-result-2 c = search rules

pub overflow_add-result : goal.overflow_add-result
unfolding address
overflow_add-result c = search rules

pub returns : goal.returns
unfolding address
returns c = search rules
