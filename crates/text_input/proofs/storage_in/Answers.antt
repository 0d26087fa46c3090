-- `text_input::storage_in` meets its contract: line 4 is there and right, so its bytes fit. Assumes nothing.
use Rattle.text_input.specs.Input.{exercise_in}
use Rattle.text_input.proofs.Rights.{storage_line}
use Rattle.text_input.proofs.storage_in.Goals as goal

pub read-requires-clause-right : goal.read-requires-clause-right
read-requires-clause-right c = rw c.line_at.ensures (storage_line c.args.input.now c.requires.0)

pub returns : goal.returns
unfolding exercise_in
returns c = rw c.line_at.ensures at c.read.ensures
