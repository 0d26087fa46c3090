-- What a call says of the commands, where its Result holds how many were reached.
--     reached_in   how many; none, where the call was refused
-- Assumes nothing.
use Rattle.std.specs.Prelude.{ℕ, Result, Ok, Err}
use Rattle.model.specs.declared.cause.Cause.{Cause}

abbrev pub reached_in : Result ℕ Cause → ℕ
reached_in (Ok reached) = reached
reached_in (Err cause) = 0
