-- What the unit knows while a chain runs, and what one command gives. The code carries neither: it has its own form of both
-- (crates/unit_state, crates/endings), and its promises say which of these that form stands for.
--     State   the unit record, all but its map, and its map; the extent, the LOCATE that was accepted last, and the command directly before
--     Done    the state that a command leaves and the numbers of its answer; cause 0 is acceptance
-- Assumes nothing.
use Rattle.std.specs.Prelude.{ℕ, Bool, List}
use Rattle.model.specs.declared.extent.Extent.{Extent}
use Rattle.model.specs.declared.extent.Located.{Located}
use Rattle.model.specs.declared.record.Record.{Record}
use Rattle.model.specs.declared.state.Before.{Before}

pub record State : Type 0 where
  pub unit : Record
  pub map : List ℕ
  pub defined : Bool
  pub extent : Extent
  pub before : Before
  pub located : Located

pub record Done : Type 0 where
  pub state : State
  pub cause : ℕ
  pub moved : ℕ
  pub can : ℕ
  pub blocks : ℕ
