-- What `perform` may take as known.
--     Received   the channel passed the command on, and the unit is ready for it
-- Assumes nothing.
use Rattle.std.specs.Prelude.{◌≡◌, false, List, ℕ}
use Rattle.model.specs.Pieces.{Command}
use Rattle.model.specs.declared.record.Record.{Record}
use Rattle.model.specs.Rules.{first_of}
use Rattle.model.specs.Causes.{channel_causes, not_ready}

pub record Received (c : Command) (u : Record) (main : List ℕ) : Type 0 where
  pub channel : first_of (channel_causes c main) ≡ 0
  pub ready : not_ready u.ready c.command ≡ false
