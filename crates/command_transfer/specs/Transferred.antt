-- How the code's transfers end.
--     Placed                        the located blocks are not before the extent's first, and not too many
--     move_of                       what a READ or WRITE moves: by the LOCATE before it, the address rule and its count
--     read_end, write_end, ipl_end  READ, WRITE and READ IPL, once their bytes are moved
-- Assumes nothing.
use Rattle.std.specs.Prelude.{ℕ, ◌+◌, ◌*◌, ◌≤◌, min}
use Rattle.numbers.specs.Choice.{◌=?◌, pick}
use Rattle.model.specs.declared.decoded.Decoded.{Decoded}
use Rattle.model.specs.declared.device.Device.{Device}
use Rattle.model.specs.declared.extent.Extent.{Extent}
use Rattle.model.specs.declared.extent.Located.{Located}
use Rattle.model.specs.declared.record.Counts.{Counts}
use Rattle.model.specs.declared.state.Before.TheVariants.{Other, ReadIpl}
use Rattle.model.specs.Names.{write_check}
use Rattle.model.specs.Commands.{begun, first_block, can_move, whole_device}
use Rattle.buffered_log.specs.Counts.{with_read, with_written, with_movement}
use Rattle.unit_state.specs.declared.Running.{Running}
use Rattle.unit_state.specs.Standing.{went_on, with_extent}
use Rattle.endings.specs.declared.Ended.{Ended}
use Rattle.endings.specs.Ending.{accepted_end}
use Rattle.command_transfer.specs.declared.Move.{Move}

pub record Placed (dev : Device) (e : Extent) (l : Located) : Type 0 where
  pub from_first : e.first.0 ≤ l.displacement.0
  pub few : first_block e l + l.blocks ≤ 131072
  pub product : l.blocks * dev.block ≤ 131072 * 65535

abbrev pub move_of : Device → Decoded → Running → Move
move_of dev c s = record {
  block = first_block s.extent s.located;
  can = can_move dev s.located;
  n = min c.count (can_move dev s.located);
}

abbrev pub read_end : Device → Decoded → Running → Move → Ended
read_end dev c s m = accepted_end c (went_on s (with_read (begun dev m.n) s.counts) Other) m.n m.can (begun dev m.n)

-- the counts after a WRITE of so many blocks: those of a write and check are counted
unfoldable pub written_by : ℕ → ℕ → Counts → Counts
written_by operation blocks k = pick (operation =? write_check) (with_written blocks k) k

abbrev pub write_end : Device → Decoded → Running → Move → Ended
write_end dev c s m = accepted_end c (went_on s (written_by s.located.operation s.located.blocks s.counts) Other) m.n m.can (begun dev m.n)

abbrev pub ipl_end : Device → Decoded → Running → ℕ → ℕ → Ended
ipl_end dev c s n blocks = accepted_end c (with_extent s (with_movement (with_read 1 s.counts)) (whole_device blocks) ReadIpl) n dev.block 1
