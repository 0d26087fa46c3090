-- The whole definition, open, for a proof that computes with it: `unfolding opened` stands for all the names below.
-- No contract cites this file.
use Prim.Native.Nat.{ℕ}
use Rattle.numbers.specs.Bits.{bit, any_bit}
use Rattle.slices.specs.Parts.{zeros, part, put, pad}
use Rattle.numbers.specs.Choice.{pick, one_of}
use Rattle.model.specs.Rules.{first_of}
use Rattle.numbers.specs.Lowest.{lowest_from, lowest}
use Rattle.model.specs.Alternates.{entry_at, with_entry, lies, flagged, formatted, unmapped, bad_map}
use Rattle.model.specs.Lent.{code_at, piece_at, flag, store_blocks, block_count, alternate_at, block_start, block_at, blocks_from, blocks_into, unit_bytes, record_of, map_of, new_record}
use Rattle.model.specs.Pieces.{continues, commands_from, commands_in, command_at, counts, final_of, bytes_in, fetched, scattered, delivered, spread}
use Rattle.model.specs.Parameters.{extent_in, reserved_in, size_in, located_in, modifiers_in, replication_in, processed, forbids, address, outside}
use Rattle.model.specs.Causes.{bytes_read, all_chained, lent_causes, map_causes, call_causes, host_causes, device_causes, give_back_causes, tested_of, channel_causes, unit_causes, extent_causes, define_extent_causes, permission_causes, location_causes, locate_causes, read_ipl_causes, transfer_causes, own_causes, causes_of, verdict}
use Rattle.model.specs.Sense.{row_in, shown, sense_of}
use Rattle.model.specs.Log.{with_sense, with_counts, added3, added2, read_counted, written_counted, movement_counted, log_of, log_reset}
use Rattle.model.specs.Commands.{after, extent_set, locate_set, map_after, no_operation, define_extent, locate, sent, sense, sense_type, read_log, begun, read, write, whole_device, read_ipl, accepted, refused, cleared, seen, decided, performed, step, define_done, ipl_done, locate_done, read_done, write_done}
use Rattle.model.specs.Answer.{wrong_length, channel_status, residual, filled, answer_of, answers_of, answered, goes_on}
use Rattle.model.specs.Chain.{step_at, next, more, run, start, call_of}
use Rattle.model.specs.Host.{result_of, host_call_of, set_up}
use Rattle.model.specs.Class.{chains_from, chains_in, result_size, results_of, result_head, mark_of, mark_each_of, bad_class, run_class_of}
use Rattle.model.specs.GiveBack.{brought_home, give_back_of}
use Rattle.model.specs.History.{mapped_by, used_by, unused_by, defective_by, format_of, formats_in, formats_of, formats_each, acted, events_of, held_after, history_of}
use Rattle.model.specs.Written.{written}
use Rattle.model.specs.Reached.{found}

unfoldable pub opened : ℕ
unfolding bit any_bit zeros part put pad pick one_of first_of code_at piece_at flag continues commands_from commands_in command_at counts final_of bytes_in fetched scattered delivered spread store_blocks block_count alternate_at block_start block_at blocks_from blocks_into unit_bytes record_of map_of new_record lowest_from lowest entry_at with_entry lies flagged formatted unmapped bad_map extent_in reserved_in size_in located_in modifiers_in replication_in processed forbids address outside bytes_read all_chained lent_causes map_causes call_causes host_causes device_causes give_back_causes tested_of channel_causes unit_causes define_extent_causes extent_causes locate_causes location_causes permission_causes read_ipl_causes transfer_causes own_causes causes_of verdict row_in shown sense_of with_sense with_counts added3 added2 read_counted written_counted movement_counted log_of log_reset after extent_set locate_set map_after no_operation define_extent define_done locate locate_done sent sense sense_type read_log begun read read_done write write_done whole_device read_ipl ipl_done accepted refused cleared seen decided performed step wrong_length channel_status residual filled answer_of answers_of answered goes_on step_at next more run start call_of result_of host_call_of set_up chains_from chains_in result_size results_of result_head mark_of mark_each_of bad_class run_class_of brought_home give_back_of mapped_by used_by unused_by defective_by format_of formats_in formats_of formats_each acted events_of held_after history_of written found
opened = 0
