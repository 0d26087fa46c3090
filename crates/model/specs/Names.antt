-- The numbers that the papers give names to. Hexadecimal where the papers are.
--     commands            01, The unit and its edges; 002, 2.0
--     flags of a CCW      01, What is lent
--     unit status         01, Causes; 002, 1.9
--     channel status      01, Causes and Commands that are accepted
--     operations          01, LOCATE; 002, 2.1.4
--     sense, its places   01, What is lent; 002, 5.1 and 5.2
--     places in the log   01, READ AND RESET BUFFERED LOG; 002, 5.8.1
--     entries of the map  02, ask 4
-- Assumes nothing.
use Rattle.std.specs.Prelude.{ℕ}

-- commands

abbrev pub NO_OPERATION : ℕ
NO_OPERATION = 0x03

abbrev pub DEFINE_EXTENT : ℕ
DEFINE_EXTENT = 0x63

abbrev pub LOCATE : ℕ
LOCATE = 0x43

abbrev pub READ : ℕ
READ = 0x42

abbrev pub WRITE : ℕ
WRITE = 0x41

abbrev pub READ_IPL : ℕ
READ_IPL = 0x02

abbrev pub SENSE : ℕ
SENSE = 0x04

abbrev pub SENSE_TYPE : ℕ
SENSE_TYPE = 0xE4

abbrev pub READ_LOG : ℕ
READ_LOG = 0xA4

-- flags of a CCW, as bits of its byte 4: 80, 40 and 20

abbrev pub chain_data : ℕ
chain_data = 0

abbrev pub chain_command : ℕ
chain_command = 1

abbrev pub suppress_length : ℕ
suppress_length = 2

-- unit status: CHANNEL END with DEVICE END, and the same with UNIT CHECK

abbrev pub ENDED : ℕ
ENDED = 0x0C

abbrev pub UNIT_CHECKED : ℕ
UNIT_CHECKED = 0x0E

-- channel status

abbrev pub PROGRAM_CHECK : ℕ
PROGRAM_CHECK = 0x20

abbrev pub INCORRECT_LENGTH : ℕ
INCORRECT_LENGTH = 0x40

-- places in an answer

abbrev pub channel_status_at : ℕ
channel_status_at = 1

abbrev pub residual_at : ℕ
residual_at = 2

abbrev pub cause_at : ℕ
cause_at = 4

abbrev pub blocks_at : ℕ
blocks_at = 6

-- operations of a LOCATE

abbrev pub format : ℕ
format = 4

abbrev pub write_data : ℕ
write_data = 1

abbrev pub write_check : ℕ
write_check = 5

abbrev pub read_data : ℕ
read_data = 6

abbrev pub read_replicated : ℕ
read_replicated = 2

-- the bytes of sense, and of the log; places in sense

abbrev pub sense_size : ℕ
sense_size = 24

abbrev pub environmental_at : ℕ
environmental_at = 2

abbrev pub format_message_at : ℕ
format_message_at = 7

abbrev pub parameters_at : ℕ
parameters_at = 8

-- places in the log

abbrev pub blocks_read_at : ℕ
blocks_read_at = 8

abbrev pub blocks_written_at : ℕ
blocks_written_at = 15

abbrev pub movements_at : ℕ
movements_at = 19

-- entries of the map that name no block

abbrev pub UNUSED : ℕ
UNUSED = 0

abbrev pub DEFECTIVE : ℕ
DEFECTIVE = 0xFFFFFFFF
