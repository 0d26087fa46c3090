-- How the code's command ends, and what that says of the definition's.
--     answer_words, answer_bytes  an answer as the code carries it, and its bytes, once the residual of a piece is in it (with_residual)
--     marked                      those bytes, where the length is wrong
--     wrong_told, wrong_by        the length is wrong, by what the code carries of the command; of an accepted command alone
--     end_of                      how a command ends, by the number of its cause; accepted_end   one that is accepted
--     refusal_of                  what a refused one shows; parameters_refused   how it ends, for its parameters, so many bytes of which were read;
--                                 refused_end   one that has read none
--     Leaves                      what is left of the unit is what the definition's command left, and nothing in it is open
--     Ends                        so is all that a command gives
--     Performs                    so it is of a command that the channel and the unit passed on: the promise of every command
-- Assumes nothing.
use Rattle.std.specs.Prelude.{ℕ, ◌+◌, ◌*◌, ◌≡◌, Bool, true, false, not, ◌&&◌, List, ◌++◌, set, Result, ⊤}
use Rattle.numbers.specs.Choice.{◌=?◌}
use Rattle.numbers.specs.Big.{bytes4}
use Rattle.slices.specs.Parts.{zeros}
use Rattle.numbers.specs.Bits.{bit}
use Rattle.model.specs.declared.decoded.Decoded.{Decoded}
use Rattle.model.specs.declared.kind.Kind.{Kind}
use Rattle.model.specs.declared.kind.Kind.TheVariants.{Accepted, ProgramCheck, UnitCheck}
use Rattle.model.specs.declared.record.UnitRecord.{UnitRecord}
use Rattle.model.specs.Names.{NO_OPERATION, suppress_length, INCORRECT_LENGTH, channel_status_at}
use Rattle.model.specs.Pieces.{Command, fetched}
use Rattle.model.specs.Parameters.{locate_length}
use Rattle.model.specs.declared.cause.Cause.{Cause}
use Rattle.model.specs.Causes.{kind_of}
use Rattle.model.specs.Told.{told}
use Rattle.model.specs.Sense.{shown}
use Rattle.model.specs.declared.device.Device.{Device}
use Rattle.model.specs.Decoded.{command_of}
use Rattle.model.specs.Commands.{Out, performed}
use Rattle.model.specs.Answer.{unit_status, channel_by, wrong_length}
use Rattle.sense_table.specs.declared.Sense.{Sense}
use Rattle.sense_table.specs.Sensed.{sense_showing, no_sense}
use Rattle.unit_state.specs.declared.Running.{Running}
use Rattle.unit_state.specs.declared.Left.{Left}
use Rattle.unit_state.specs.Standing.{state_of, state_left}
use Rattle.endings.specs.declared.Answer.{Answer}
use Rattle.endings.specs.declared.Ended.{Ended}
use Rattle.endings.specs.declared.Refusal.{Refusal}

-- unit status, channel status and residual (2), which is still 0; cause, zero and blocks moved (2)
abbrev pub answer_words : Kind → ℕ → ℕ → Answer
answer_words kind cause blocks = record { front = (unit_status kind * 256 + channel_by kind false) * 65536; back = cause * 16777216 + blocks }

abbrev pub with_residual : Answer → ℕ → Answer
with_residual a left = record { front = a.front + left; back = a.back }

abbrev pub answer_bytes : Answer → List ℕ
answer_bytes a = bytes4 a.front ++ bytes4 a.back

-- the channel marks a wrong length in its status
abbrev pub marked : Bool → List ℕ → List ℕ
marked true answer = set answer channel_status_at INCORRECT_LENGTH
marked false answer = answer

abbrev pub wrong_told : Decoded → ℕ → Bool
wrong_told c can = not (c.command =? NO_OPERATION) && not (bit c.flags.0 suppress_length) && not (c.count =? can)

abbrev pub wrong_by : Kind → Bool → Bool
wrong_by Accepted wrong = wrong
wrong_by ProgramCheck wrong = false
wrong_by UnitCheck wrong = false

abbrev pub end_of : Decoded → Running → ℕ → ℕ → ℕ → ℕ → Sense → Ended
end_of c s moved can blocks cause sense = record {
  left = record { state = s; sense = sense; kind = kind_of cause };
  answer = answer_words (kind_of cause) cause blocks;
  moved = moved;
  wrong = wrong_by (kind_of cause) (wrong_told c can);
}

abbrev pub accepted_end : Decoded → Running → ℕ → ℕ → ℕ → Ended
accepted_end c s moved can blocks = record {
  left = record { state = s; sense = no_sense; kind = Accepted };
  answer = answer_words Accepted 0 blocks;
  moved = moved;
  wrong = wrong_told c can;
}

-- the parameters are those that its cause shows
abbrev pub refusal_of : Result ⊤ Cause → List ℕ → Refusal
refusal_of outcome parameters = record {
  answer = answer_words (kind_of (told outcome)) (told outcome) 0;
  sense = sense_showing (told outcome) parameters;
  kind = kind_of (told outcome);
}

abbrev pub parameters_refused : Running → Result ⊤ Cause → ℕ → List ℕ → Ended
parameters_refused s outcome read parameters =
    let r = refusal_of outcome parameters in
    record { left = record { state = s; sense = r.sense; kind = r.kind }; answer = r.answer; moved = read; wrong = false }

abbrev pub refused_end : Running → Result ⊤ Cause → Ended
refused_end s outcome = parameters_refused s outcome 0 (zeros locate_length)

-- in a chain that found record u, which has the map that is left, of a command that found state s
pub record Leaves (u : UnitRecord) (c : Command) (s : Running) (l : Left) (o : Out) : Type 0 where
  pub state : state_left u l ≡ o.done.state
  pub kind : l.kind ≡ kind_of o.done.cause
  pub kept : o.done.cause ≡ 0 → l.state.kept ≡ (s.kept && c.command =? NO_OPERATION)
  pub refused : (o.done.cause ≡ 0 → ⊥) → l.state ≡ s
  pub sense : l.sense ≡ sense_showing o.done.cause (shown o.done.cause (fetched c o.main locate_length))

pub record Ends (u : UnitRecord) (c : Command) (s : Running) (r : Ended) (main store : List ℕ) (o : Out) : Type 0 where
  pub left : Leaves u c s r.left o
  pub answer : r.answer ≡ answer_words (kind_of o.done.cause) o.done.cause o.done.blocks
  pub moved : r.moved ≡ o.done.moved
  pub wrong : r.wrong ≡ wrong_by (kind_of o.done.cause) (wrong_length c o.done.can)
  pub main_same : main ≡ o.main
  pub store_same : store ≡ o.store

-- of a command of this chain that found state s, record u with the map as it then was, main storage and store, and leaves all but the first primed
abbrev pub Performs : Device → List ℕ → Decoded → Running → Ended → UnitRecord → List ℕ → List ℕ → UnitRecord → List ℕ → List ℕ → Type 0
Performs dev chain c s r u main store u' main' store' = Ends u' (command_of chain c) s r main' store' (performed dev (command_of chain c) (state_of u s) main store)
