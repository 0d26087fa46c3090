-- Demands 1 and 2, of a whole chain: what is true of each command that it reached, and of the one that was refused.
--     found          the system that command i finds: the commands before it done
--     Answered       its answers are those that it was given, and no later command changed them; its cause is given exactly
--     RefusedThere   it was refused: "A refusal ends the chain; the effects of earlier commands stay" (01, Causes)
--     EachReached    that of every command reached; "Bytes for commands not reached stay" (01, What is lent)
--     Numbers        the numbers of a command's answer, whole, as its bytes show them
-- A chain leaves a `Called`; one that the call refuses reaches no command. `proofs/Reached.antt` proves all of it of the run
-- and of the call. Assumes nothing.
use Rattle.std.specs.Prelude.{ℕ, zero, suc, ◌+◌, ◌*◌, ◌≤◌, ◌<◌, ◌≡◌, false, List, [], ◌∷◌, ◌++◌, get_or}
use Rattle.numbers.specs.Big.{be2, bytes2}
use Rattle.slices.specs.Parts.{zeros, part, put}
use Rattle.model.specs.declared.device.Device.{Device}
use Rattle.model.specs.State.{Done}
use Rattle.model.specs.Pieces.{Command, command_at, Spread, spread}
use Rattle.model.specs.Causes.{kind_of, bytes_read, causes_of}
use Rattle.model.specs.Commands.{leaves, sense_given}
use Rattle.model.specs.Names.{residual_at, cause_at, blocks_at}
use Rattle.model.specs.Answer.{unit_status, channel_by, residual, filled, answer_size, answers_of, answered}
use Rattle.model.specs.Chain.{System, step_at, next, Called}
use Rattle.model.specs.Exactly.{GivenExactly}

module _ (dev : Device) (chain : List ℕ) where
  unfoldable pub found : ℕ → System → System
  found zero y = y
  found (suc i) y = next dev chain i (found i y)

  -- what command i gives, in a chain that begins with system y
  abbrev pub done_at : ℕ → System → Done
  done_at i y = (step_at dev chain i (found i y)).done

  -- where the answers of command i begin, and where that of its last piece reached does
  abbrev pub answers_at : ℕ → System → ℕ
  answers_at i y = (found i y).reached * answer_size

  abbrev pub last_at : ℕ → System → ℕ
  last_at i y = ((found i y).reached + filled (command_at chain i) (done_at i y)) * answer_size

-- of command i, in what the chain leaves
pub record Answered (dev : Device) (chain : List ℕ) (y : System) (i : ℕ) (r : Called) : Type 0 where
  pub kept : part r.answers (answers_at dev chain i y) (answered (command_at chain i) (done_at dev chain i y) * answer_size) ≡ answers_of (command_at chain i) (done_at dev chain i y)
  pub exact : GivenExactly (causes_of dev (command_at chain i) (found dev chain i y).state (found dev chain i y).main (found dev chain i y).store) (get_or r.answers (last_at dev chain i y + cause_at) 0)

-- the residuals of a refused command are its counts less the parameters that it has read of each, and "blocks moved is 0"
abbrev pub read_before : Command → ℕ → Spread
read_before c w = spread c.first c.later (bytes_read w)

abbrev pub refused_answers : Command → ℕ → List ℕ
refused_answers c w =
    zeros ((read_before c w).filled * answer_size)
    ++ ((unit_status (kind_of w) ∷ channel_by (kind_of w) false ∷ []) ++ bytes2 (read_before c w).residual ++ (w ∷ 0 ∷ []) ++ bytes2 0)

-- a command c that found system f was refused by cause w: the chain leaves what it found, its answers put and, by a unit check, its sense
pub record RefusedThere (c : Command) (f : System) (w : ℕ) (r : Called) : Type 0 where
  pub last : r.reached ≡ f.reached + ((read_before c w).filled + 1)
  pub main : r.main ≡ f.main
  pub store : r.store ≡ f.store
  pub map : r.map ≡ f.state.map
  pub unit : r.unit ≡ (leaves (kind_of w) f.state (sense_given w c f.main)).unit
  pub answers : r.answers ≡ put f.answers (f.reached * answer_size) (refused_answers c w)

-- command i is reached where an answer follows those of the commands before it
pub record EachReached (dev : Device) (chain : List ℕ) (y : System) (r : Called) : Type 0 where
  pub answered : (i : ℕ) → (found dev chain i y).reached < r.reached → Answered dev chain y i r
  pub refused : (i : ℕ) → (found dev chain i y).reached < r.reached → ((done_at dev chain i y).cause ≡ 0 → ⊥)
      → RefusedThere (command_at chain i) (found dev chain i y) (done_at dev chain i y).cause r
  pub not_reached : (at : ℕ) → r.reached * answer_size ≤ at → get_or r.answers at 0 ≡ get_or y.answers at 0

-- "unit status, channel status, residual count (2), cause, zero, blocks moved (2)": no number is cut by its bytes, in an answer at a place
pub record Numbers (c : Command) (d : Done) (at : ℕ) (r : Called) : Type 0 where
  pub residual_whole : be2 r.answers (at + residual_at) ≡ residual c d
  pub cause_whole : get_or r.answers (at + cause_at) 0 ≡ d.cause
  pub blocks_whole : be2 r.answers (at + blocks_at) ≡ d.blocks
