-- Text that is added to an output of a given length.
--     Adds   a text goes to the output from a place on, as much of it as fits; and the place after it
--     Wrote  the same of an `Output`, which has the output and the place
-- Assumes nothing.
use Rattle.std.specs.Prelude.{ℕ, ◌+◌, ◌-◌, min, ◌≡◌, List, length, take}
use Rattle.slices.specs.Parts.{put}
use Rattle.text_digits.specs.declared.Output.{Output}

-- `out` was lent, and is `back` afterwards; what fits of the text stands in it from `at` on, and `next` is the place after it
pub record Adds (out : List ℕ) (at : ℕ) (text : List ℕ) (next : ℕ) (back : List ℕ) : Type 0 where
  pub place : next ≡ at + min (length out - at) (length text)
  pub bytes : back ≡ put out at (take (length out - at) text)

-- the same bytes are still lent, and the text is added to them
pub record Wrote (before : Output) (text : List ℕ) (after : Output) : Type 0 where
  pub same_reference : after.bytes.ghost_name ≡ before.bytes.ghost_name
  pub added : Adds before.bytes.now before.at text after.at after.bytes.now
