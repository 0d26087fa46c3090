-- What an entry of the map says, beside its number.
--     number_of   the number that the map has for it
--     Says        it is what a number says
-- Assumes nothing.
use Rattle.std.specs.Prelude.{ℕ, ◌≡◌, ◌≢◌}
use Rattle.model.specs.Names.{UNUSED, DEFECTIVE}
use Rattle.model.specs.Alternates.{name_of}
use Rattle.alternates.specs.declared.Entry.{Entry}
use Rattle.alternates.specs.declared.Entry.TheVariants.{Unused, Defective, Block}

abbrev pub number_of : Entry → ℕ
number_of Unused = UNUSED
number_of Defective = DEFECTIVE
number_of (Block block) = name_of block

abbrev pub Says : Entry → ℕ → Type 0
Says Unused number = number ≡ UNUSED
Says Defective number = number ≡ DEFECTIVE
Says (Block block) number = (number ≡ name_of block) × (number ≢ DEFECTIVE)
