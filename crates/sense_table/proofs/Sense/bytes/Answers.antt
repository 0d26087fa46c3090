-- `Sense::bytes` meets its contract: the head over zeros, and the parameters over those. Assumes nothing.
use mathlib.Core.Path.{◌≡◌}
use native.Mathlib.Nat.{le_of_eq}
use native.Mathlib.Omega.{arith}
use borrow.Author.Rules.{rules}
use lib.ListN.{length}
use lib.Seq.{take_all}
use Rattle.slices.specs.Parts.{zeros}
use Rattle.sense_table.specs.Sensed.{sense_bytes}
use Rattle.sense_table.proofs.Sense.bytes.Goals as goal

pub put_at-requires : goal.put_at-requires
put_at-requires c = let long : length c.args.self.head ≡ 8 = search rules in omega (arith, long)

pub put_at-requires-2 : goal.put_at-requires-2
put_at-requires-2 c = let long : length c.args.self.parameters ≡ 8 = search rules in omega (arith, long)

pub returns : goal.returns
unfolding sense_bytes zeros
returns c =
    let head_long : length c.args.self.head ≡ 8 = search rules in
    let parameters_long : length c.args.self.parameters ≡ 8 = search rules in
    rw (c.put_at.ensures, take_all 8 c.args.self.head (le_of_eq head_long), take_all 8 c.args.self.parameters (le_of_eq parameters_long)) at c.put_at-2.ensures
