-- `be` meets its contract: each turn has room for its byte, and adds it. Assumes nothing.
use Rattle.std.proofs.Common.{◌≡◌, refl, arith, add-one}
use Rattle.numbers.specs.Big.{be}
use Rattle.numbers.proofs.Big.{more_bytes, be_fits, part_long, turn}
use Rattle.numbers.proofs.be.Goals as goal

pub loop-b-init : goal.loop-b-init
loop-b-init g c = refl

pub overflow_mul-n : goal.overflow_mul-n
overflow_mul-n g c =
    let t = turn c.args.s.now c.args.at g.row.N c.loop-b.b-index (λ i. (c.type_inv.s i).fits) c.requires.narrow c.requires.there c.loop-b-test.true in
    omega (arith, c.loop-b.invariant)

pub overflow_add-n : goal.overflow_add-n
overflow_add-n g c =
    let t = turn c.args.s.now c.args.at g.row.N c.loop-b.b-index (λ i. (c.type_inv.s i).fits) c.requires.narrow c.requires.there c.loop-b-test.true in
    omega (arith, c.from.ensures, c.loop-b.invariant)

pub loop-b-preserved : goal.loop-b-preserved
loop-b-preserved g c =
    let t = turn c.args.s.now c.args.at g.row.N c.loop-b.b-index (λ i. (c.type_inv.s i).fits) c.requires.narrow c.requires.there c.loop-b-test.true in
    rw add-one (omega (arith, c.loop-b.invariant, c.from.ensures, t.same, more_bytes c.loop-b.b-index c.args.s.now c.args.at))

pub returns : goal.returns
returns g c =
    let done : c.loop-b.b-index ≡ g.row.N = omega (arith, part_long c.args.s.now c.args.at g.row.N c.requires.there) in
    let value : c.loop-b.n ≡ be g.row.N c.args.s.now c.args.at = rw done at c.loop-b.invariant in
    record { value = value; fits = rw value (be_fits g.row.N c.args.s.now c.args.at (λ i. (c.type_inv.s i).fits)) }
