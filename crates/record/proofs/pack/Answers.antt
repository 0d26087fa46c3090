-- `pack` meets its contract: the two bytes behind all, then sense and counts in front of them.
-- Assumes nothing.
use Rattle.std.proofs.Common.{◌≡◌, rules, length, ◌∙◌}
use Rattle.record.proofs.Stores.{record_stored}
use Rattle.record.proofs.pack.Goals as goal

pub returns : goal.returns
returns c =
    let long : length c.args.u.sense ≡ 24 = search rules in
    c.put_counts.ensures ∙ record_stored _ c.args.to.now _ c.requires long c.put.ensures
