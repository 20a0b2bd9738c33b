use Rattle.std.proofs.Common.{rules, SFits}
use Rattle.std.specs.Int.{w128}
use Rattle.headed_search.proofs.evidence.scaled_by.Goals as goal

pub multipliers-preserved : goal.multipliers-preserved
multipliers-preserved c =
    let fits : SFits w128 c.in_range-in-multipliers.result = search rules in
    record { some = search rules; in_range = search rules }
