use Rattle.std.proofs.Common.{rules, SFits}
use Rattle.std.specs.Int.{w128}
use Rattle.std.proofs.lemmas.Int.{to_z-of_z}
use Rattle.scaled_flows.proofs.SettledLemmas.{divided_order}
use Rattle.scaled_flows.proofs.rows.scaled_range.Goals as goal

pub returns-clause-ordered : goal.returns-clause-ordered
returns-clause-ordered c =
    let divisor = c.ranges.divisor in
    let low : SFits w128 c.args.range.low = search rules in
    let high : SFits w128 c.args.range.high = search rules in
    let a : SFits w128 c.scaled.result = search rules in
    let b : SFits w128 c.scaled-2.result = search rules in
    simp to_z-of_z
    (divided_order c.args.divisor c.args.range.low c.args.range.high c.scaled.result
    c.scaled-2.result c.requires.positive c.requires.low_divided c.requires.high_divided
    c.requires.ordered
    (simp to_z-of_z at c.scaled.ensures) (simp to_z-of_z at c.scaled-2.ensures))
