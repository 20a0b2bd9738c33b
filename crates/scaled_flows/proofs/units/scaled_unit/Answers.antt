use Rattle.std.proofs.Common.{rules, SFits}
use Rattle.std.specs.Int.{w128}
use Rattle.std.proofs.lemmas.Int.{to_z-of_z}
use Rattle.scaled_flows.proofs.SettledLemmas.{divided_order}
use Rattle.scaled_flows.proofs.units.scaled_unit.Goals as goal

pub returns-clause-ordered : goal.returns-clause-ordered
returns-clause-ordered c =
    let sizes = c.ranges.sizes in
    let s : SFits w128 c.args.sizes = search rules in
    let low : SFits w128 c.args.unit.low = search rules in
    let high : SFits w128 c.args.unit.high = search rules in
    let a : SFits w128 c.scaled-2.result = search rules in
    let b : SFits w128 c.scaled-3.result = search rules in
    simp to_z-of_z
    (divided_order c.args.sizes c.args.unit.low c.args.unit.high c.scaled-2.result
    c.scaled-3.result c.requires.sizes c.requires.low_divided c.requires.high_divided
    c.requires.ordered
    (simp to_z-of_z at c.scaled-2.ensures) (simp to_z-of_z at c.scaled-3.ensures))
