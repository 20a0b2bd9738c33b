use Rattle.std.proofs.Common.{rules, SFits}
use Rattle.std.specs.Int.{w128}
use Rattle.std.proofs.lemmas.Int.{to_z-of_z}
use Rattle.flow_program.proofs.Cited.{second_past}
use Rattle.charges.proofs.products.with_least.Goals as goal

pub returns-in-None-clause-past : goal.returns-in-None-clause-past
returns-in-None-clause-past c =
    let sum : SFits w128 c.args.from.sum = search rules in
    let factor = c.ranges.factor in
    let low = c.ranges.low in
    let high = c.ranges.high in
    let a : SFits w128 c.in-Some.least = search rules in
    let h = simp to_z-of_z at c.in-Some.ensures in
    let n = simp to_z-of_z at c.in-None.ensures in
    second_past c.args.factor c.args.low c.args.high c.args.from.sum c.args.from.at c.in-Some.least
    h.0 h.1 n
