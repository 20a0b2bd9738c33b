use Rattle.std.proofs.Common.{rules, SFits}
use Rattle.std.specs.Int.{w128}
use Rattle.std.proofs.lemmas.Int.{to_z-of_z}
use Rattle.flow_program.proofs.BoundSumLemmas.{second_past}
use Rattle.flow_program.proofs.bound.with_least.Goals as goal

pub returns-in-None-clause-past : goal.returns-in-None-clause-past
returns-in-None-clause-past c =
    let sum = c.ranges.sum in
    let factor = c.ranges.factor in
    let low = c.ranges.low in
    let high = c.ranges.high in
    let a : SFits w128 c.in-Some.least = search rules in
    let h = simp to_z-of_z at c.in-Some.ensures in
    let n = simp to_z-of_z at c.in-None.ensures in
    second_past c.args.factor c.args.low c.args.high c.args.sum c.args.start c.in-Some.least h.0 h.1
    n
