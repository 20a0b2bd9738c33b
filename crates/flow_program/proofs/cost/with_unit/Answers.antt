use Rattle.std.proofs.Common.{rules, SFits, pos}
use Rattle.std.specs.Int.{w128}
use Rattle.std.proofs.lemmas.Int.{to_z-of_z}
use Rattle.flow_program.proofs.CostSumLemmas.{third_past, fourth_past}
use Rattle.flow_program.proofs.cost.with_unit.Goals as goal

pub returns-in_default-checked_product-clause-past :
    goal.returns-in_default-checked_product-clause-past
returns-in_default-checked_product-clause-past c =
    let sum = c.ranges.sum in
    let fixed = c.ranges.fixed in
    let each = c.ranges.each in
    let size = c.ranges.size in
    let d = c.ranges.d in
    let a : SFits w128 c.in-Some.there = search rules in
    let h1 = simp to_z-of_z at c.in-Some.ensures in
    let h2 = simp to_z-of_z at c.in-Some-checked_sum.ensures in
    third_past c.args.fixed c.args.each c.args.size c.args.d c.args.sum c.args.at c.in-Some.there
    (pos 0) h1.0 h1.1 h2.0 (simp to_z-of_z at c.in_default-checked_product.ensures)

pub returns-in-None-clause-past : goal.returns-in-None-clause-past
returns-in-None-clause-past c =
    let sum = c.ranges.sum in
    let fixed = c.ranges.fixed in
    let each = c.ranges.each in
    let size = c.ranges.size in
    let d = c.ranges.d in
    let a : SFits w128 c.in-Some.there = search rules in
    let b : SFits w128 c.in-Some-checked_sum.with_there = search rules in
    let s : SFits w128 c.in-Some-checked_product.sized = search rules in
    let h1 = simp to_z-of_z at c.in-Some.ensures in
    let h2 = simp to_z-of_z at c.in-Some-checked_sum.ensures in
    let h3 = simp to_z-of_z at c.in-Some-checked_product.ensures in
    fourth_past c.args.fixed c.args.each c.args.size c.args.d c.args.sum c.args.at c.in-Some.there
    c.in-Some-checked_sum.with_there c.in-Some-checked_product.sized h1.0 h1.1 h2.0 h2.1 h3.0
    h3.1 (simp to_z-of_z at c.in-None.ensures)
