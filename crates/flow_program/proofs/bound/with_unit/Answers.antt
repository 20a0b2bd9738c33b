use Rattle.std.proofs.Common.{SFits, rules, arith}
use Rattle.std.specs.Int.{w128}
use Rattle.std.proofs.lemmas.Int.{to_z-of_z}
use Rattle.pgraph.proofs.number_sets.Cited.{length_below}
use Rattle.flow_program.specs.Entry.{entry}
use Rattle.flow_program.proofs.BoundSumLemmas.{past_in_rows, past_in_least, column_in_range}
use Rattle.flow_program.proofs.bound.with_unit.Goals as goal

pub with_least-requires-clause-ordered : goal.with_least-requires-clause-ordered
with_least-requires-clause-ordered c =
    let lo : SFits w128 c.args.unit.low = search rules in
    let hi : SFits w128 c.args.unit.high = search rules in
    simp to_z-of_z c.requires.ordered

pub with_least-requires-clause-room : goal.with_least-requires-clause-room
with_least-requires-clause-room c =
    let few = length_below 256 c.args.materials c.rises.ensures.rising c.rises.ensures.below in
    let count = c.in-Ok.ensures.count in
    let room = c.requires.room in
    omega arith

pub overflow_add-result : goal.overflow_add-result
overflow_add-result c =
    let few = length_below 256 c.args.materials c.rises.ensures.rising c.rises.ensures.below in
    let count = c.in-Ok.ensures.count in
    let room = c.requires.room in
    omega arith

pub returns-in-Err-clause-past : goal.returns-in-Err-clause-past
returns-in-Err-clause-past c =
    let d = c.ranges.d in
    let sum = c.ranges.sum in
    let uc : SFits w128 c.args.unit.cost = search rules in
    let lo : SFits w128 c.args.unit.low = search rules in
    let hi : SFits w128 c.args.unit.high = search rules in
    let k : SFits w128 c.in-Some.cost = search rules in
    let h = simp to_z-of_z at c.in-Some.ensures in
    past_in_rows c.args.d c.args.unit.cost c.args.unit.low c.args.unit.high (entry c.args.ys.now)
    (entry c.args.rates.now) c.args.materials c.args.sum c.in-Some.cost c.args.start h.0 h.1
    c.in-Err.past.at c.in-Err.ensures.from_start (simp to_z-of_z at c.in-Err.ensures.past)

pub returns-in-Err-with_least-clause-past : goal.returns-in-Err-with_least-clause-past
returns-in-Err-with_least-clause-past c =
    let d = c.ranges.d in
    let sum = c.ranges.sum in
    let uc : SFits w128 c.args.unit.cost = search rules in
    let lo : SFits w128 c.args.unit.low = search rules in
    let hi : SFits w128 c.args.unit.high = search rules in
    let k : SFits w128 c.in-Some.cost = search rules in
    let h = simp to_z-of_z at c.in-Some.ensures in
    let r : SFits w128 c.in-Ok.left = search rules in
    past_in_least c.args.d c.args.unit.cost c.args.unit.low c.args.unit.high (entry c.args.ys.now)
    (entry c.args.rates.now) c.args.materials c.args.sum c.in-Some.cost c.args.start h.0 h.1
    c.in-Ok.at c.in-Ok.left c.in-Err-with_least.past.at
    (simp to_z-of_z at c.in-Ok.ensures.in_range) c.in-Ok.ensures.count
    (simp to_z-of_z at c.in-Ok.ensures.value)
    c.in-Err-with_least.ensures.from_start (simp to_z-of_z at c.in-Err-with_least.ensures.past)

pub returns-in-Ok-with_least-clause-in_range : goal.returns-in-Ok-with_least-clause-in_range
returns-in-Ok-with_least-clause-in_range c =
    let d = c.ranges.d in
    let sum = c.ranges.sum in
    let uc : SFits w128 c.args.unit.cost = search rules in
    let lo : SFits w128 c.args.unit.low = search rules in
    let hi : SFits w128 c.args.unit.high = search rules in
    let k : SFits w128 c.in-Some.cost = search rules in
    let h = simp to_z-of_z at c.in-Some.ensures in
    let r : SFits w128 c.in-Ok.left = search rules in
    column_in_range c.args.d c.args.unit.cost c.args.unit.low c.args.unit.high (entry c.args.ys.now)
    (entry c.args.rates.now) c.args.materials c.args.sum c.in-Some.cost c.args.start h.0 h.1
    c.in-Ok.left (simp to_z-of_z at c.in-Ok.ensures.in_range)
    (simp to_z-of_z at c.in-Ok.ensures.value)
    (simp to_z-of_z at c.in-Ok-with_least.ensures.in_range)
