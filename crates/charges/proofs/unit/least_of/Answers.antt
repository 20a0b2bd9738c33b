use Rattle.std.proofs.Common.{rules, SFits}
use Rattle.std.specs.Int.{w128}
use Rattle.std.proofs.lemmas.Int.{to_z-of_z}
use Rattle.charges.specs.Bends.{as_owed, knees_in}
use Rattle.charges.proofs.UnitLemmas.{sizes_past, sizes_fit, sizes_count, sizes_value}
use Rattle.structure_list.proofs.flow_rules.Cited.{IsFirstPast-left}
use Rattle.structure_list.specs.flow_rules.Charge.{bent}
use Rattle.structure_list.specs.flow_rules.ChargeSteps.{knee_steps, size_steps}
use Rattle.charges.proofs.unit.least_of.Goals as goal

pub returns-in-Err-clause-past : goal.returns-in-Err-clause-past
returns-in-Err-clause-past c =
    let low = c.args.sizes.low in
    let high = c.args.sizes.high in
    let ks = knees_in c.args.knees.now c.args.knees.now.set in
    let o = as_owed c.args.owed in
    IsFirstPast-left (knee_steps low high ks o) (size_steps low high (bent low high ks o)) _
    c.in-Err.ensures.past

pub returns-in-Err-with_least-clause-past : goal.returns-in-Err-with_least-clause-past
returns-in-Err-with_least-clause-past c =
    let lo : SFits w128 c.args.sizes.low = search rules in
    let hi : SFits w128 c.args.sizes.high = search rules in
    let le : SFits w128 c.in-Ok.left.each = search rules in
    let lc : SFits w128 c.in-Ok.left.once = search rules in
    sizes_past c.args.sizes.low c.args.sizes.high (knees_in c.args.knees.now c.args.knees.now.set)
    (as_owed c.args.owed) (as_owed c.in-Ok.left) c.args.start c.in-Ok.at c.in-Ok.ensures.value
    c.in-Ok.ensures.count c.in-Ok.ensures.in_range
    c.in-Err-with_least.past.at c.in-Err-with_least.ensures.from_start
    (simp to_z-of_z at c.in-Err-with_least.ensures.past)

pub returns-in-Ok-with_least-clause-value : goal.returns-in-Ok-with_least-clause-value
returns-in-Ok-with_least-clause-value c =
    let lo : SFits w128 c.args.sizes.low = search rules in
    let hi : SFits w128 c.args.sizes.high = search rules in
    let le : SFits w128 c.in-Ok.left.each = search rules in
    let lc : SFits w128 c.in-Ok.left.once = search rules in
    sizes_value c.args.sizes.low c.args.sizes.high (knees_in c.args.knees.now c.args.knees.now.set)
    (as_owed c.args.owed) (as_owed c.in-Ok.left) c.args.start c.in-Ok.at c.in-Ok.ensures.value
    c.in-Ok.ensures.count c.in-Ok.ensures.in_range
    c.in-Ok-with_least.to.sum (simp to_z-of_z at c.in-Ok-with_least.ensures.value)

pub returns-in-Ok-with_least-clause-in_range : goal.returns-in-Ok-with_least-clause-in_range
returns-in-Ok-with_least-clause-in_range c =
    let lo : SFits w128 c.args.sizes.low = search rules in
    let hi : SFits w128 c.args.sizes.high = search rules in
    let le : SFits w128 c.in-Ok.left.each = search rules in
    let lc : SFits w128 c.in-Ok.left.once = search rules in
    sizes_fit c.args.sizes.low c.args.sizes.high (knees_in c.args.knees.now c.args.knees.now.set)
    (as_owed c.args.owed) (as_owed c.in-Ok.left) c.args.start c.in-Ok.at c.in-Ok.ensures.value
    c.in-Ok.ensures.count c.in-Ok.ensures.in_range
    (simp to_z-of_z at c.in-Ok-with_least.ensures.in_range)

pub returns-in-Ok-with_least-clause-count : goal.returns-in-Ok-with_least-clause-count
returns-in-Ok-with_least-clause-count c =
    let lo : SFits w128 c.args.sizes.low = search rules in
    let hi : SFits w128 c.args.sizes.high = search rules in
    let le : SFits w128 c.in-Ok.left.each = search rules in
    let lc : SFits w128 c.in-Ok.left.once = search rules in
    sizes_count c.args.sizes.low c.args.sizes.high (knees_in c.args.knees.now c.args.knees.now.set)
    (as_owed c.args.owed) (as_owed c.in-Ok.left) c.args.start c.in-Ok.at c.in-Ok.ensures.value
    c.in-Ok.ensures.count c.in-Ok.ensures.in_range
    c.in-Ok-with_least.to.at (c.in-Ok-with_least.ensures.count)
