use Rattle.std.proofs.Common.{ℤ, subst, rules, SFits}
use Rattle.std.specs.Prelude.{unsigned_abs}
use Rattle.std.specs.Int.{w128, ◌∣◌}
use Rattle.std.proofs.lemmas.Int.{to_z-of_z}
use Rattle.scaled_flows.proofs.divisors.with_unit.Goals as goal

pub returns-clause-sizes : goal.returns-clause-sizes
returns-clause-sizes c =
    let lo : SFits w128 c.unit_numbers-kept.result.low = search rules in
    let hi : SFits w128 c.unit_numbers-kept.result.high = search rules in
    let co : SFits w128 c.unit_numbers-kept.result.cost = search rules in
    let fr : SFits w128 c.unit_numbers-loose.result.cost = search rules in
    let s : SFits w128 c.args.common.sizes = search rules in
    let k : SFits w128 c.args.common.costs = search rules in
    let x : SFits w128 c.with_both.result = search rules in
    let y : SFits w128 c.with_both-2.result = search rules in
    let h = simp to_z-of_z at c.with_both.ensures.common in
    simp to_z-of_z h

pub returns-clause-costs : goal.returns-clause-costs
returns-clause-costs c =
    let lo : SFits w128 c.unit_numbers-kept.result.low = search rules in
    let hi : SFits w128 c.unit_numbers-kept.result.high = search rules in
    let co : SFits w128 c.unit_numbers-kept.result.cost = search rules in
    let fr : SFits w128 c.unit_numbers-loose.result.cost = search rules in
    let s : SFits w128 c.args.common.sizes = search rules in
    let k : SFits w128 c.args.common.costs = search rules in
    let x : SFits w128 c.with_both.result = search rules in
    let y : SFits w128 c.with_both-2.result = search rules in
    let h = simp to_z-of_z at c.with_both-2.ensures.common in
    simp to_z-of_z h

pub returns-clause-low : goal.returns-clause-low
returns-clause-low c =
    let lo : SFits w128 c.unit_numbers-kept.result.low = search rules in
    let hi : SFits w128 c.unit_numbers-kept.result.high = search rules in
    let co : SFits w128 c.unit_numbers-kept.result.cost = search rules in
    let fr : SFits w128 c.unit_numbers-loose.result.cost = search rules in
    let s : SFits w128 c.args.common.sizes = search rules in
    let k : SFits w128 c.args.common.costs = search rules in
    let x : SFits w128 c.with_both.result = search rules in
    let y : SFits w128 c.with_both-2.result = search rules in
    let h = simp to_z-of_z at c.with_both.ensures.first in
    simp to_z-of_z
    (subst (λ (v : ℤ). unsigned_abs c.with_both.result ∣ unsigned_abs v)
    c.unit_numbers-kept.ensures.low h)

pub returns-clause-high : goal.returns-clause-high
returns-clause-high c =
    let lo : SFits w128 c.unit_numbers-kept.result.low = search rules in
    let hi : SFits w128 c.unit_numbers-kept.result.high = search rules in
    let co : SFits w128 c.unit_numbers-kept.result.cost = search rules in
    let fr : SFits w128 c.unit_numbers-loose.result.cost = search rules in
    let s : SFits w128 c.args.common.sizes = search rules in
    let k : SFits w128 c.args.common.costs = search rules in
    let x : SFits w128 c.with_both.result = search rules in
    let y : SFits w128 c.with_both-2.result = search rules in
    let h = simp to_z-of_z at c.with_both.ensures.second in
    simp to_z-of_z
    (subst (λ (v : ℤ). unsigned_abs c.with_both.result ∣ unsigned_abs v)
    c.unit_numbers-kept.ensures.high h)

pub returns-clause-taken_cost : goal.returns-clause-taken_cost
returns-clause-taken_cost c =
    let lo : SFits w128 c.unit_numbers-kept.result.low = search rules in
    let hi : SFits w128 c.unit_numbers-kept.result.high = search rules in
    let co : SFits w128 c.unit_numbers-kept.result.cost = search rules in
    let fr : SFits w128 c.unit_numbers-loose.result.cost = search rules in
    let s : SFits w128 c.args.common.sizes = search rules in
    let k : SFits w128 c.args.common.costs = search rules in
    let x : SFits w128 c.with_both.result = search rules in
    let y : SFits w128 c.with_both-2.result = search rules in
    let h = simp to_z-of_z at c.with_both-2.ensures.first in
    simp to_z-of_z
    (subst (λ (v : ℤ). unsigned_abs c.with_both-2.result ∣ unsigned_abs v)
    c.unit_numbers-kept.ensures.cost h)

pub returns-clause-free_cost : goal.returns-clause-free_cost
returns-clause-free_cost c =
    let lo : SFits w128 c.unit_numbers-kept.result.low = search rules in
    let hi : SFits w128 c.unit_numbers-kept.result.high = search rules in
    let co : SFits w128 c.unit_numbers-kept.result.cost = search rules in
    let fr : SFits w128 c.unit_numbers-loose.result.cost = search rules in
    let s : SFits w128 c.args.common.sizes = search rules in
    let k : SFits w128 c.args.common.costs = search rules in
    let x : SFits w128 c.with_both.result = search rules in
    let y : SFits w128 c.with_both-2.result = search rules in
    let h = simp to_z-of_z at c.with_both-2.ensures.second in
    simp to_z-of_z
    (subst (λ (v : ℤ). unsigned_abs c.with_both-2.result ∣ unsigned_abs v)
    c.unit_numbers-loose.ensures.cost h)
