use Rattle.std.proofs.Common.{rules, SFits}
use Rattle.std.specs.Prelude.{unsigned_abs}
use Rattle.std.specs.Int.{w128}
use Rattle.std.proofs.lemmas.Int.{to_z-of_z}
use Rattle.tree_rules.proofs.integer_laws.Cited.{one_divides}
use Rattle.scaled_flows.proofs.divisors.cost_divisor.Goals as goal

pub returns-in-Some-clause-divides : goal.returns-in-Some-clause-divides
returns-in-Some-clause-divides c =
    let costs = c.ranges.costs in
    let a : SFits w128 c.at_least_one-divisor.result = search rules in
    let h = simp to_z-of_z at c.at_least_one-divisor.ensures.divides in
    simp to_z-of_z h

pub returns-in-None-clause-divides : goal.returns-in-None-clause-divides
returns-in-None-clause-divides c = one_divides (unsigned_abs c.args.costs)
