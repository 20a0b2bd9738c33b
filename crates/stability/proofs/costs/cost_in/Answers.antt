use Rattle.std.proofs.Common.{to_z, of_z}
use Rattle.std.specs.Int.{w128}
use Rattle.stability_laws.specs.number_sets.Sets.{has}
use Rattle.stability_laws.specs.flow_rules.Net.{net_of, beside}
use Rattle.stability_laws.specs.flow_rules.Flows.{cost}
use Rattle.stability_laws.specs.flow_rules.CostSteps.{cost_steps}
use Rattle.stability.proofs.CostLemmas.{cost_in_range}
use Rattle.stability.proofs.costs.cost_in.Goals as goal

pub returns-clause-in_range : goal.returns-clause-in_range
returns-clause-in_range c =
    let net = net_of c.args.problem.now in
    let set = has c.units.result in
    let sizes = beside c.units.result c.sizes.result.now in
    let d = to_z w128 (of_z w128 c.d.result) in
    cost_in_range c.cost_of.result (cost_steps net set sizes d) (cost net set sizes d)
    c.cost_of.ensures.value c.cost_of.ensures.in_range
    (c.sums_are_last.ensures.cost c.args.problem.now set sizes d)
