use Rattle.std.proofs.Common.{◌≡◌, pos, sym, ◌∙◌, subst, rules, SFits}
use Rattle.std.specs.Int.{w128}
use Rattle.std.proofs.lemmas.Int.{to_z-of_z}
use Rattle.scaled_flows.specs.number_sets.Sets.{has}
use Rattle.scaled_flows.specs.integer_laws.Range.{InRange}
use Rattle.scaled_flows.proofs.exact_numbers.Cited.{fits_from_range}
use Rattle.scaled_flows.specs.flow_rules.Net.{net_of, beside}
use Rattle.scaled_flows.specs.flow_rules.Flows.{cost}
use Rattle.scaled_flows.specs.flow_rules.Steps.{AreInRange}
use Rattle.scaled_flows.specs.flow_rules.CostSteps.{cost_steps}
use Rattle.branch_tree.proofs.flow_rules.Cited.{last_in_range}
use Rattle.certified_bounds.proofs.judged.cost_of_network.Goals as goal

pub returns-in-Ok-clause-in_range : goal.returns-in-Ok-clause-in_range
returns-in-Ok-clause-in_range c =
    let p = c.args.site.now in
    let s = has c.args.node.now.inside in
    let z = beside c.args.node.now.inside c.args.sizes.now in
    let d = c.args.d in
    let fits = c.ranges.d in
    let steps : AreInRange (cost_steps (net_of p) s z d) =
    simp (to_z-of_z, c.problem-problem.ensures.same) at c.in-Ok.ensures.in_range in
    let value : c.in-Ok.cost ≡ cost (net_of p) s z d =
    simp (to_z-of_z, c.problem-problem.ensures.same) at c.in-Ok.ensures.value in
    let range : InRange c.in-Ok.cost =
    subst InRange (c.sums_are_last.ensures.cost p s z d ∙ sym value)
    (last_in_range (pos 0) (cost_steps (net_of p) s z d) (search rules) steps) in
    let fits_cost : SFits w128 c.in-Ok.cost = fits_from_range _ range in
    simp to_z-of_z range
