use Rattle.std.proofs.Common.{◌≡◌, subst}
use Rattle.stability_laws.specs.number_sets.Sets.{has}
use Rattle.stability_laws.specs.pns_rules.Nodes.{Node}
use Rattle.solver.specs.pgraph.View.{node_of}
use Rattle.stability_laws.specs.tree_rules.Accepted.{first_node}
use Rattle.solver.specs.abb_search.Found.{IsFound}
use Rattle.stability.proofs.desk.search_at.Goals as goal

pub returns-in-Ok-clause-found : goal.returns-in-Ok-clause-found
returns-in-Ok-clause-found g c =
    let start : node_of (record { inside = c.empty.result; outside = c.empty-2.result })
    ≡ first_node =
    λ i. record { inside = has (c.empty.ensures i); outside = has (c.empty-2.ensures i) } in
    subst (λ (n : Node). IsFound c.args.site.now n c.args.effort.budget c.search_flows.result) start
    c.search_flows.ensures.found
