use Rattle.std.proofs.Common.{◌≡◌, ◌<◌, ◌∙◌, ap, sym, subst, ℕ, List, Some, true, length}
use Rattle.report_rules.specs.number_sets.Sets.{has, listed}
use Rattle.report_rules.specs.problem_rules.Problem.{Problem}
use Rattle.report_rules.specs.pns_rules.Shape.{Shape}
use Rattle.report_rules.specs.pns_rules.Structure.{mats}
use Rattle.report_rules.specs.pns_rules.Nodes.{Node}
use Rattle.flow_evaluator.specs.pgraph.View.{node_of}
use Rattle.report_rules.specs.flow_rules.Net.{net_of}
use Rattle.report_rules.specs.flow_rules.Relaxed.{stays, rows}
use Rattle.report_rules.specs.tree_rules.LeastFlows.{decided, rows_of}
use Rattle.report_rules.specs.Marginal.{Marginals, Multipliers, AreMarginals}
use Rattle.report_amounts.proofs.network.least.Goals as goal

pub sets_of-sets-requires : goal.sets_of-sets-requires
sets_of-sets-requires c u h =
    subst (λ (g : Shape). u < g.units) (sym c.graph-graph.ensures.same)
    (c.requires.known u
    (subst (λ (us : List ℕ). has us u ≡ true) c.node_of-node.ensures.inside h))

pub returns : goal.returns
returns c =
    let p = c.args.site.now in
    let us = c.args.set in
    let node : node_of c.node_of-node.result ≡ decided p us =
    c.node_of-node.ensures.node ∙ ap (λ (q : Problem). decided q us) c.problem.ensures.same in
    let are : c.sets_of-sets.result.rows ≡ rows_of p us =
    c.sets_of-sets.ensures.rows_are
    ∙ ap (λ (g : Shape). listed g.materials (mats g (stays (node_of c.node_of-node.result))))
    c.graph-graph.ensures.same
    ∙ ap (λ (n : Node). rows (net_of p) n) node in
    let m : Multipliers =
    record { rows = c.sets_of-sets.result.rows; d = c.args.bound.d; ys = c.args.bound.ys } in
    let found : c.of.result ≡ Some m =
    c.of.ensures ∙ ap (λ (n : Multipliers). Some n) c.of-multipliers.ensures in
    let least = c.requires.least in
    subst (λ (n : Marginals). AreMarginals p us n) (sym found)
    (least.0, least.1, are, least.2)
