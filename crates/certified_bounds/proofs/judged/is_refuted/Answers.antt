use Rattle.std.proofs.Common.{◌≡◌, length, arith, pos, subst}
use Rattle.scaled_flows.specs.problem_rules.Problem.{Problem}
use Rattle.scaled_flows.specs.pgraph.View.{node_of}
use Rattle.scaled_flows.specs.flow_rules.Net.{net_of}
use Rattle.scaled_flows.specs.flow_rules.Relaxed.{rows, Refutes}
use Rattle.scaled_flows.specs.flow_rules.Steps.{AreInRange}
use Rattle.scaled_flows.specs.flow_rules.BoundSteps.{bound_steps}
use Rattle.scaled_flows.specs.tree_rules.Leaf.{multiplier}
use Rattle.certified_bounds.proofs.judged.is_refuted.Goals as goal

pub refutes-requires-clause-multipliers : goal.refutes-requires-clause-multipliers
refutes-requires-clause-multipliers c =
    let e : c.row_count-rows.result
    ≡ length (rows (net_of c.args.site.now) (node_of c.args.node.now)) =
    c.row_count-rows.ensures c.args.site.now c.graph-graph.ensures.same in
    rw c.problem-problem.ensures.same (omega arith)

pub returns-in-Ok : goal.returns-in-Ok
returns-in-Ok c =
    let p = c.args.site.now in
    let n = node_of c.args.node.now in
    let ys = c.args.multipliers.now in
    let same = c.problem-problem.ensures.same in
    let e : c.row_count-rows.result ≡ length (rows (net_of p) n) =
    c.row_count-rows.ensures p c.graph-graph.ensures.same in
    λ t. record {
      each_row = omega arith;
      formed =
          subst (λ (r : Problem). AreInRange (bound_steps (net_of r) n (pos 0) (multiplier r n ys)))
          same c.in-Ok.ensures.in_range;
      refutes =
          subst (λ (r : Problem). Refutes (net_of r) n (multiplier r n ys)) same
          (c.in-Ok.ensures.value.0 t);
    }
