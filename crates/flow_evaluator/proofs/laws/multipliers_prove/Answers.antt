use Rattle.std.specs.Prelude.{pos, ◌≤ℤ◌}
use Rattle.std.proofs.Common.{arith}
use Rattle.std.proofs.lemmas.Int.{ints}
use Rattle.dual_simplex.specs.number_sets.Sets.{has}
use Rattle.dual_simplex.specs.flow_rules.Net.{net_of, beside}
use Rattle.dual_simplex.specs.flow_rules.Flows.{cost}
use Rattle.dual_simplex.specs.flow_rules.Relaxed.{bound}
use Rattle.node_evaluation.specs.tree_rules.LeastFlows.{decided, rows_of}
use Rattle.flow_evaluator.proofs.LeastLemmas.{least_cost}
use Rattle.flow_evaluator.proofs.NodeLemmas.{is_between}
use Rattle.flow_evaluator.proofs.laws.multipliers_prove.Goals as goal

pub returns-clause-least : goal.returns-clause-least
returns-clause-least c = λ p valid w structure d ys flows proved. record {
  flows = flows;
  proved = proved;
  least = λ z e h.
      let n = decided p w.units in
      let y = beside (rows_of p w.units) ys in
      let positive : pos 1 ≤ℤ d = proved.positive in
      let zero : pos 0 ≤ℤ d = omega (arith, ints) in
      least_cost w.d (bound (net_of p) n d y) w.cost d e (cost (net_of p) (has w.units) z e)
      flows.flows.positive positive proved.reached
      (c.weak_duality.ensures p valid n (has w.units) (is_between p w.units structure) z e h d zero
      y);
}

pub returns-clause-none : goal.returns-clause-none
returns-clause-none c = λ p valid us structure ys one_each refutes. record {
  one_each = one_each;
  refutes = refutes;
  none =
      λ z e h. c.refutation.ensures.structures p valid (decided p us) (beside (rows_of p us) ys)
      refutes (has us) (is_between p us structure) z e h;
}
