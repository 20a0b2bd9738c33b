use Rattle.tree_rules.specs.number_sets.Sets.{IsSet}
use Rattle.std.proofs.Common.{◌*ℤ◌}
use Rattle.flow_program.specs.pgraph.View.{node_of}
use Rattle.tree_rules.specs.flow_rules.Net.{net_of}
use Rattle.flow_program.specs.Entry.{entry}
use Rattle.scaled_flows.specs.Scaled.{size_floor, size_ceiling, scaled_cost, price}
use Rattle.scaled_flows.specs.Settled.{IsSettled}
use Rattle.scaled_flows.proofs.SumLemmas.{IsCostSoFar}
use Rattle.scaled_flows.proofs.units.settled_costs.Given as goal

abbrev pub invariant-loop-u : goal.invariant-loop-u
invariant-loop-u l = record {
  is_set : IsSet 128 l.u-iterator;
  so_far : IsCostSoFar
      (λ i. IsSettled (size_floor (net_of l.fn.problem) l.fn.scales (node_of l.fn.node) i)
      (size_ceiling (net_of l.fn.problem) l.fn.scales i) l.fn.d
      (entry l.fn.size_at i)
      (price (net_of l.fn.problem) l.fn.scales (node_of l.fn.node) l.fn.scale (entry l.fn.y_at)
      i))
      (λ i. scaled_cost (net_of l.fn.problem) l.fn.scales (node_of l.fn.node) i *ℤ entry
      l.fn.size_at i) l.fn.set l.sum l.u-iterator;
}
