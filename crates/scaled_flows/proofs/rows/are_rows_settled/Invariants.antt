use Rattle.tree_rules.specs.number_sets.Sets.{IsSet}
use Rattle.flow_program.specs.pgraph.View.{node_of}
use Rattle.tree_rules.specs.flow_rules.Net.{net_of}
use Rattle.flow_program.specs.Entry.{entry}
use Rattle.scaled_flows.specs.Scaled.{row_floor, row_ceiling, scaled_balance}
use Rattle.scaled_flows.specs.Settled.{IsSettled}
use Rattle.scaled_flows.proofs.SumLemmas.{IsKnownSoFar}
use Rattle.scaled_flows.proofs.rows.are_rows_settled.Given as goal

abbrev pub invariant-loop-j : goal.invariant-loop-j
invariant-loop-j l = record {
  is_set : IsSet 256 l.j-iterator;
  so_far : IsKnownSoFar
      (λ j. IsSettled (row_floor (net_of l.fn.problem) l.fn.scales (node_of l.fn.node) j)
      (row_ceiling (net_of l.fn.problem) l.fn.scales (node_of l.fn.node) j) l.fn.d
      (scaled_balance (net_of l.fn.problem) l.fn.scales (node_of l.fn.node) (entry l.fn.size_at) j)
      (entry l.fn.y_at j)) l.fn.sets.rows l.j-iterator;
}
