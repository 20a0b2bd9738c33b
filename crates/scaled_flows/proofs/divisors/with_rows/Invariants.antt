use Rattle.tree_rules.specs.number_sets.Sets.{IsSet}
use Rattle.flow_program.specs.pgraph.View.{node_of}
use Rattle.tree_rules.specs.flow_rules.Net.{net_of}
use Rattle.scaled_flows.proofs.FoundLemmas.{IsRowsDivisor}
use Rattle.scaled_flows.proofs.divisors.with_rows.Given as goal

abbrev pub invariant-loop-j : goal.invariant-loop-j
invariant-loop-j l = record {
  is_set : IsSet 256 l.j-iterator;
  so_far : IsRowsDivisor (net_of l.fn.problem) (node_of l.fn.taken) l.fn.rates l.fn.rows l.fn.common
      l.all l.j-iterator;
}
