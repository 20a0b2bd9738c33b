use Rattle.structure_list.specs.number_sets.Sets.{IsSet}
use Rattle.structure_list.specs.pgraph.View.{node_of}
use Rattle.structure_list.specs.flow_rules.Net.{net_of}
use Rattle.structure_list.specs.flow_rules.Charge.{useful}
use Rattle.charges.specs.Known.{facts_of}
use Rattle.charges.proofs.UseLemmas.{IsTableSoFar}
use Rattle.charges.proofs.useful.useful_at.Given as goal

abbrev pub invariant-loop-j : goal.invariant-loop-j
invariant-loop-j l = record {
  is_set : IsSet 256 l.j-iterator;
  so_far : IsTableSoFar (useful (net_of l.fn.site) (node_of l.fn.node) (facts_of l.fn.facts)) l.made
      l.most l.j-iterator;
}
