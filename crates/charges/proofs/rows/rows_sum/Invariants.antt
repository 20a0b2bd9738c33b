use Rattle.structure_list.specs.number_sets.Sets.{IsSet}
use Rattle.structure_list.specs.pgraph.View.{node_of}
use Rattle.structure_list.specs.flow_rules.Net.{net_of}
use Rattle.flow_program.specs.Entry.{entry}
use Rattle.charges.proofs.RowLemmas.{IsRowSum}
use Rattle.charges.proofs.rows.rows_sum.Given as goal

abbrev pub invariant-loop-j : goal.invariant-loop-j
invariant-loop-j l = record {
  is_set : IsSet 256 l.j-iterator;
  so_far : IsRowSum (net_of l.fn.problem) (node_of l.fn.node) (entry l.fn.ys) l.fn.rows l.sum
      l.at l.j-iterator;
}
