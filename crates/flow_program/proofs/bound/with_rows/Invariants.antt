use Rattle.pgraph.specs.number_sets.Sets.{IsSet}
use Rattle.std.proofs.Common.{length}
use Rattle.pgraph.specs.View.{node_of}
use Rattle.pgraph.specs.flow_rules.Net.{net_of}
use Rattle.flow_program.specs.Entry.{entry}
use Rattle.flow_program.proofs.BoundSumLemmas.{IsRowSum}
use Rattle.flow_program.proofs.bound.with_rows.Given as goal

abbrev pub invariant-loop-j : goal.invariant-loop-j
invariant-loop-j l = record {
  is_set : IsSet 256 l.j-iterator;
  so_far : IsRowSum (net_of l.fn.problem) (node_of l.fn.node) (entry l.fn.ys) l.fn.rows l.fn.sum
      l.total l.at l.j-iterator;
}
