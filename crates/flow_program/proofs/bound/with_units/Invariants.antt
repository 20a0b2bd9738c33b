use Rattle.pgraph.specs.number_sets.Sets.{IsSet}
use Rattle.std.proofs.Common.{length}
use Rattle.pgraph.specs.View.{node_of}
use Rattle.pgraph.specs.flow_rules.Net.{net_of}
use Rattle.flow_program.specs.Entry.{entry}
use Rattle.flow_program.proofs.BoundSumLemmas.{IsUnitSum}
use Rattle.flow_program.proofs.bound.with_units.Given as goal

abbrev pub invariant-loop-u : goal.invariant-loop-u
invariant-loop-u l = record {
  is_set : IsSet 128 l.u-iterator;
  so_far : IsUnitSum (net_of l.fn.problem) (node_of l.fn.node) l.fn.d (entry l.fn.ys) l.fn.set
      l.fn.sum l.total l.fn.start l.at l.u-iterator;
}
