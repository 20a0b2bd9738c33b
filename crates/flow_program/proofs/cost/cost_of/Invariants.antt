use Rattle.pgraph.specs.number_sets.Sets.{IsSet}
use Rattle.std.proofs.Common.{length}
use Rattle.pgraph.specs.flow_rules.Net.{net_of}
use Rattle.flow_program.specs.Entry.{entry}
use Rattle.flow_program.proofs.CostSumLemmas.{IsCostSum}
use Rattle.flow_program.proofs.cost.cost_of.Given as goal

abbrev pub invariant-loop-u : goal.invariant-loop-u
invariant-loop-u l = record {
  is_set : IsSet 128 l.u-iterator;
  so_far : IsCostSum (net_of l.fn.problem) (entry l.size_at) l.fn.d l.fn.set l.sum l.at
      l.u-iterator;
}
