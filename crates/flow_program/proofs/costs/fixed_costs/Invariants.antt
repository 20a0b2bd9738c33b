use Rattle.pgraph.specs.number_sets.Sets.{IsSet}
use Rattle.std.proofs.Common.{length}
use Rattle.flow_program.proofs.CostLemmas.{IsSumSoFar}
use Rattle.flow_program.proofs.costs.fixed_costs.Given as goal

abbrev pub invariant-loop-u : goal.invariant-loop-u
invariant-loop-u l = record {
  is_set : IsSet 128 l.u-iterator;
  so_far : IsSumSoFar l.fn.problem l.fn.set l.sum l.u-iterator;
}
