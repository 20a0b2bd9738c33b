use Rattle.pgraph.specs.number_sets.Sets.{IsSet}
use Rattle.std.proofs.Common.{length}
use Rattle.flow_program.proofs.CostLemmas.{IsCostSoFar}
use Rattle.flow_program.proofs.costs.size_cost.Given as goal

abbrev pub invariant-loop-j : goal.invariant-loop-j
invariant-loop-j l = record {
  is_set : IsSet 256 l.j-iterator;
  so_far : IsCostSoFar l.fn.problem l.fn.u l.fn.materials l.cost l.j-iterator;
}
