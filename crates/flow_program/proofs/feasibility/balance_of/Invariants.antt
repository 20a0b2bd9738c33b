use Rattle.pgraph.specs.number_sets.Sets.{IsSet}
use Rattle.std.proofs.Common.{length}
use Rattle.flow_program.specs.Entry.{entry}
use Rattle.flow_program.proofs.FeasibleLemmas.{IsBalanceSoFar}
use Rattle.flow_program.proofs.feasibility.balance_of.Given as goal

abbrev pub invariant-loop-u : goal.invariant-loop-u
invariant-loop-u l = record {
  is_set : IsSet 128 l.u-iterator;
  so_far : IsBalanceSoFar l.fn.problem (entry l.fn.size_at) l.fn.j l.fn.units l.sum l.fn.start l.at
      l.u-iterator;
}
