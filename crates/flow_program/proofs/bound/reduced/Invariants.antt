use Rattle.pgraph.specs.number_sets.Sets.{IsSet}
use Rattle.std.proofs.Common.{length}
use Rattle.flow_program.specs.Entry.{entry}
use Rattle.flow_program.proofs.BoundSumLemmas.{IsReducedSoFar}
use Rattle.flow_program.proofs.bound.reduced.Given as goal

abbrev pub invariant-loop-j : goal.invariant-loop-j
invariant-loop-j l = record {
  is_set : IsSet 256 l.j-iterator;
  so_far : IsReducedSoFar (entry l.fn.ys) (entry l.fn.rates) l.fn.materials l.fn.cost l.rest
      l.fn.start l.at l.j-iterator;
}
