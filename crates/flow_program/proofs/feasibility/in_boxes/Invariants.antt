use Rattle.pgraph.specs.number_sets.Sets.{IsSet}
use Rattle.std.proofs.Common.{length}
use Rattle.pgraph.specs.flow_rules.Net.{net_of}
use Rattle.flow_program.specs.Entry.{entry}
use Rattle.flow_program.proofs.FeasibleLemmas.{IsBoxesSoFar}
use Rattle.flow_program.proofs.feasibility.in_boxes.Given as goal

abbrev pub invariant-loop-u : goal.invariant-loop-u
invariant-loop-u l = record {
  is_set : IsSet 128 l.u-iterator;
  so_far : IsBoxesSoFar (net_of l.fn.problem) (entry l.fn.size_at) l.fn.d l.fn.set l.u-iterator;
}
