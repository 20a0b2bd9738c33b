use Rattle.pgraph.specs.number_sets.Sets.{IsSet}
use Rattle.std.proofs.Common.{length}
use Rattle.pgraph.specs.number_sets.Sets.{has}
use Rattle.pgraph.specs.flow_rules.Net.{net_of}
use Rattle.flow_program.specs.Entry.{entry}
use Rattle.flow_program.proofs.FeasibleLemmas.{IsRangesSoFar}
use Rattle.flow_program.proofs.feasibility.in_ranges.Given as goal

abbrev pub invariant-loop-j : goal.invariant-loop-j
invariant-loop-j l = record {
  is_set : IsSet 256 l.j-iterator;
  so_far : IsRangesSoFar (net_of l.fn.problem) (has l.fn.set) (entry l.fn.size_at) l.fn.d
      l.fn.materials l.hold l.at l.j-iterator;
}
