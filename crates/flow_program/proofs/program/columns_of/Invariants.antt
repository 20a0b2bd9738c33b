use Rattle.pgraph.specs.number_sets.Sets.{IsSet}
use Rattle.std.proofs.Common.{length}
use Rattle.pgraph.specs.View.{node_of}
use Rattle.flow_program.proofs.ProgramLemmas.{AreColumns}
use Rattle.flow_program.proofs.program.columns_of.Given as goal

abbrev pub invariant-loop-u : goal.invariant-loop-u
invariant-loop-u l = record {
  is_set : IsSet 128 l.u-iterator;
  so_far : AreColumns l.fn.problem (node_of l.fn.node) l.fn.rows l.fn.units l.costs.items
      l.lows.items l.highs.items l.rates.items l.u-iterator;
}
