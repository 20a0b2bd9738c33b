use Rattle.pgraph.specs.number_sets.Sets.{IsSet}
use Rattle.std.proofs.Common.{length}
use Rattle.pgraph.specs.View.{node_of}
use Rattle.flow_program.proofs.ProgramLemmas.{AreBands}
use Rattle.flow_program.proofs.program.bands_of.Given as goal

abbrev pub invariant-loop-j : goal.invariant-loop-j
invariant-loop-j l = record {
  is_set : IsSet 256 l.j-iterator;
  so_far : AreBands l.fn.problem (node_of l.fn.node) l.fn.rows l.floors.items l.ceilings.items
      l.j-iterator;
}
