use Rattle.pgraph.specs.number_sets.Sets.{IsSet}
use Rattle.std.proofs.Common.{length}
use Rattle.flow_program.proofs.TableLemmas.{IsTabled}
use Rattle.flow_program.proofs.tables.by_material.Given as goal

abbrev pub invariant-loop-j : goal.invariant-loop-j
invariant-loop-j l = record {
  is_set : IsSet 256 l.j-iterator;
  so_far : IsTabled 256 l.fn.set l.values l.table l.j-iterator l.place;
}
