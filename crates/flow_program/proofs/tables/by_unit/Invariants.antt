use Rattle.pgraph.specs.number_sets.Sets.{IsSet}
use Rattle.std.proofs.Common.{length}
use Rattle.flow_program.proofs.TableLemmas.{IsTabled}
use Rattle.flow_program.proofs.tables.by_unit.Given as goal

abbrev pub invariant-loop-i : goal.invariant-loop-i
invariant-loop-i l = record {
  is_set : IsSet 128 l.i-iterator;
  so_far : IsTabled 128 l.fn.set l.values l.table l.i-iterator l.place;
}
