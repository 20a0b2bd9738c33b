use Rattle.flow_program.specs.number_sets.Sets.{IsSet}
use Rattle.dual_simplex.proofs.NumberLemmas.{IsFilled}
use Rattle.dual_simplex.proofs.numbers.row_table.Given as goal

abbrev pub invariant-loop-material : goal.invariant-loop-material
invariant-loop-material l = record {
  is_set : IsSet 256 l.material-iterator;
  so_far : IsFilled 256 l.fn.set l.table l.material-iterator l.place;
}
