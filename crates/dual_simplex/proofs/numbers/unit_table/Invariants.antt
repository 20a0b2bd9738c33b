use Rattle.flow_program.specs.number_sets.Sets.{IsSet}
use Rattle.dual_simplex.proofs.NumberLemmas.{IsFilled}
use Rattle.dual_simplex.proofs.numbers.unit_table.Given as goal

abbrev pub invariant-loop-unit : goal.invariant-loop-unit
invariant-loop-unit l = record {
  is_set : IsSet 128 l.unit-iterator;
  so_far : IsFilled 128 l.fn.set l.table l.unit-iterator l.place;
}
