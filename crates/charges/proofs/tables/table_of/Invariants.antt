use Rattle.structure_list.specs.number_sets.Sets.{IsSet}
use Rattle.charges.proofs.TableLemmas.{IsTabled}
use Rattle.charges.proofs.tables.table_of.Given as goal

abbrev pub invariant-loop-j : goal.invariant-loop-j
invariant-loop-j l = record {
  is_set : IsSet 256 l.j-iterator;
  so_far : IsTabled 256 l.fn.set l.values l.table l.j-iterator l.place;
}
