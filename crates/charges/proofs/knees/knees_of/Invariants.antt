use Rattle.structure_list.specs.number_sets.Sets.{IsSet}
use Rattle.flow_program.specs.Entry.{entry}
use Rattle.charges.proofs.PayingLemmas.{IsKneedSoFar}
use Rattle.charges.proofs.knees.knees_of.Given as goal

abbrev pub invariant-loop-j : goal.invariant-loop-j
invariant-loop-j l = record {
  is_set : IsSet 256 l.j-iterator;
  so_far : IsKneedSoFar (entry l.fn.useful.most) (entry l.fn.rates) (entry l.fn.ys) l.set
      l.at l.worth l.j-iterator;
}
