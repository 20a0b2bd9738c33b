use Rattle.structure_list.specs.number_sets.Sets.{IsSet}
use Rattle.flow_program.specs.Entry.{entry}
use Rattle.charges.proofs.PaidLemmas.{IsSetSoFar}
use Rattle.charges.proofs.paid.with_set.Given as goal

abbrev pub invariant-loop-u : goal.invariant-loop-u
invariant-loop-u l = record {
  is_set : IsSet 128 l.u-iterator;
  so_far : IsSetSoFar (entry l.fn.before.to) l.fn.weight l.fn.units l.to
      l.fn.before.at l.at l.u-iterator;
}
