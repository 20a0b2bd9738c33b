use Rattle.std.proofs.Common.{pos}
use Rattle.std.specs.Prelude.{◌&&◌, int_lt}
use Rattle.structure_list.specs.number_sets.Sets.{IsSet}
use Rattle.flow_program.specs.Entry.{entry}
use Rattle.charges.proofs.PayingLemmas.{IsFoundSoFar}
use Rattle.charges.proofs.knees.paying.Given as goal

abbrev pub invariant-loop-j : goal.invariant-loop-j
invariant-loop-j l = record {
  is_set : IsSet 256 l.j-iterator;
  so_far : IsFoundSoFar
      (λ j. int_lt (pos 0) (entry l.fn.rates j) && int_lt (pos 0) (entry l.fn.ys j)) l.fn.set
      l.found l.j-iterator;
}
