use Rattle.std.proofs.Common.{◌≡◌, ◌<◌}
use Rattle.structure_list.specs.number_sets.Sets.{IsSet}
use Rattle.flow_program.specs.Entry.{entry}
use Rattle.charges.specs.Firsts.{least_from}
use Rattle.charges.proofs.knees.first_knee.Given as goal

abbrev pub invariant-loop-j : goal.invariant-loop-j
invariant-loop-j l = record {
  is_set : IsSet 256 l.j-iterator;
  small : l.best < 256;
  first : least_from (entry l.fn.at) l.best l.j-iterator ≡ least_from (entry l.fn.at) l.initial.best
      l.initial.j-iterator;
}
