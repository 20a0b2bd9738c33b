use Rattle.structure_list.specs.number_sets.Sets.{IsSet}
use Rattle.node_evaluation.proofs.dues.Dues.owed.Given as goal

abbrev pub invariant-loop-u : goal.invariant-loop-u
invariant-loop-u l = IsSet 128 l.u-iterator
