use Rattle.dual_simplex.specs.number_sets.Sets.{has, IsSet, IsWithin}
use Rattle.dual_simplex.specs.pns_rules.Structure.{IsBetween}
use Rattle.dual_simplex.specs.pgraph.Tables.{shape}
use Rattle.flow_evaluator.proofs.at_hand.least_with.Given as goal

abbrev pub invariant-loop-u : goal.invariant-loop-u
invariant-loop-u l = record {
  is_set : IsSet 128 l.u-iterator;
  between : IsBetween (shape l.graph) (has l.in_use) (has l.fn.left_out) (has l.set);
  gone : IsWithin (has l.fn.left_out) (has l.gone);
}
