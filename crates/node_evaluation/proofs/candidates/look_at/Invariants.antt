use Rattle.structure_list.specs.number_sets.Sets.{has, IsSet, IsWithin}
use Rattle.structure_list.specs.pns_rules.Nodes.{free_makers}
use Rattle.structure_list.specs.pgraph.Tables.{shape}
use Rattle.structure_list.specs.pgraph.View.{node_of}
use Rattle.node_evaluation.specs.Choices.{IsDecisive}
use Rattle.node_evaluation.proofs.candidates.look_at.Given as goal

abbrev pub invariant-loop-unit : goal.invariant-loop-unit
invariant-loop-unit l = record {
  is_set : IsSet 128 l.unit-iterator;
  within : IsWithin (has l.unit-iterator) (has (free_makers (shape l.graph) (node_of l.node) l.x));
  decisive : IsDecisive (shape l.graph) (node_of l.node) l.best.unit;
}
