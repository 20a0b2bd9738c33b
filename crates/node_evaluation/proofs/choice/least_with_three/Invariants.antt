use Rattle.structure_list.specs.number_sets.Sets.{has, IsWithin}
use Rattle.structure_list.specs.pns_rules.Structure.{is_needed}
use Rattle.structure_list.specs.pgraph.Tables.{shape}
use Rattle.structure_list.specs.pgraph.View.{node_of}
use Rattle.node_evaluation.proofs.choice.least_with_three.Given as goal

abbrev pub invariant-loop-x : goal.invariant-loop-x
invariant-loop-x l = IsWithin (has l.x-iterator) (is_needed (shape l.graph) (node_of l.node).inside)
