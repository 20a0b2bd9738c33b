use Rattle.std.proofs.Common.{length, ◌-◌}
use Rattle.structure_list.specs.number_sets.Options.{all_options}
use Rattle.node_evaluation.proofs.OptionWalk.{IsAhead}
use Rattle.node_evaluation.proofs.options.options_of_material.Given as goal

abbrev pub invariant-options : goal.invariant-options
invariant-options l = IsAhead l.base l.free l.all.items l.next

abbrev pub decreases-options : goal.decreases-options
decreases-options l = length (all_options l.base l.free) - length l.all.items
