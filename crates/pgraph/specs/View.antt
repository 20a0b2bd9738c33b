-- The nodes and steps of the code, as the rules speak of them.
use Rattle.flow_rules.specs.number_sets.Sets.{has}
use Rattle.flow_rules.specs.pns_rules.Nodes as rules
use Rattle.unit_sets.specs.declared.node.Node.{Node}
use Rattle.unit_sets.specs.declared.step.Step.{Step}
use Rattle.unit_sets.specs.declared.step.Step.TheVariants.{Raw, Rival, Starve, Loose, Sole}

abbrev pub node_of : Node → rules.Node
node_of n = record { inside = has n.inside; outside = has n.outside }

abbrev pub step_of : Step → rules.Step
step_of (Raw u) = rules.raw u
step_of (Rival u) = rules.rival u
step_of (Starve x) = rules.starve x
step_of (Loose w) = rules.loose w
step_of (Sole x u) = rules.sole x u
