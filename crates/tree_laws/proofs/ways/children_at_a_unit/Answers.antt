use Rattle.tree_laws.proofs.WayLemmas.{either_children}
use Rattle.tree_laws.proofs.ways.children_at_a_unit.Goals as goal

pub returns : goal.returns
returns c = either_children
