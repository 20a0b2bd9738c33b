use Rattle.tree_laws.proofs.CountLemmas.{children_are_many}
use Rattle.tree_laws.proofs.ways.children_are_many.Goals as goal

pub returns : goal.returns
returns c = children_are_many
