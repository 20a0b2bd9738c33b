use Rattle.search_tree.proofs.ValueLemmas.{ways_are_dearer}
use Rattle.search_tree.proofs.values.children_are_dearer.Goals as goal

pub returns : goal.returns
returns c = ways_are_dearer
