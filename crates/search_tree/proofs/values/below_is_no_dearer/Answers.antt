use Rattle.search_tree.proofs.ValueLemmas.{below_is_no_dearer}
use Rattle.search_tree.proofs.values.below_is_no_dearer.Goals as goal

pub returns : goal.returns
returns c = below_is_no_dearer
