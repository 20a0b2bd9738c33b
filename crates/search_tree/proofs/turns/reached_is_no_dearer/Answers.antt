use Rattle.search_tree.proofs.OrderLemmas.{reached_is_no_dearer}
use Rattle.search_tree.proofs.turns.reached_is_no_dearer.Goals as goal

pub returns : goal.returns
returns c = reached_is_no_dearer
