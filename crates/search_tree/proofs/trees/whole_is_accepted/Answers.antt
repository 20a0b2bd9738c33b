use Rattle.search_tree.proofs.LeanLemmas.{whole_is_accepted}
use Rattle.search_tree.proofs.trees.whole_is_accepted.Goals as goal

pub returns : goal.returns
returns c = whole_is_accepted
