use Rattle.search_tree.proofs.OrderLemmas.{reached_may_undercut}
use Rattle.search_tree.proofs.turns.reached_may_undercut.Goals as goal

pub returns : goal.returns
returns c = reached_may_undercut
