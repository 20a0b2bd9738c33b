use Rattle.tree_laws.proofs.TreeLemmas.{recharged_length, recharged_whole}
use Rattle.tree_laws.proofs.recharged.recharged_is_tree.Goals as goal

pub returns-clause-tree : goal.returns-clause-tree
returns-clause-tree c = recharged_whole

pub returns-clause-length : goal.returns-clause-length
returns-clause-length c = recharged_length
