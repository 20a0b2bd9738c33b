use Rattle.search_tree.proofs.CountLemmas.{preorder_has_all}
use Rattle.search_tree.proofs.TreeLemmas.{preorder_is_tree}
use Rattle.search_tree.proofs.laws.preorder_is_tree.Goals as goal

pub returns-clause-tree : goal.returns-clause-tree
returns-clause-tree c = preorder_is_tree

pub returns-clause-all : goal.returns-clause-all
returns-clause-all c = preorder_has_all
