use Rattle.tree_parts.proofs.OpenLemmas.{graft_is_tree, graft_is_partial}
use Rattle.tree_parts.proofs.laws.grafts_are_partial.Goals as goal

pub returns-clause-tree : goal.returns-clause-tree
returns-clause-tree c = graft_is_tree

pub returns-clause-partial : goal.returns-clause-partial
returns-clause-partial c = graft_is_partial
