use Rattle.search_tree.proofs.LeanLemmas.{kept_is_lean}
use Rattle.search_tree.proofs.trees.kept_is_lean.Goals as goal

pub returns : goal.returns
returns c = kept_is_lean
