use Rattle.search_tree.proofs.ReducedLemmas.{reduced_is_structure}
use Rattle.search_tree.proofs.nodes.reduced_is_structure.Goals as goal

pub returns : goal.returns
returns c = reduced_is_structure
