use Rattle.search_tree.proofs.KeptLemmas.{branching_is_kept}
use Rattle.search_tree.proofs.turns.branching_is_kept.Goals as goal

pub returns : goal.returns
returns c = branching_is_kept
