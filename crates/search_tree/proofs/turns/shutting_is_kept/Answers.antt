use Rattle.search_tree.proofs.KeptLemmas.{shutting_is_kept}
use Rattle.search_tree.proofs.turns.shutting_is_kept.Goals as goal

pub returns : goal.returns
returns c = shutting_is_kept
