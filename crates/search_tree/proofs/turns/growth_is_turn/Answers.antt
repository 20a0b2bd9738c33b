use Rattle.search_tree.proofs.StepLemmas.{growth_branches}
use Rattle.search_tree.proofs.turns.growth_is_turn.Goals as goal

pub returns : goal.returns
returns c = growth_branches
