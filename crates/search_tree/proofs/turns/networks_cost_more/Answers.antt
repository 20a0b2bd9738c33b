use Rattle.search_tree.proofs.LeanLemmas.{networks_cost_more}
use Rattle.search_tree.proofs.turns.networks_cost_more.Goals as goal

pub returns : goal.returns
returns c = networks_cost_more
