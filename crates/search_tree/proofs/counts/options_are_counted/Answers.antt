use Rattle.tree_laws.specs.pns_rules.Nodes.{base_makers, free_makers}
use Rattle.search_tree.proofs.NumberLemmas.{count_of_none, count_of_some, shares_are_small}
use Rattle.search_tree.proofs.counts.options_are_counted.Goals as goal

pub returns-clause-none : goal.returns-clause-none
returns-clause-none c = λ g n x e. count_of_none (base_makers g n x) (free_makers g n x) e

pub returns-clause-some : goal.returns-clause-some
returns-clause-some c = λ g n x e. count_of_some (base_makers g n x) (free_makers g n x) e

pub returns-clause-shares : goal.returns-clause-shares
returns-clause-shares c = shares_are_small
