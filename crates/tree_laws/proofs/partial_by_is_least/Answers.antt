use Rattle.tree_laws.proofs.HeadedLemmas.{partial_by_is_least, partial_by_is_least_of_all}
use Rattle.tree_laws.proofs.partial_by_is_least.Goals as goal

pub returns-clause-start : goal.returns-clause-start
returns-clause-start c = partial_by_is_least

pub returns-clause-all : goal.returns-clause-all
returns-clause-all c = partial_by_is_least_of_all
