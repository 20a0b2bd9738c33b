use Rattle.tree_laws.proofs.LowerLemmas.{lower_bound_holds, lower_bound_of_all}
use Rattle.tree_laws.proofs.leaves.lower_bound_holds.Goals as goal

pub returns-clause-start : goal.returns-clause-start
returns-clause-start c = lower_bound_holds

pub returns-clause-all : goal.returns-clause-all
returns-clause-all c = lower_bound_of_all
