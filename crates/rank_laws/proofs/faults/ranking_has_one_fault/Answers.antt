use Rattle.rank_laws.proofs.FaultLemmas.{rank_leaf_rules, passing_tree, one_tree_fault}
use Rattle.rank_laws.proofs.faults.ranking_has_one_fault.Goals as goal

pub returns-clause-leaves : goal.returns-clause-leaves
returns-clause-leaves c = rank_leaf_rules

pub returns-clause-passes : goal.returns-clause-passes
returns-clause-passes c = passing_tree

pub returns-clause-one : goal.returns-clause-one
returns-clause-one c = one_tree_fault
