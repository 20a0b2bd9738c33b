use Rattle.tree_laws.proofs.HeadFaultLemmas.{leaves_have_rules_by, passing_tree_has_no_fault_by}
use Rattle.tree_laws.proofs.HeadFaultLemmas.{tree_has_one_fault_by}
use Rattle.tree_laws.proofs.tree_has_one_fault_by.Goals as goal

pub returns-clause-leaves : goal.returns-clause-leaves
returns-clause-leaves c = leaves_have_rules_by

pub returns-clause-passes : goal.returns-clause-passes
returns-clause-passes c = passing_tree_has_no_fault_by

pub returns-clause-one : goal.returns-clause-one
returns-clause-one c = tree_has_one_fault_by
