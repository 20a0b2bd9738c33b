use Rattle.tree_rules.proofs.FaultLemmas.{passing_has_no_fault, fault_is_one, charged_has_no_fault}
use Rattle.tree_rules.proofs.FaultLemmas.{charge_fault_is_one}
use Rattle.tree_rules.proofs.one_fault.Goals as goal

pub returns-clause-passing : goal.returns-clause-passing
returns-clause-passing c = passing_has_no_fault

pub returns-clause-one : goal.returns-clause-one
returns-clause-one c = fault_is_one

pub returns-clause-charged : goal.returns-clause-charged
returns-clause-charged c = charged_has_no_fault

pub returns-clause-charge_one : goal.returns-clause-charge_one
returns-clause-charge_one c = charge_fault_is_one
