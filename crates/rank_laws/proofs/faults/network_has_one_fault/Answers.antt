use Rattle.rank_laws.proofs.FaultLemmas.{passing_networks, one_network_fault}
use Rattle.rank_laws.proofs.faults.network_has_one_fault.Goals as goal

pub returns-clause-passes : goal.returns-clause-passes
returns-clause-passes c = passing_networks

pub returns-clause-one : goal.returns-clause-one
returns-clause-one c = one_network_fault
