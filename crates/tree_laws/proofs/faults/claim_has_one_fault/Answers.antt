use Rattle.tree_laws.proofs.FaultLemmas.{claim_passes, claim_one}
use Rattle.tree_laws.proofs.faults.claim_has_one_fault.Goals as goal

pub returns-clause-passes : goal.returns-clause-passes
returns-clause-passes c = claim_passes

pub returns-clause-one : goal.returns-clause-one
returns-clause-one c = claim_one
