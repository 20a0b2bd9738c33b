use Rattle.stability_laws.proofs.ValuedLemmas.{valued_is_same, present_is_allowed}
use Rattle.stability_laws.proofs.present_stays.Goals as goal

pub returns-clause-allowed : goal.returns-clause-allowed
returns-clause-allowed c = present_is_allowed

pub returns-clause-same : goal.returns-clause-same
returns-clause-same c = valued_is_same
