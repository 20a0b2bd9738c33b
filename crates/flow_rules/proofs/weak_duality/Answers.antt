use Rattle.flow_rules.proofs.DualityLemmas.{weak_duality_holds}
use Rattle.flow_rules.proofs.weak_duality.Goals as goal

pub returns : goal.returns
returns c = weak_duality_holds
