use Rattle.flow_rules.proofs.DualityLemmas.{relaxed_duality}
use Rattle.flow_rules.proofs.relaxed_duality.Goals as goal

pub returns : goal.returns
returns c = relaxed_duality
