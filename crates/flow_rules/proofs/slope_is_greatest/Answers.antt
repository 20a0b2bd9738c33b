use Rattle.flow_rules.proofs.DualityLemmas.{slope_is_greatest}
use Rattle.flow_rules.proofs.slope_is_greatest.Goals as goal

pub returns : goal.returns
returns c = slope_is_greatest
