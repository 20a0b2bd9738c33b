use Rattle.pns_rules.proofs.StepLemmas.{steps_keep_families}
use Rattle.pns_rules.proofs.families.steps_keep_families.Goals as goal

pub returns : goal.returns
returns c = steps_keep_families
