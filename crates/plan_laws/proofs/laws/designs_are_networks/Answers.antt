use Rattle.plan_laws.proofs.DesignLaws.{designs_are_networks}
use Rattle.plan_laws.proofs.laws.designs_are_networks.Goals as goal

pub returns : goal.returns
returns c = designs_are_networks c.expanded_is_valid.ensures
