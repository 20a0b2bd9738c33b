use Rattle.plan_laws.proofs.DesignLaws.{least_network_is_least_design}
use Rattle.plan_laws.proofs.laws.least_network_is_least_design.Goals as goal

pub returns : goal.returns
returns c = least_network_is_least_design c.expanded_is_valid.ensures
