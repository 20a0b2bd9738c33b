use Rattle.plan_laws.proofs.DesignLaws.{no_network_is_no_design}
use Rattle.plan_laws.proofs.laws.no_network_is_no_design.Goals as goal

pub returns : goal.returns
returns c = no_network_is_no_design c.expanded_is_valid.ensures
