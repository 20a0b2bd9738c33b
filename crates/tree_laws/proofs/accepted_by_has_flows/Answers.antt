use Rattle.tree_laws.proofs.HeadedLemmas.{accepted_by_has_flows}
use Rattle.tree_laws.proofs.accepted_by_has_flows.Goals as goal

pub returns : goal.returns
returns c = accepted_by_has_flows
