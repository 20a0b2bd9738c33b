use Rattle.tree_laws.proofs.HeadedLemmas.{accepted_by_is_optimal}
use Rattle.tree_laws.proofs.accepted_by_is_optimal.Goals as goal

pub returns : goal.returns
returns c = accepted_by_is_optimal
