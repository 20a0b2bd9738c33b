use Rattle.tree_laws.proofs.HeadedLemmas.{accepted_by_is_least}
use Rattle.tree_laws.proofs.accepted_by_is_least.Goals as goal

pub returns : goal.returns
returns c = accepted_by_is_least
