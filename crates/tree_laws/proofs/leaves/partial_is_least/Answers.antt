use Rattle.tree_laws.proofs.AcceptedLemmas.{partial_is_least}
use Rattle.tree_laws.proofs.leaves.partial_is_least.Goals as goal

pub returns : goal.returns
returns c = partial_is_least
