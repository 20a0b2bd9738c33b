use Rattle.tree_laws.proofs.AcceptedLemmas.{accepted_is_least}
use Rattle.tree_laws.proofs.accepted.accepted_is_least.Goals as goal

pub returns : goal.returns
returns c = accepted_is_least
