use Rattle.tree_laws.proofs.AcceptedLemmas.{accepted_is_optimal}
use Rattle.tree_laws.proofs.accepted.accepted_is_optimal.Goals as goal

pub returns : goal.returns
returns c = accepted_is_optimal
