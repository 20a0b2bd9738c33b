use Rattle.tree_laws.proofs.AcceptedLemmas.{accepted_is_partial, partial_is_accepted}
use Rattle.tree_laws.proofs.leaves.open_leaves_decide.Goals as goal

pub returns-clause-whole : goal.returns-clause-whole
returns-clause-whole c = accepted_is_partial

pub returns-clause-closed : goal.returns-clause-closed
returns-clause-closed c = partial_is_accepted
