use Rattle.tree_laws.proofs.HeadedLemmas.{accepted_by_is_partial_by, partial_by_is_accepted_by}
use Rattle.tree_laws.proofs.open_leaves_decide_by.Goals as goal

pub returns-clause-whole : goal.returns-clause-whole
returns-clause-whole c = accepted_by_is_partial_by

pub returns-clause-closed : goal.returns-clause-closed
returns-clause-closed c = partial_by_is_accepted_by
