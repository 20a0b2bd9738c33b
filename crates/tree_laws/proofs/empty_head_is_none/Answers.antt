use Rattle.tree_laws.proofs.EmptyLemmas.{empty_head_proves, empty_head_fails}
use Rattle.tree_laws.proofs.empty_head_is_none.Goals as goal

pub returns-clause-proves : goal.returns-clause-proves
returns-clause-proves c = empty_head_proves

pub returns-clause-fails : goal.returns-clause-fails
returns-clause-fails c = empty_head_fails
