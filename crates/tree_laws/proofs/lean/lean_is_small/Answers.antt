use Rattle.tree_laws.proofs.AcceptedLemmas.{lean_is_small}
use Rattle.tree_laws.proofs.lean.lean_is_small.Goals as goal

pub returns : goal.returns
returns c = lean_is_small
