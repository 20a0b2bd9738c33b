use Rattle.tree_laws.proofs.AcceptedLemmas.{leaves_cover, leaves_are_apart, leaves_are_different}
use Rattle.tree_laws.proofs.leaves.leaves_cover.Goals as goal

pub returns-clause-cover : goal.returns-clause-cover
returns-clause-cover c = leaves_cover

pub returns-clause-apart : goal.returns-clause-apart
returns-clause-apart c = leaves_are_apart

pub returns-clause-different : goal.returns-clause-different
returns-clause-different c = leaves_are_different
