use Rattle.tree_laws.proofs.CappedLemmas.{capped_shape}
use Rattle.tree_laws.proofs.capped.capped_shape.Goals as goal

pub returns : goal.returns
returns c = capped_shape
