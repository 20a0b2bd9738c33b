use Rattle.tree_parts.proofs.OpenLemmas.{open_leaves_stand}
use Rattle.tree_parts.proofs.laws.open_leaves_stand.Goals as goal

pub returns : goal.returns
returns c = open_leaves_stand
