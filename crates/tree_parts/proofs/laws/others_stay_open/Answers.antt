use Rattle.tree_parts.proofs.OrderLemmas.{others_stay_open}
use Rattle.tree_parts.proofs.laws.others_stay_open.Goals as goal

pub returns : goal.returns
returns c = others_stay_open
