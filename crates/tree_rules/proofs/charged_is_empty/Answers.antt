use Rattle.tree_rules.proofs.ChargedLemmas.{charged_is_empty}
use Rattle.tree_rules.proofs.charged_is_empty.Goals as goal

pub returns : goal.returns
returns c = charged_is_empty
