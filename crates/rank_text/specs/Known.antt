-- Rankings whose numbers a problem knows.
use Rattle.tree_text_laws.specs.problem_rules.Each.{Each}
use Rattle.tree_text_laws.specs.problem_rules.Problem.{Problem}
use Rattle.tree_text_laws.specs.tree_rules.Known.{KnowsTree, KnowsTail}
use Rattle.rank_check.specs.rank_rules.Text.{Text}
use Rattle.rank_check.specs.Known.{KnowsNetwork}

pub record KnowsText (p : Problem) (t : Text) : Type 0 where
  pub networks : Each (KnowsNetwork p) t.networks
  pub tree : KnowsTree p t.tree
  pub tail : KnowsTail p t.tail
