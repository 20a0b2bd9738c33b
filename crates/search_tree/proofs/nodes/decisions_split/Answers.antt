use Rattle.search_tree.proofs.NumberLemmas.{decisions_split}
use Rattle.search_tree.proofs.nodes.decisions_split.Goals as goal

pub returns-clause-options : goal.returns-clause-options
returns-clause-options c = decisions_split

pub returns-clause-units : goal.returns-clause-units
returns-clause-units c = λ g n x u needed lt makes free. ((lt, free), (x, needed, makes))
