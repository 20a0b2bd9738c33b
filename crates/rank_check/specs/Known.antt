-- Networks whose numbers a problem knows.
use Rattle.rank_laws.specs.problem_rules.Problem.{Problem}
use Rattle.rank_laws.specs.tree_rules.Known.{AreUnits}
use Rattle.rank_laws.specs.tree_rules.Claim.{Network}

abbrev pub KnowsNetwork : Problem → Network → Type 0
KnowsNetwork p w = AreUnits p w.units
