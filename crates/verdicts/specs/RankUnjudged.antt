-- Why there is no verdict on a ranking. `Memory`, out of memory, says nothing of it.
use Rattle.report_rules.specs.problem_rules.Problem.{Problem}
use Rattle.report_rules.specs.rank_rules.Ranked.{Ranking, NetworkIsFault}
use Rattle.verdicts.specs.declared.rank_verdict.RankUnjudged.{RankUnjudged}
use Rattle.verdicts.specs.declared.rank_verdict.RankUnjudged.TheVariants.{Memory, Network}

-- the network is the first that fails, for the cause
abbrev pub IsRankUnjudged : Problem → Ranking → RankUnjudged → Type 0
IsRankUnjudged p r Memory = Unit {0}
IsRankUnjudged p r (Network number why) = NetworkIsFault p r number why
