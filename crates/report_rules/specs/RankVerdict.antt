-- What the tree of a ranking proves of its networks.
use Rattle.std.specs.Prelude.{◌≡◌, ℕ, false, [], Option, None}
use Rattle.rank_rules.specs.problem_rules.Problem.{Problem}
use Rattle.rank_rules.specs.tree_rules.declared.why.Why.TheVariants.{Open}
use Rattle.rank_rules.specs.declared.why.RankWhy.{RankWhy}
use Rattle.rank_rules.specs.declared.why.RankWhy.TheVariants.{Plain}
use Rattle.rank_rules.specs.Networks.{ArePassing}
use Rattle.rank_rules.specs.Ranked.{Ranking, IsRanked, NodeIsFault}
use Rattle.report_rules.specs.declared.lower_bound.LowerBound.{LowerBound}
use Rattle.report_rules.specs.declared.rank_verdict.RankVerdict.{RankVerdict}
use Rattle.report_rules.specs.declared.rank_verdict.RankVerdict.TheVariants.{Proved, Unfinished}
use Rattle.report_rules.specs.declared.rank_verdict.RankVerdict.TheVariants.{Fails}
use Rattle.report_rules.specs.RankLow.{IsRankLow}

-- the networks pass, and the node is the first that does not, for the cause
abbrev pub StopsAt : Problem → Ranking → ℕ → RankWhy → Type 0
StopsAt p r node why = ArePassing r.distinct p [] r.networks × NodeIsFault false p r node why

-- Either the ranking is accepted. Or its networks pass, and the first node that does not is open,
-- or fails for another cause. The verdict has the lower bound if the node is open.
abbrev pub IsRankVerdict : Problem → Ranking → RankVerdict → Type 0
IsRankVerdict p r Proved = IsRanked p r
IsRankVerdict p r (Unfinished node low) = StopsAt p r node (Plain Open) × IsRankLow p r low
IsRankVerdict p r (Fails node why) = (why ≡ Plain Open → ⊥) × StopsAt p r node why

-- what no network costs less than, if it is known
abbrev pub low_of : RankVerdict → Option LowerBound
low_of Proved = None
low_of (Unfinished node low) = low
low_of (Fails node why) = None
