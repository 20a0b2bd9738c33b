-- `json FILE TEXT` on a ranking, or on a list of alternatives, which is distinct: what its tree
-- proves of the networks, these, and the facts of the first, as one JSON object for programs.
use Rattle.std.specs.Prelude.{◌≡◌, ℕ, Bool, true, false, List, [], ◌∷◌, codes, decimal}
use Rattle.report_rules.specs.problem_rules.Problem.{Problem}
use Rattle.report_rules.specs.rank_rules.Ranked.{Ranking}
use Rattle.report_rules.specs.rank_rules.Text.{Text, ranking_of}
use Rattle.report_rules.specs.declared.rank_verdict.RankVerdict.{RankVerdict}
use Rattle.report_rules.specs.declared.rank_verdict.RankVerdict.TheVariants.{Proved, Unfinished}
use Rattle.report_rules.specs.declared.rank_verdict.RankVerdict.TheVariants.{Fails}
use Rattle.report_rules.specs.RankLow.{best_claim}
use Rattle.report_rules.specs.RankVerdict.{IsRankVerdict, low_of}
use Rattle.report_rules.specs.Marginal.{Marginals, AreFirstMarginals}
use Rattle.report_rules.specs.Json.{quoted, null, member}
use Rattle.report_rules.specs.Facts.{text_member, count_member}
use Rattle.report_rules.specs.JsonLower.{bound_json, gap_between}
use Rattle.report_rules.specs.JsonRanked.{networks_member, lines_behind}
use Rattle.studio_rules.specs.RankWords.{rank_why_word}
use Rattle.studio_rules.specs.RankReport.{NetworkRefusal}
use Rattle.studio_rules.specs.declared.status.Status.{Status}
use Rattle.studio_rules.specs.declared.status.Status.TheVariants.{Done, BadClaim}

abbrev pub rank_verdict_word : RankVerdict → List ℕ
rank_verdict_word Proved = codes "proved"
rank_verdict_word (Unfinished node low) = codes "not finished"
rank_verdict_word (Fails node why) = codes "not proved"

-- the node that is open or fails, counted from 0 in preorder
abbrev pub rank_node_json : RankVerdict → List ℕ
rank_node_json Proved = null
rank_node_json (Unfinished node low) = decimal node
rank_node_json (Fails node why) = decimal node

abbrev pub rank_why_json : RankVerdict → List ℕ
rank_why_json Proved = null
rank_why_json (Unfinished node low) = quoted (codes "open")
rank_why_json (Fails node why) = quoted (rank_why_word why)

abbrev pub claim_word : Bool → List ℕ
claim_word false = codes "ranking"
claim_word true = codes "alternatives"

-- with the lower bound and the gap of the first network, which only a ranking that is not finished
-- has; how many networks were asked for; and those that were found
abbrev pub rank_head : Problem → Ranking → RankVerdict → List (List ℕ)
rank_head p r verdict =
    text_member (codes "verdict") (rank_verdict_word verdict)
    ∷ member (codes "node") (rank_node_json verdict)
    ∷ member (codes "why") (rank_why_json verdict)
    ∷ text_member (codes "claim") (claim_word r.distinct)
    ∷ member (codes "low") (bound_json p (low_of verdict))
    ∷ member (codes "gap") (gap_between (best_claim r.networks) (low_of verdict))
    ∷ count_member (codes "asked") r.count ∷ networks_member p r.networks ∷ []

abbrev pub rank_json_lines : Problem → Marginals → Ranking → RankVerdict → List (List ℕ)
rank_json_lines p m r verdict = lines_behind (rank_head p r verdict) p m r.networks

-- the lines say the verdict, with marginals that are right for the first network
abbrev pub RankFactsSay : Problem → Ranking → RankVerdict → List (List ℕ) → Type 0
RankFactsSay p r verdict lines = (m : Marginals) × AreFirstMarginals p r.networks m
    × (lines ≡ rank_json_lines p m r verdict)

-- the verdict is that on the tree: `proved` exactly if `rankcheck` accepts the ranking
abbrev pub RankJsonSays : Problem → Ranking → List (List ℕ) → Type 0
RankJsonSays p r lines = (verdict : RankVerdict) × IsRankVerdict p r verdict
    × RankFactsSay p r verdict lines

abbrev pub RankJsonWork : Problem → Text → Status → List (List ℕ) → Type 0
RankJsonWork p t Done lines = RankJsonSays p (ranking_of t) lines
RankJsonWork p t BadClaim lines = NetworkRefusal p (ranking_of t) lines
RankJsonWork p t status lines = ⊥
