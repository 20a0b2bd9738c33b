-- `report FILE TEXT` on a ranking, or on a list of alternatives, which is distinct: what its tree
-- proves of the networks, in a line, with the lower bound if it is not finished, then a table with
-- a row for each network, and the report of the first.
use Rattle.std.specs.Prelude.{◌≡◌, ◌++◌, ◌==◌, ℕ, Bool, true, false, List, [], ◌∷◌}
use Rattle.std.specs.Prelude.{length, codes, decimal, Option, if◌then◌else◌}
use Rattle.report_rules.specs.problem_rules.Problem.{Problem}
use Rattle.report_rules.specs.text_rules.Outside.{Told}
use Rattle.report_rules.specs.tree_rules.Claim.{Network}
use Rattle.report_rules.specs.rank_rules.declared.why.RankWhy.{RankWhy}
use Rattle.report_rules.specs.rank_rules.Ranked.{Ranking, NetworkIsFault}
use Rattle.report_rules.specs.rank_rules.Text.{Text, ranking_of}
use Rattle.report_rules.specs.declared.lower_bound.LowerBound.{LowerBound}
use Rattle.report_rules.specs.declared.rank_verdict.RankVerdict.{RankVerdict}
use Rattle.report_rules.specs.declared.rank_verdict.RankVerdict.TheVariants.{Proved, Unfinished}
use Rattle.report_rules.specs.declared.rank_verdict.RankVerdict.TheVariants.{Fails}
use Rattle.report_rules.specs.RankVerdict.{IsRankVerdict}
use Rattle.report_rules.specs.Marginal.{Marginals, AreFirstMarginals}
use Rattle.report_rules.specs.Measures.{Measures, measures_of}
use Rattle.report_rules.specs.Ranked.{ranking_lines}
use Rattle.studio_rules.specs.RankWords.{rank_why_word, network_line}
use Rattle.studio_rules.specs.Report.{ReportWork, low_words, gap_behind}
use Rattle.studio_rules.specs.TextFile.{OnEither}
use Rattle.studio_rules.specs.declared.status.Status.{Status}
use Rattle.studio_rules.specs.declared.status.Status.TheVariants.{Done, BadClaim}

-- ---- the first line

abbrev pub listed_word : Bool → List ℕ
listed_word false = codes " best networks"
listed_word true = codes " best alternatives"

-- as many networks as were asked for
unfoldable pub best_words : Bool → ℕ → List ℕ
best_words distinct found =
    if found == 1 then codes "PROVED: this is the best network"
    else codes "PROVED: these are the " ++ (decimal found ++ listed_word distinct)

-- all networks, which are fewer; or fewer alternatives
unfoldable pub all_words : ℕ → List ℕ
all_words found =
    if found == 1 then codes "PROVED: there is 1 network with flows, and no other"
    else codes "PROVED: there are " ++ (decimal found ++ codes " networks with flows, and no other")

unfoldable pub contained_words : ℕ → List ℕ
contained_words found =
    if found == 1 then
    codes "PROVED: each network with flows contains this one, and costs no less"
    else codes "PROVED: each network with flows contains one of these "
    ++ (decimal found ++ codes ", and costs no less")

abbrev pub fewer_words : Bool → ℕ → List ℕ
fewer_words false found = all_words found
fewer_words true found = contained_words found

unfoldable pub ranked_words : Bool → ℕ → ℕ → List ℕ
ranked_words distinct count found =
    if found == count then best_words distinct found
    else if found == 0 then codes "PROVED: no network meets the bounds"
    else fewer_words distinct found

-- how far the first network is above the lower bound
abbrev pub gap_of_first : List Network → Option LowerBound → List ℕ
gap_of_first [] low = []
gap_of_first (w ∷ ws) low = gap_behind w low

abbrev pub unfinished_words : Problem → List Network → ℕ → Option LowerBound → List ℕ
unfinished_words p ws node low =
    codes "NOT FINISHED: node " ++ (decimal node
    ++ (codes " is open; networks so far: "
    ++ (decimal (length ws) ++ (low_words p low ++ gap_of_first ws low))))

abbrev pub failing_words : ℕ → RankWhy → List ℕ
failing_words node why = codes "NOT PROVED: node " ++ (decimal node ++ 32 ∷ rank_why_word why)

abbrev pub rank_first_line : Problem → Ranking → RankVerdict → List ℕ
rank_first_line p r Proved = ranked_words r.distinct r.count (length r.networks)
rank_first_line p r (Unfinished node low) = unfinished_words p r.networks node low
rank_first_line p r (Fails node why) = failing_words node why

-- ---- all

abbrev pub rank_report_lines : Measures → Problem → Marginals → Ranking → RankVerdict
    → List (List ℕ)
rank_report_lines ms p m r verdict =
    rank_first_line p r verdict ∷ ranking_lines ms p m r.networks

-- the lines say the verdict, with marginals that are right for the first network
abbrev pub RankVerdictSays : Measures → Problem → Ranking → RankVerdict → List (List ℕ) → Type 0
RankVerdictSays ms p r verdict lines = (m : Marginals) × AreFirstMarginals p r.networks m
    × (lines ≡ rank_report_lines ms p m r verdict)

-- the lines say what the tree proves: `PROVED` exactly if `rankcheck` accepts the ranking
abbrev pub RankReportSays : Measures → Problem → Ranking → List (List ℕ) → Type 0
RankReportSays ms p r lines = (verdict : RankVerdict) × IsRankVerdict p r verdict
    × RankVerdictSays ms p r verdict lines

-- a ranking of which a network fails is refused for the first that does
abbrev pub NetworkRefusal : Problem → Ranking → List (List ℕ) → Type 0
NetworkRefusal p r lines = (number : ℕ) × (why : RankWhy) × NetworkIsFault p r number why
    × (lines ≡ network_line number why ∷ [])

abbrev pub RankReportWork : Measures → Problem → Text → Status → List (List ℕ) → Type 0
RankReportWork ms p t Done lines = RankReportSays ms p (ranking_of t) lines
RankReportWork ms p t BadClaim lines = NetworkRefusal p (ranking_of t) lines
RankReportWork ms p t status lines = ⊥

-- `report FILE TEXT` of a tree or a ranking, by the bytes of FILE, which name units of measure
abbrev pub ReportsOn : (List ℕ → Told) → List ℕ → List ℕ → Problem → Status → List (List ℕ)
    → Type 0
ReportsOn held name file =
    OnEither (ReportWork (measures_of file)) (RankReportWork (measures_of file)) held name
