-- `report FILE TREE`: what the tree proves of its claim, in a line, with the lower bound if it is
-- not finished, and then the network of the claim in tables for people; or, if it proves that no
-- network meets the bounds, those that clash. The headings show the units of measure that FILE
-- names. With a head it has neither a lower bound nor bounds that clash.
use Rattle.std.specs.Prelude.{◌≡◌, ◌++◌, ℕ, List, [], ◌∷◌, Option, Some, None, codes, decimal}
use Rattle.report_rules.specs.problem_rules.Problem.{Problem}
use Rattle.report_rules.specs.tree_rules.declared.why.Why.{Why}
use Rattle.report_rules.specs.tree_rules.Claim.{Claim, Network, network, infeasible, unknown}
use Rattle.report_rules.specs.tree_rules.Claim.{ClaimFails}
use Rattle.report_rules.specs.tree_rules.Accepted.{Tree}
use Rattle.report_rules.specs.tree_rules.declared.line_why.LineWhy.{LineWhy}
use Rattle.report_rules.specs.tree_rules.Head.{HeadLine}
use Rattle.report_rules.specs.tree_text_rules.Read.{HeadedCertificate}
use Rattle.report_rules.specs.declared.verdict.Verdict.{Verdict}
use Rattle.report_rules.specs.declared.verdict.Verdict.TheVariants.{Proved, Unfinished, Fails}
use Rattle.report_rules.specs.declared.lower_bound.LowerBound.{LowerBound}
use Rattle.report_rules.specs.Verdict.{IsVerdict}
use Rattle.report_rules.specs.declared.headed_verdict.HeadedVerdict.{HeadedVerdict}
use Rattle.report_rules.specs.declared.headed_verdict.HeadedVerdict.TheVariants as headed
use Rattle.report_rules.specs.HeadedVerdict.{is_plain, IsHeadedVerdict}
use Rattle.report_rules.specs.Lower.{low_cell, gap_text}
use Rattle.report_rules.specs.Marginal.{Marginals, AreClaimMarginals}
use Rattle.report_rules.specs.Measures.{Measures}
use Rattle.report_rules.specs.Report.{total_cell, report_lines}
use Rattle.report_rules.specs.Clash.{clash_lines}
use Rattle.studio_rules.specs.RefusalWords.{why_word, line_word, claim_line}
use Rattle.studio_rules.specs.declared.status.Status.{Status}
use Rattle.studio_rules.specs.declared.status.Status.TheVariants.{Done, BadClaim}

-- ---- the first line

-- a claim that is accepted is that of a network, or that none has flows
abbrev pub proved_line : Problem → Claim → List ℕ
proved_line p (network w) =
    codes "PROVED: this network costs " ++ total_cell p w
    ++ codes ", and no allowed network costs less"
proved_line p infeasible = codes "PROVED: no network meets the bounds"
proved_line p unknown = codes "PROVED: no network meets the bounds"

-- the lower bound, if one is known; its gap follows if a network is claimed
abbrev pub low_words : Problem → Option LowerBound → List ℕ
low_words p None = []
low_words p (Some b) = codes ", no network costs less than " ++ low_cell p b

abbrev pub gap_behind : Network → Option LowerBound → List ℕ
gap_behind w None = []
gap_behind w (Some b) = gap_text w b

abbrev pub none_found_line : Problem → Option LowerBound → List ℕ
none_found_line p low = codes "NOT FINISHED: no network found so far" ++ low_words p low

abbrev pub unfinished_line : Problem → Claim → Option LowerBound → List ℕ
unfinished_line p (network w) low =
    codes "NOT FINISHED: best so far " ++ total_cell p w ++ low_words p low ++ gap_behind w low
unfinished_line p infeasible low = none_found_line p low
unfinished_line p unknown low = none_found_line p low

abbrev pub failing_line : ℕ → Why → List ℕ
failing_line node why = codes "NOT PROVED: node " ++ decimal node ++ 32 ∷ why_word why

abbrev pub first_line : Problem → Claim → Verdict → List ℕ
first_line p claim Proved = proved_line p claim
first_line p claim (Unfinished low) = unfinished_line p claim low
first_line p claim (Fails node why) = failing_line node why

-- ---- all

-- a network has tables; if it is proved that none meets the bounds, bounds clash
abbrev pub tables_of : Measures → Problem → Marginals → Claim → Tree → Verdict → List (List ℕ)
tables_of ms p m (network w) tree verdict = report_lines ms p w m
tables_of ms p m infeasible tree Proved = clash_lines p tree
tables_of ms p m infeasible tree (Unfinished low) = []
tables_of ms p m infeasible tree (Fails node why) = []
tables_of ms p m unknown tree verdict = []

abbrev pub verdict_lines : Measures → Problem → Marginals → Claim → Tree → Verdict → List (List ℕ)
verdict_lines ms p m claim tree verdict =
    first_line p claim verdict ∷ tables_of ms p m claim tree verdict

-- the lines say the verdict, with marginals that are right for the network of the claim
abbrev pub VerdictSays : Measures → Problem → Claim → Tree → Verdict → List (List ℕ) → Type 0
VerdictSays ms p claim tree verdict lines =
    (m : Marginals) × AreClaimMarginals p claim m
    × (lines ≡ verdict_lines ms p m claim tree verdict)

-- the lines say what the tree proves: `PROVED` exactly if `check` accepts it
abbrev pub ReportSays : Measures → Problem → Claim → Tree → List (List ℕ) → Type 0
ReportSays ms p claim tree lines =
    (verdict : Verdict) × IsVerdict p claim tree verdict
    × VerdictSays ms p claim tree verdict lines

-- ---- with a head

-- the number of the line of the head that fails, from 0, and the cause
abbrev pub failing_head_line : ℕ → LineWhy → List ℕ
failing_head_line number why = codes "NOT PROVED: head " ++ decimal number ++ 32 ∷ line_word why

abbrev pub headed_first_line : Problem → Claim → HeadedVerdict → List ℕ
headed_first_line p claim headed.Proved = proved_line p claim
headed_first_line p claim (headed.LineFails number why) = failing_head_line number why
headed_first_line p claim (headed.NodeFails node why) = failing_line node why

-- the tables of a network
abbrev pub headed_tables : Measures → Problem → Marginals → Claim → List (List ℕ)
headed_tables ms p m (network w) = report_lines ms p w m
headed_tables ms p m infeasible = []
headed_tables ms p m unknown = []

abbrev pub headed_lines : Measures → Problem → Marginals → Claim → HeadedVerdict → List (List ℕ)
headed_lines ms p m claim verdict = headed_first_line p claim verdict ∷ headed_tables ms p m claim

-- the lines say the verdict, with marginals that are right for the network of the claim
abbrev pub HeadedVerdictSays : Measures → Problem → Claim → HeadedVerdict → List (List ℕ) → Type 0
HeadedVerdictSays ms p claim verdict lines =
    (m : Marginals) × AreClaimMarginals p claim m × (lines ≡ headed_lines ms p m claim verdict)

-- the lines say what the head and the tree prove: `PROVED` exactly if `check` accepts them
abbrev pub ReportSaysBy : Measures → Problem → Claim → List HeadLine → Tree → List (List ℕ)
    → Type 0
ReportSaysBy ms p claim head tree lines =
    (verdict : HeadedVerdict) × IsHeadedVerdict p claim head tree verdict
    × HeadedVerdictSays ms p claim verdict lines

-- a head without lines changes nothing
abbrev pub HeadedReportSays : Measures → Problem → Claim → List HeadLine → Tree → List (List ℕ)
    → Type 0
HeadedReportSays ms p claim [] tree lines = ReportSays ms p claim tree lines
HeadedReportSays ms p claim (line ∷ head) tree lines =
    ReportSaysBy ms p claim (line ∷ head) tree lines

-- A claim that fails, though nothing may be claimed if there is no head, is refused for the first
-- of its lines that does.
abbrev pub ReportWork : Measures → Problem → HeadedCertificate → Status → List (List ℕ) → Type 0
ReportWork ms p text Done lines = HeadedReportSays ms p text.claim text.head text.tree lines
ReportWork ms p text BadClaim lines =
    (why : Why) × ClaimFails (is_plain text.head) p text.claim why × (lines ≡ claim_line why ∷ [])
ReportWork ms p text status lines = ⊥
