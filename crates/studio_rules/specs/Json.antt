-- `json FILE TREE`: what the tree proves of its claim, and the facts of the network of the claim,
-- as one JSON object for programs. With a head it has neither a lower bound nor a gap.
use Rattle.std.specs.Prelude.{◌≡◌, ℕ, List, [], ◌∷◌, codes, decimal}
use Rattle.report_rules.specs.problem_rules.Problem.{Problem}
use Rattle.report_rules.specs.tree_rules.declared.why.Why.{Why}
use Rattle.report_rules.specs.tree_rules.Claim.{Claim, network, infeasible, unknown, ClaimFails}
use Rattle.report_rules.specs.tree_rules.Accepted.{Tree}
use Rattle.report_rules.specs.tree_rules.Head.{HeadLine}
use Rattle.report_rules.specs.tree_text_rules.Read.{HeadedCertificate}
use Rattle.report_rules.specs.declared.verdict.Verdict.{Verdict}
use Rattle.report_rules.specs.declared.verdict.Verdict.TheVariants.{Proved, Unfinished, Fails}
use Rattle.report_rules.specs.Verdict.{IsVerdict}
use Rattle.report_rules.specs.declared.headed_verdict.HeadedVerdict.{HeadedVerdict}
use Rattle.report_rules.specs.declared.headed_verdict.HeadedVerdict.TheVariants as headed
use Rattle.report_rules.specs.HeadedVerdict.{is_plain, IsHeadedVerdict}
use Rattle.report_rules.specs.Marginal.{Marginals, AreClaimMarginals}
use Rattle.report_rules.specs.Json.{quoted, null, member}
use Rattle.report_rules.specs.Facts.{text_member, fact_lines, bare_lines}
use Rattle.report_rules.specs.JsonLower.{low_json, gap_json}
use Rattle.studio_rules.specs.RefusalWords.{why_word, line_word, claim_line}
use Rattle.studio_rules.specs.declared.status.Status.{Status}
use Rattle.studio_rules.specs.declared.status.Status.TheVariants.{Done, BadClaim}

-- ---- the verdict and the claim

abbrev pub verdict_word : Verdict → List ℕ
verdict_word Proved = codes "proved"
verdict_word (Unfinished low) = codes "not finished"
verdict_word (Fails node why) = codes "not proved"

-- the node that fails, counted from 0 in preorder, and its cause
abbrev pub node_json : Verdict → List ℕ
node_json Proved = null
node_json (Unfinished low) = null
node_json (Fails node why) = decimal node

abbrev pub why_json : Verdict → List ℕ
why_json Proved = null
why_json (Unfinished low) = null
why_json (Fails node why) = quoted (why_word why)

abbrev pub claim_word : Claim → List ℕ
claim_word (network w) = codes "network"
claim_word infeasible = codes "infeasible"
claim_word unknown = codes "unknown"

-- last the lower bound and the gap, which only a tree that is not finished has
abbrev pub head_of : Problem → Claim → Verdict → List (List ℕ)
head_of p claim verdict =
    text_member (codes "verdict") (verdict_word verdict) ∷ member (codes "node") (node_json verdict)
    ∷ member (codes "why") (why_json verdict) ∷ text_member (codes "claim") (claim_word claim)
    ∷ member (codes "low") (low_json p verdict) ∷ member (codes "gap") (gap_json claim verdict) ∷ []

-- ---- all

-- the head, then the facts of the network if the claim has one
abbrev pub lines_behind : List (List ℕ) → Problem → Marginals → Claim → List (List ℕ)
lines_behind head p m (network w) = fact_lines head p w m
lines_behind head p m infeasible = bare_lines head
lines_behind head p m unknown = bare_lines head

abbrev pub json_lines : Problem → Marginals → Claim → Verdict → List (List ℕ)
json_lines p m claim verdict = lines_behind (head_of p claim verdict) p m claim

-- the lines say the verdict, with marginals that are right for the network of the claim
abbrev pub FactsSay : Problem → Claim → Verdict → List (List ℕ) → Type 0
FactsSay p claim verdict lines = (m : Marginals) × AreClaimMarginals p claim m
    × (lines ≡ json_lines p m claim verdict)

-- the verdict is that on the tree: `proved` exactly if `check` accepts it
abbrev pub JsonSays : Problem → Claim → Tree → List (List ℕ) → Type 0
JsonSays p claim tree lines = (verdict : Verdict) × IsVerdict p claim tree verdict
    × FactsSay p claim verdict lines

-- ---- with a head

abbrev pub headed_word : HeadedVerdict → List ℕ
headed_word headed.Proved = codes "proved"
headed_word (headed.LineFails number why) = codes "not proved"
headed_word (headed.NodeFails node why) = codes "not proved"

-- the line of the head that fails, and the node; both are counted from 0
abbrev pub headed_line_json : HeadedVerdict → List ℕ
headed_line_json headed.Proved = null
headed_line_json (headed.LineFails number why) = decimal number
headed_line_json (headed.NodeFails node why) = null

abbrev pub headed_node_json : HeadedVerdict → List ℕ
headed_node_json headed.Proved = null
headed_node_json (headed.LineFails number why) = null
headed_node_json (headed.NodeFails node why) = decimal node

abbrev pub headed_why_json : HeadedVerdict → List ℕ
headed_why_json headed.Proved = null
headed_why_json (headed.LineFails number why) = quoted (line_word why)
headed_why_json (headed.NodeFails node why) = quoted (why_word why)

-- the members of a tree without a head, with one for the line of the head
abbrev pub headed_members : Claim → HeadedVerdict → List (List ℕ)
headed_members claim verdict =
    text_member (codes "verdict") (headed_word verdict)
    ∷ member (codes "head") (headed_line_json verdict)
    ∷ member (codes "node") (headed_node_json verdict)
    ∷ member (codes "why") (headed_why_json verdict)
    ∷ text_member (codes "claim") (claim_word claim) ∷ member (codes "low") null
    ∷ member (codes "gap") null ∷ []

abbrev pub headed_json_lines : Problem → Marginals → Claim → HeadedVerdict → List (List ℕ)
headed_json_lines p m claim verdict = lines_behind (headed_members claim verdict) p m claim

-- the lines say the verdict, with marginals that are right for the network of the claim
abbrev pub HeadedFactsSay : Problem → Claim → HeadedVerdict → List (List ℕ) → Type 0
HeadedFactsSay p claim verdict lines = (m : Marginals) × AreClaimMarginals p claim m
    × (lines ≡ headed_json_lines p m claim verdict)

-- the verdict is that on the head and the tree: `proved` exactly if `check` accepts them
abbrev pub JsonSaysBy : Problem → Claim → List HeadLine → Tree → List (List ℕ) → Type 0
JsonSaysBy p claim head tree lines =
    (verdict : HeadedVerdict) × IsHeadedVerdict p claim head tree verdict
    × HeadedFactsSay p claim verdict lines

-- a head without lines changes nothing
abbrev pub HeadedJsonSays : Problem → Claim → List HeadLine → Tree → List (List ℕ) → Type 0
HeadedJsonSays p claim [] tree lines = JsonSays p claim tree lines
HeadedJsonSays p claim (line ∷ head) tree lines = JsonSaysBy p claim (line ∷ head) tree lines

-- A claim that fails, though nothing may be claimed if there is no head, is refused for the first
-- of its lines that does.
abbrev pub JsonWork : Problem → HeadedCertificate → Status → List (List ℕ) → Type 0
JsonWork p text Done lines = HeadedJsonSays p text.claim text.head text.tree lines
JsonWork p text BadClaim lines =
    (why : Why) × ClaimFails (is_plain text.head) p text.claim why × (lines ≡ claim_line why ∷ [])
JsonWork p text status lines = ⊥
