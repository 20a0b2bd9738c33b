-- `show FILE BUDGET`: what `solve` with this budget and then `report` of its tree would print, with
-- the status of `solve`. The bytes of FILE name the units of measure. The tree may have a head.
use Rattle.std.specs.Prelude.{◌≡◌, ◌⊎◌, ℕ, List}
use Rattle.report_rules.specs.problem_rules.Problem.{Problem}
use Rattle.report_rules.specs.tree_rules.Claim.{Claim}
use Rattle.report_rules.specs.tree_rules.Accepted.{Tree}
use Rattle.report_rules.specs.tree_rules.Head.{HeadLine}
use Rattle.report_rules.specs.tree_text_rules.Read.{Certificate, HeadedCertificate}
use Rattle.report_rules.specs.declared.verdict.Verdict.TheVariants.{Proved}
use Rattle.report_rules.specs.declared.headed_verdict.HeadedVerdict.TheVariants as headed
use Rattle.report_rules.specs.Measures.{Measures, measures_of}
use Rattle.studio_rules.specs.Solve.{Holds, Solves, SolvesBy, status_of}
use Rattle.studio_rules.specs.Report.{ReportSays, ReportSaysBy, VerdictSays, HeadedVerdictSays}
use Rattle.studio_rules.specs.declared.status.Status.{Status}
use Rattle.studio_rules.specs.declared.status.Status.TheVariants.{Done}

abbrev pub CertificateShows : Measures → Problem → Certificate → Status → List (List ℕ) → Type 0
CertificateShows ms p c status lines = (status ≡ status_of c.tail)
    × ReportSays ms p c.claim c.tree lines

-- the same of a whole tree with a head
abbrev pub HeadedShows : Measures → Problem → HeadedCertificate → Status → List (List ℕ) → Type 0
HeadedShows ms p c status lines = (status ≡ Done) × ReportSaysBy ms p c.claim c.head c.tree lines

abbrev pub PlainShowWork : ℕ → List ℕ → Problem → Status → List (List ℕ) → Type 0
PlainShowWork budget file p status lines = (c : Certificate) × Holds budget p c.claim c.tree c.tail
    × CertificateShows (measures_of file) p c status lines

abbrev pub HeadedShowWork : List ℕ → Problem → Status → List (List ℕ) → Type 0
HeadedShowWork file p status lines = (c : HeadedCertificate) × SolvesBy p c.claim c.head c.tree
    × HeadedShows (measures_of file) p c status lines

abbrev pub ShowWork : ℕ → List ℕ → Problem → Status → List (List ℕ) → Type 0
ShowWork budget file p status lines =
    PlainShowWork budget file p status lines ⊎ HeadedShowWork file p status lines

-- the lines say that the claim is proved
abbrev pub SaysProved : Measures → Problem → Claim → List (List ℕ) → Type 0
SaysProved ms p claim lines =
    ((tree : Tree) × Solves p claim tree × VerdictSays ms p claim tree Proved lines)
    ⊎ ((head : List HeadLine) × (tree : Tree) × SolvesBy p claim head tree
    × HeadedVerdictSays ms p claim headed.Proved lines)

-- with status 0 the lines say that the claim is proved, and so it is
abbrev pub ShownIsProved : Type 0
ShownIsProved =
    (budget : ℕ) (file : List ℕ) (p : Problem) (lines : List (List ℕ))
    → ShowWork budget file p Done lines
    → (claim : Claim) × SaysProved (measures_of file) p claim lines
