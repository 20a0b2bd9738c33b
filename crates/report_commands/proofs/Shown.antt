-- What is shown of a certificate.
use Rattle.std.proofs.Common.{◌≡◌, ℕ, List, inl, inr}
use Rattle.rank_text.specs.problem_rules.Problem.{Problem}
use Rattle.rank_text.specs.problem_rules.Validity.{IsValid}
use Rattle.rank_text.specs.tree_rules.Claim.{Claim}
use Rattle.rank_text.specs.tree_rules.Accepted.{Tree, first_node}
use Rattle.rank_text.specs.tree_rules.Tail.{Tail, whole, spent, past}
use Rattle.rank_text.specs.tree_laws.Laws.{AcceptedIsOptimal}
use Rattle.rank_text.specs.tree_rules.Head.{HeadLine}
use Rattle.rank_text.specs.tree_text_rules.Read.{HeadedCertificate}
use Rattle.json_text.specs.report_rules.declared.verdict.Verdict.{Verdict}
use Rattle.json_text.specs.report_rules.declared.verdict.Verdict.TheVariants.{Proved, Unfinished}
use Rattle.json_text.specs.report_rules.declared.verdict.Verdict.TheVariants.{Fails}
use Rattle.json_text.specs.report_rules.declared.headed_verdict.HeadedVerdict.{HeadedVerdict}
use Rattle.json_text.specs.report_rules.declared.headed_verdict.HeadedVerdict.TheVariants as headed
use Rattle.json_text.specs.report_rules.Measures.{Measures, measures_of}
use Rattle.json_text.specs.report_rules.Verdict.{IsVerdict}
use Rattle.json_text.specs.report_rules.HeadedVerdict.{IsHeadedVerdict}
use Rattle.searches.specs.abb_search.declared.outcome.Found.{Found}
use Rattle.searches.specs.abb_search.Found.{IsFound}
use Rattle.network_commands.specs.studio_rules.Lines.{text_of}
use Rattle.network_commands.specs.studio_rules.Ending.{Tells, IsUnfinished}
use Rattle.network_commands.specs.studio_rules.Solve.{Holds, Solves, SolvesBy, status_of}
use Rattle.network_commands.specs.studio_rules.Report.{VerdictSays, HeadedVerdictSays}
use Rattle.network_commands.specs.studio_rules.Show.{HeadedShows, PlainShowWork, HeadedShowWork}
use Rattle.network_commands.specs.studio_rules.Show.{ShowWork}
use Rattle.network_commands.specs.studio_rules.Show.{SaysProved, ShownIsProved}
use Rattle.network_commands.specs.studio_rules.declared.status.Status.{Status}
use Rattle.network_commands.specs.studio_rules.declared.status.Status.TheVariants.{Done, Past}
use Rattle.network_commands.specs.studio_rules.declared.status.Status.TheVariants.{Spent}
use Rattle.network_commands.proofs.command_files.Cited.{GoesOut, IsText}
use Rattle.searches.proofs.Cited.{holds}
use Rattle.report_commands.specs.Shown.{FoundShows}

pub unfinished_goes : (status : Status) → IsUnfinished status → GoesOut status
unfinished_goes Past is = tt
unfinished_goes Spent is = tt
unfinished_goes status is = absurd is

pub unfinished_text : (status : Status) → IsUnfinished status → IsText status
unfinished_text Past is = tt
unfinished_text Spent is = tt
unfinished_text status is = absurd is

-- an answer with the status of a tail
pub tells_of : (answers : Status → List (List ℕ) → Type 0) (tail : Tail) (lines : List (List ℕ))
    (text : List ℕ) → answers (status_of tail) lines → text ≡ text_of lines
    → Tells answers (status_of tail) text
tells_of answers whole lines text h e = (lines, h, e)
tells_of answers (spent next options) lines text h e = (lines, h, e)
tells_of answers (past node nonbasic place) lines text h e = (lines, h, e)

-- ---- what a search found is shown

pub found_shows : AcceptedIsOptimal → (file : List ℕ) (p : Problem) → IsValid p → (budget : ℕ)
    (f : Found) → IsFound p first_node budget f → (s : Status) (lines : List (List ℕ))
    → FoundShows (measures_of file) p f s lines → ShowWork budget file p s lines
found_shows optimal file p valid budget f h s lines said =
    inl (said.0, holds optimal p valid budget f h said.0 said.1, said.2)

pub headed_shows : (budget : ℕ) (file : List ℕ) (p : Problem) (c : HeadedCertificate)
    → SolvesBy p c.claim c.head c.tree → (s : Status) (lines : List (List ℕ))
    → HeadedShows (measures_of file) p c s lines → ShowWork budget file p s lines
headed_shows budget file p c solves s lines said = inr (c, solves, said)

-- ---- if the claim is proved, the lines say so

proved_lines : (ms : Measures) (p : Problem) (claim : Claim) (tree : Tree) (v : Verdict)
    (lines : List (List ℕ))
    → Solves p claim tree → IsVerdict p claim tree v → VerdictSays ms p claim tree v lines
    → VerdictSays ms p claim tree Proved lines
proved_lines ms p claim tree Proved lines solves is e = e
proved_lines ms p claim tree (Unfinished low) lines solves is e =
    absurd (is.0 solves.proved.accepted)
proved_lines ms p claim tree (Fails node why) lines solves is e =
    absurd (is.0 solves.proved.accepted)

proved_lines_by : (ms : Measures) (p : Problem) (claim : Claim) (head : List HeadLine)
    (tree : Tree) (v : HeadedVerdict) (lines : List (List ℕ))
    → SolvesBy p claim head tree → IsHeadedVerdict p claim head tree v
    → HeadedVerdictSays ms p claim v lines → HeadedVerdictSays ms p claim headed.Proved lines
proved_lines_by ms p claim head tree headed.Proved lines solves is e = e
proved_lines_by ms p claim head tree (headed.LineFails line why) lines solves is e =
    absurd (is.0 solves.proved.accepted)
proved_lines_by ms p claim head tree (headed.NodeFails node why) lines solves is e =
    absurd (is.0 solves.proved.accepted)

plain_is_proved : (budget : ℕ) (file : List ℕ) (p : Problem) (lines : List (List ℕ))
    → PlainShowWork budget file p Done lines
    → (claim : Claim) × SaysProved (measures_of file) p claim lines
plain_is_proved budget file p lines (c, held, said) = at c.tail said.0 held
  where
    at : (tail : Tail) → Done ≡ status_of tail → Holds budget p c.claim c.tree tail
        → (claim : Claim) × SaysProved (measures_of file) p claim lines
    at whole e solves = (
      c.claim,
      inl (
        c.tree,
        solves,
        proved_lines (measures_of file) p c.claim c.tree said.1.0 lines solves said.1.1 said.1.2,
      ),
    )
    at (spent next options) e spent_so = absurd cc
    at (past node nonbasic place) e past_so = absurd cc

headed_is_proved : (file : List ℕ) (p : Problem) (lines : List (List ℕ))
    → HeadedShowWork file p Done lines
    → (claim : Claim) × SaysProved (measures_of file) p claim lines
headed_is_proved file p lines (c, solves, said) = (
  c.claim,
  inr (
    c.head,
    c.tree,
    solves,
    proved_lines_by (measures_of file) p c.claim c.head c.tree said.1.0 lines solves said.1.1
        said.1.2,
  ),
)

pub shown_is_proved : ShownIsProved
shown_is_proved budget file p lines (inl work) = plain_is_proved budget file p lines work
shown_is_proved budget file p lines (inr work) = headed_is_proved file p lines work
