-- What is said of a tree that may have a head: a head without lines changes nothing.
use Rattle.std.proofs.Common.{◌≡◌, true, false, ℕ, List, [], ◌∷◌}
use Rattle.verdicts.specs.problem_rules.Problem.{Problem}
use Rattle.verdicts.specs.tree_rules.Claim.{Claim}
use Rattle.verdicts.specs.tree_rules.Accepted.{Tree}
use Rattle.verdicts.specs.tree_rules.Head.{HeadLine}
use Rattle.verdicts.specs.report_rules.HeadedVerdict.{is_plain}
use Rattle.verdicts.specs.report_rules.Measures.{Measures}
use Rattle.command_files.specs.studio_rules.Report.{ReportSays, ReportSaysBy, HeadedReportSays}

pub plain_says : (ms : Measures) (p : Problem) (claim : Claim) (head : List HeadLine) (tree : Tree)
    (lines : List (List ℕ)) → is_plain head ≡ true → ReportSays ms p claim tree lines
    → HeadedReportSays ms p claim head tree lines
plain_says ms p claim [] tree lines plain says = says
plain_says ms p claim (line ∷ head) tree lines plain says = let e : false ≡ true = plain in cc

pub headed_says : (ms : Measures) (p : Problem) (claim : Claim) (head : List HeadLine)
    (tree : Tree) (lines : List (List ℕ)) → is_plain head ≡ false
    → ReportSaysBy ms p claim head tree lines → HeadedReportSays ms p claim head tree lines
headed_says ms p claim [] tree lines plain says = let e : true ≡ false = plain in cc
headed_says ms p claim (line ∷ head) tree lines plain says = says
