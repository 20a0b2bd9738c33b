-- TEXT is a ranking if its first line says so. Any other file is judged as a tree.
use Rattle.std.specs.Prelude.{◌⊎◌, ℕ, Bool, true, false, List}
use Rattle.report_rules.specs.text_rules.Outside.{Told}
use Rattle.report_rules.specs.problem_rules.Problem.{Problem}
use Rattle.report_rules.specs.tree_text_rules.Read.{HeadedCertificate}
use Rattle.report_rules.specs.rank_rules.Text.{Text}
use Rattle.report_rules.specs.rank_rules.Headed.{is_ranking}
use Rattle.studio_rules.specs.Reading.{OnSecond}
use Rattle.studio_rules.specs.HeadedFile.{HeadedSays}
use Rattle.studio_rules.specs.Rankcheck.{RankFault, GivesRanking}
use Rattle.studio_rules.specs.declared.status.Status.{Status}

-- the first of two facts if the file is a ranking, and else the second
abbrev pub by_kind : Bool → Type 0 → Type 0 → Type 0
by_kind true ranked plain = ranked
by_kind false ranked plain = plain

-- The status and lines of the work on a problem and the ranking of a file: those of a file that
-- gives none, else those of the work.
abbrev pub RankSays : (Problem → Text → Status → List (List ℕ) → Type 0) → List ℕ → Problem
    → List ℕ → Status → List (List ℕ) → Type 0
RankSays work name p file status lines =
    RankFault name p file status lines
    ⊎ ((t : Text) × GivesRanking p file t × work p t status lines)

-- the same of a file that is a ranking, or a tree that may have a head, with a work for each
abbrev pub EitherSays : (Problem → HeadedCertificate → Status → List (List ℕ) → Type 0)
    → (Problem → Text → Status → List (List ℕ) → Type 0) → List ℕ → Problem → List ℕ → Status
    → List (List ℕ) → Type 0
EitherSays on_tree on_rank name p file status lines =
    by_kind (is_ranking file) (RankSays on_rank name p file status lines)
    (HeadedSays on_tree name p file status lines)

abbrev pub OnEither : (Problem → HeadedCertificate → Status → List (List ℕ) → Type 0)
    → (Problem → Text → Status → List (List ℕ) → Type 0) → (List ℕ → Told) → List ℕ → Problem
    → Status → List (List ℕ) → Type 0
OnEither on_tree on_rank held name = OnSecond (EitherSays on_tree on_rank name) held name
