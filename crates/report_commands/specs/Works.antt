-- What is printed of a tree and of a ranking, in each form.
use Rattle.std.specs.Prelude.{ℕ, List}
use Rattle.rank_text.specs.text_rules.Outside.{Told}
use Rattle.rank_text.specs.problem_rules.Problem.{Problem}
use Rattle.rank_text.specs.tree_text_rules.Read.{HeadedCertificate}
use Rattle.rank_text.specs.rank_rules.Ranked.{Ranking}
use Rattle.rank_text.specs.rank_rules.Text.{Text}
use Rattle.json_text.specs.report_rules.declared.rank_verdict.RankVerdict.{RankVerdict}
use Rattle.report_commands.specs.declared.form.Form.{Form}
use Rattle.report_commands.specs.declared.form.Form.TheVariants as forms
use Rattle.report_commands.specs.declared.form.Reader.{Reader}
use Rattle.report_commands.specs.declared.form.Reader.TheVariants as readers
use Rattle.network_commands.specs.studio_rules.HeadedFile.{AnyHead}
use Rattle.network_commands.specs.studio_rules.Network.{OnNetwork}
use Rattle.network_commands.specs.studio_rules.Graph.{NetworkGraphWork}
use Rattle.network_commands.specs.studio_rules.RankGraph.{RankGraphWork}
use Rattle.network_commands.specs.studio_rules.Report.{ReportWork}
use Rattle.network_commands.specs.studio_rules.Json.{JsonWork}
use Rattle.network_commands.specs.studio_rules.RankReport.{RankReportWork, RankVerdictSays}
use Rattle.network_commands.specs.studio_rules.RankJson.{RankJsonWork, RankFactsSay}
use Rattle.network_commands.specs.studio_rules.Reading.{OnSecond}
use Rattle.network_commands.specs.studio_rules.TextFile.{EitherSays}
use Rattle.network_commands.specs.studio_rules.RangesJson.{AnySays}
use Rattle.network_commands.specs.studio_rules.declared.status.Status.{Status}

abbrev pub TreeWork : Form → Problem → HeadedCertificate → Status → List (List ℕ) → Type 0
TreeWork (forms.Report ms) = ReportWork ms.now
TreeWork forms.Json = JsonWork
TreeWork (forms.Graph scene) = AnyHead (OnNetwork (NetworkGraphWork scene))

abbrev pub RankWork : Form → Problem → Text → Status → List (List ℕ) → Type 0
RankWork (forms.Report ms) = RankReportWork ms.now
RankWork forms.Json = RankJsonWork
RankWork (forms.Graph scene) = RankGraphWork scene

-- what is printed of a ranking with its verdict, and the lines of one that has one
abbrev pub VerdictWork : Reader → Problem → Text → Status → List (List ℕ) → Type 0
VerdictWork (readers.People ms) = RankReportWork ms.now
VerdictWork readers.Programs = RankJsonWork

abbrev pub RankLines : Reader → Problem → Ranking → RankVerdict → List (List ℕ) → Type 0
RankLines (readers.People ms) = RankVerdictSays ms.now
RankLines readers.Programs = RankFactsSay

-- what is said of a file
abbrev pub FormSays : Form → List ℕ → Problem → List ℕ → Status → List (List ℕ) → Type 0
FormSays (forms.Report ms) = EitherSays (ReportWork ms.now) (RankReportWork ms.now)
FormSays forms.Json = AnySays
FormSays (forms.Graph scene) =
    EitherSays (AnyHead (OnNetwork (NetworkGraphWork scene))) (RankGraphWork scene)

abbrev pub OnForm : Form → (List ℕ → Told) → List ℕ → Problem → Status → List (List ℕ) → Type 0
OnForm form held name = OnSecond (FormSays form name) held name
