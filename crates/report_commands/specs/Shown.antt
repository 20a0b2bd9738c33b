-- What is shown of what a search found.
use Rattle.std.specs.Prelude.{◌≡◌, ℕ, List, Some}
use Rattle.rank_text.specs.problem_rules.Problem.{Problem}
use Rattle.rank_text.specs.tree_text_rules.Read.{Certificate}
use Rattle.json_text.specs.report_rules.Measures.{Measures}
use Rattle.searches.specs.abb_search.declared.outcome.Found.{Found}
use Rattle.searches.specs.Found.{certificate_of}
use Rattle.network_commands.specs.studio_rules.Show.{CertificateShows}
use Rattle.network_commands.specs.studio_rules.declared.status.Status.{Status}

abbrev pub FoundShows : Measures → Problem → Found → Status → List (List ℕ) → Type 0
FoundShows ms p found status lines = (c : Certificate) × (certificate_of found ≡ Some c)
    × CertificateShows ms p c status lines
