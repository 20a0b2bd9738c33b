-- The text of what a search found, for the proof of the commands that search.
use Rattle.std.specs.Prelude.{◌≡◌, ℕ, List, Option, Some, None}
use Rattle.tree_text.specs.problem_rules.Problem.{Problem}
use Rattle.tree_text.specs.tree_rules.Claim as claims
use Rattle.tree_text.specs.tree_rules.Tail as tails
use Rattle.tree_text.specs.tree_text_rules.Read.{Certificate}
use Rattle.headed_search.specs.node_evaluation.Children.{claim_with}
use Rattle.headed_search.specs.abb_search.declared.outcome.Found.{Found}
use Rattle.headed_search.specs.abb_search.declared.outcome.Found.TheVariants.{Solved, Infeasible}
use Rattle.headed_search.specs.abb_search.declared.outcome.Found.TheVariants.{Spent, Past}
use Rattle.headed_search.specs.abb_search.declared.outcome.Found.TheVariants.{Memory}
use Rattle.command_files.specs.studio_rules.Solve.{AreTextOf, status_of}
use Rattle.command_files.specs.studio_rules.declared.status.Status.{Status}

-- the claim, the tree and the tail that are found
abbrev pub certificate_of : Found → Option Certificate
certificate_of (Solved w tree) =
    Some (record { claim = claims.network w; tree = tree; tail = tails.whole })
certificate_of (Infeasible tree) =
    Some (record { claim = claims.infeasible; tree = tree; tail = tails.whole })
certificate_of (Spent best tree next options) =
    Some (record { claim = claim_with best; tree = tree; tail = tails.spent next options })
certificate_of (Past best tree node nonbasic place) =
    Some (record { claim = claim_with best; tree = tree; tail = tails.past node nonbasic place })
certificate_of Memory = None

-- these lines with the status of the tail
abbrev pub CertificateSays : Problem → Certificate → Status → List (List ℕ) → Type 0
CertificateSays p c status lines = (status ≡ status_of c.tail) × AreTextOf p c lines

abbrev pub FoundSays : Problem → Found → Status → List (List ℕ) → Type 0
FoundSays p found status lines = (c : Certificate) × (certificate_of found ≡ Some c)
    × CertificateSays p c status lines
