-- The text of what a search for networks found, for the proofs of the commands.
use Rattle.std.specs.Prelude.{◌≡◌, ◌<◌, ◌^◌, ℕ, List, length, Option, Some, None}
use Rattle.rank_text.specs.problem_rules.Problem.{Problem}
use Rattle.rank_text.specs.rank_rules.Text.{Text}
use Rattle.rank_text.specs.Known.{KnowsText}
use Rattle.searches.specs.rank_search.declared.outcome.Ranked.{Ranked}
use Rattle.searches.specs.rank_search.declared.outcome.Ranked.TheVariants.{Whole, Spent, Past}
use Rattle.searches.specs.rank_search.declared.outcome.Ranked.TheVariants.{Memory}
use Rattle.searches.specs.studio_rules.Solve.{status_of}
use Rattle.rank_commands.specs.Normal.{normal}
use Rattle.searches.specs.studio_rules.Rank.{AreTextOf}
use Rattle.searches.specs.studio_rules.declared.status.Status.{Status}

-- the ranking that is found
abbrev pub ranking_found : Ranked → Option Text
ranking_found (Whole t) = Some t
ranking_found (Spent t) = Some t
ranking_found (Past t) = Some t
ranking_found Memory = None

-- its numbers are those of the problem, and lines can have it
pub record CanPrint (p : Problem) (t : Text) : Type 0 where
  pub known : KnowsText p t
  pub few : length t.tree < 2 ^ 32

-- its lines with the status of its tail
abbrev pub RankingSays : Problem → Text → Status → List (List ℕ) → Type 0
RankingSays p t status lines = (status ≡ status_of t.tail) × AreTextOf p (normal t) lines

abbrev pub FoundSays : Problem → Ranked → Status → List (List ℕ) → Type 0
FoundSays p ranked status lines = (t : Text) × (ranking_found ranked ≡ Some t)
    × RankingSays p t status lines
