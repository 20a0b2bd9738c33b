-- What the printing of a range needs, and the text of a search that stops, for the proof of the
-- command.
use Rattle.std.specs.Prelude.{◌≡◌, ℕ, ℤ, List, [], ◌∷◌, ◌++◌, Option, Some, None, length}
use Rattle.stability.specs.number_sets.Sets.{AreBelow}
use Rattle.stability.specs.problem_rules.Problem.{Problem}
use Rattle.stability.specs.tree_rules.Claim.{Network}
use Rattle.stability.specs.abb_search.declared.outcome.Found.{Found}
use Rattle.searches.specs.Found.{FoundSays}
use Rattle.network_commands.specs.studio_rules.Printed.{spelled}
use Rattle.network_commands.specs.studio_rules.declared.status.Status.{Status}
use Rattle.network_commands.specs.studio_rules.Stable.{at_line}

-- the units of such a network are ones of the problem
abbrev pub KnowsBeyond : Problem → Option Network → Type 0
KnowsBeyond p None = Unit {0}
KnowsBeyond p (Some w) = AreBelow (length p.units) w.units

-- the line of the value, and after it the text of what was found
abbrev pub StopSays : Problem → ℤ → Found → Status → List (List ℕ) → Type 0
StopSays p value found status lines = (rest : List (List ℕ)) × FoundSays p found status rest
    × (lines ≡ spelled (at_line value ∷ []) ++ rest)
