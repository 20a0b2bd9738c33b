-- The first network of a list.
use Rattle.std.specs.Prelude.{List, [], ◌∷◌}
use Rattle.text_lines.specs.problem_rules.Problem.{Problem}
use Rattle.cert_check.specs.tree_rules.Claim.{Network, IsFeasible}

-- it passes as a claim, if there is one
abbrev pub IsFirstFeasible : Problem → List Network → Type 0
IsFirstFeasible p [] = Unit {0}
IsFirstFeasible p (w ∷ ws) = IsFeasible p w
