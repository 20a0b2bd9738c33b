-- The node at which a run begins, by two words: the token of the units that are taken in, and that
-- of the units that are left out.
use Rattle.std.specs.Prelude.{◌≡◌, ◌⊎◌, ℕ, List, [], ◌∷◌, codes}
use Rattle.report_rules.specs.number_sets.Sets.{has}
use Rattle.report_rules.specs.problem_rules.Problem.{Problem}
use Rattle.report_rules.specs.pns_rules.Shape.{shape_of}
use Rattle.report_rules.specs.pns_rules.Ends.{IsSound}
use Rattle.report_rules.specs.tree_rules.Known.{AreUnits}
use Rattle.report_rules.specs.pns_rules.Tokens.{token_of}
use Rattle.studio_rules.specs.declared.status.Status.{Status}
use Rattle.studio_rules.specs.declared.status.Status.TheVariants.{BadNode}

-- both words are tokens of units of the problem, and the node is sound
pub record IsStart (p : Problem) (word other : List ℕ) (inside outside : List ℕ) : Type 0 where
  pub inside_known : AreUnits p inside
  pub outside_known : AreUnits p outside
  pub inside_named : word ≡ token_of inside
  pub outside_named : other ≡ token_of outside
  pub sound : IsSound (shape_of p) (record { inside = has inside; outside = has outside })

abbrev pub BadStart : List ℕ → List ℕ → Problem → Status → List (List ℕ) → Type 0
BadStart word other p status lines =
    (status ≡ BadNode) × ((inside outside : List ℕ) → IsStart p word other inside outside → ⊥)
    × (lines ≡ codes "bad node" ∷ [])

-- The status and lines of the work on a problem from the node of two words: those of words that
-- name none, else those of the work.
abbrev pub OnStart : (List ℕ → List ℕ → Problem → Status → List (List ℕ) → Type 0) → List ℕ → List ℕ
    → Problem → Status → List (List ℕ) → Type 0
OnStart work word other p status lines =
    BadStart word other p status lines
    ⊎ ((inside : List ℕ) × (outside : List ℕ) × IsStart p word other inside outside
    × work inside outside p status lines)
