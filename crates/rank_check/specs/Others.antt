-- The clash-free solution structures that are those of no listed network.
use Rattle.std.specs.Prelude.{ℕ, Bool, List}
use Rattle.rank_laws.specs.problem_rules.Problem.{Problem}
use Rattle.rank_laws.specs.pns_rules.Shape.{shape_of}
use Rattle.rank_laws.specs.pns_rules.Structure.{IsStructure, IsAllowed}
use Rattle.rank_laws.specs.tree_rules.Claim.{Network}
use Rattle.rank_laws.specs.rank_rules.Networks.{IsListed}

-- P is true of each of them
abbrev pub AllOthers : Problem → List Network → ((ℕ → Bool) → Type 0) → Type 0
AllOthers p ws P = (s : ℕ → Bool) → IsStructure (shape_of p) s → IsAllowed (shape_of p) s
    → (IsListed ws s → ⊥) → P s
