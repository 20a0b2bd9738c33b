-- The networks before a place of a list, from the last on.
use Rattle.std.specs.Prelude.{ℕ, zero, suc, List, [], ◌∷◌}
use Rattle.rank_laws.specs.tree_rules.Claim.{Network}

abbrev pub earlier_on : ℕ → List Network → List Network → List Network
earlier_on zero before ws = before
earlier_on (suc i) before [] = before
earlier_on (suc i) before (w ∷ ws) = earlier_on i (w ∷ before) ws

abbrev pub earlier : ℕ → List Network → List Network
earlier i ws = earlier_on i [] ws
