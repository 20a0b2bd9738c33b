-- Laws of the flows of a solution structure, each of which a public function of this crate has as
-- its contract. They hold for every valid problem and every solution structure of it, clash-free or
-- not.
use Rattle.std.specs.Prelude.{◌≡◌, ℕ, ◌<◌, List, ℤ, length, not}
use Rattle.dual_simplex.specs.number_sets.Sets.{has, IsSet}
use Rattle.dual_simplex.specs.problem_rules.Problem.{Problem}
use Rattle.dual_simplex.specs.problem_rules.Validity.{IsValid}
use Rattle.dual_simplex.specs.pns_rules.Shape.{shape_of}
use Rattle.dual_simplex.specs.pns_rules.Structure.{IsStructure, IsAllowed}
use Rattle.dual_simplex.specs.pns_rules.Ends.{IsSound, IsDecided}
use Rattle.dual_simplex.specs.flow_rules.Net.{net_of, beside}
use Rattle.dual_simplex.specs.flow_rules.Relaxed.{units, Refutes}
use Rattle.node_evaluation.specs.tree_rules.Claim.{Network}
use Rattle.node_evaluation.specs.tree_rules.LeastFlows.{decided, rows_of, HasFlows, ProveCost}
use Rattle.node_evaluation.specs.tree_rules.LeastFlows.{IsLeastFlows}
use Rattle.node_evaluation.specs.tree_rules.LeastFlows.{HasNoFlows}

-- flows whose cost is the bound of multipliers are least
abbrev pub ProvedIsLeast : Type 0
ProvedIsLeast =
    (p : Problem) → IsValid p → (w : Network) → IsStructure (shape_of p) (has w.units)
    → (d : ℤ) (ys : List ℤ) → HasFlows p w → ProveCost p w d ys → IsLeastFlows p w d ys

-- multipliers that refute the node leave no flows
abbrev pub RefutedHasNone : Type 0
RefutedHasNone =
    (p : Problem) → IsValid p → (us : List ℕ) → IsStructure (shape_of p) (has us)
    → (ys : List ℤ) → length ys ≡ length (rows_of p us)
    → Refutes (net_of p) (decided p us) (beside (rows_of p us) ys) → HasNoFlows p us ys

-- at the node of a set of units each unit is taken in or left out, and its program has just these
-- units
abbrev pub NodeIsDecided : Type 0
NodeIsDecided =
    (p : Problem) (us : List ℕ) → IsSet (length p.units) us
    → ((i : ℕ) → i < length p.units → (decided p us).outside i ≡ not ((decided p us).inside i))
    × (units (net_of p) (decided p us) ≡ us)

-- the node of a clash-free solution structure is sound, and all is decided there
abbrev pub AllowedIsDecided : Type 0
AllowedIsDecided =
    (p : Problem) → IsValid p → (us : List ℕ) → IsStructure (shape_of p) (has us)
    → IsAllowed (shape_of p) (has us)
    → IsSound (shape_of p) (decided p us) × IsDecided (shape_of p) (decided p us)
