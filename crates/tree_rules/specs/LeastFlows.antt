-- What can be said of the flows of a solution structure. It has flows of least cost, with
-- multipliers whose bound is that cost. Or it has none, and multipliers refute them.
use Rattle.std.specs.Prelude.{◌≡◌, ℕ, ◌&&◌, not, nat_lt, ℤ, pos, ◌*ℤ◌, ◌≤ℤ◌, List, length}
use Rattle.flow_rules.specs.number_sets.Sets.{has}
use Rattle.flow_rules.specs.problem_rules.Problem.{Problem}
use Rattle.flow_rules.specs.pns_rules.Nodes.{Node}
use Rattle.flow_rules.specs.Net.{net_of, beside}
use Rattle.flow_rules.specs.Flows.{IsFlows, cost}
use Rattle.flow_rules.specs.Relaxed.{rows, bound, Refutes}
use Rattle.tree_rules.specs.Claim.{Network, size_in}

-- the node at which these units are taken in and all others left out
abbrev pub decided : Problem → List ℕ → Node
decided p us =
    record { inside = has us; outside = λ u. nat_lt u (length p.units) && not (has us u) }

-- its rows, the materials of the units
abbrev pub rows_of : Problem → List ℕ → List ℕ
rows_of p us = rows (net_of p) (decided p us)

-- the sizes of the network are flows for its units, and its cost is theirs
pub record HasFlows (p : Problem) (w : Network) : Type 0 where
  pub flows : IsFlows (net_of p) (has w.units) (size_in w) w.d
  pub cost_is : cost (net_of p) (has w.units) (size_in w) w.d ≡ w.cost

-- d and ys, one for each row, are multipliers whose bound over d is the cost of the network
pub record ProveCost (p : Problem) (w : Network) (d : ℤ) (ys : List ℤ) : Type 0 where
  pub positive : pos 1 ≤ℤ d
  pub one_each : length ys ≡ length (rows_of p w.units)
  pub reached : w.d *ℤ bound (net_of p) (decided p w.units) d (beside (rows_of p w.units) ys)
      ≡ d *ℤ w.cost

-- no flows for the units of the network cost less than it; compared by cross products
abbrev pub IsLeast : Problem → Network → Type 0
IsLeast p w = (z : ℕ → ℤ) (e : ℤ) → IsFlows (net_of p) (has w.units) z e
    → (w.cost *ℤ e) ≤ℤ (cost (net_of p) (has w.units) z e *ℤ w.d)

pub record IsLeastFlows (p : Problem) (w : Network) (d : ℤ) (ys : List ℤ) : Type 0 where
  pub flows : HasFlows p w
  pub proved : ProveCost p w d ys
  pub least : IsLeast p w

-- the units have no flows, as ys, one for each row, show
pub record HasNoFlows (p : Problem) (us : List ℕ) (ys : List ℤ) : Type 0 where
  pub one_each : length ys ≡ length (rows_of p us)
  pub refutes : Refutes (net_of p) (decided p us) (beside (rows_of p us) ys)
  pub none : (z : ℕ → ℤ) (e : ℤ) → IsFlows (net_of p) (has us) z e → ⊥
