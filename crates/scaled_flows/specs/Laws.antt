-- Laws of scaled flows. Each holds for every problem and every node, and for any divisors of the
-- problem's numbers.
use Rattle.std.specs.Prelude.{◌≡◌, ℕ, ℤ, ◌*ℤ◌}
use Rattle.tree_rules.specs.problem_rules.Problem.{Problem}
use Rattle.tree_rules.specs.pns_rules.Nodes.{Node}
use Rattle.tree_rules.specs.flow_rules.Net.{net_of}
use Rattle.tree_rules.specs.flow_rules.Relaxed.{IsRelaxed, relaxed_cost}
use Rattle.scaled_flows.specs.Divisors.{Divisors, AreDivisors}
use Rattle.scaled_flows.specs.Scaled.{value_over}
use Rattle.scaled_flows.specs.Settled.{AreSettled}
use Rattle.scaled_flows.specs.LeastCost.{IsLeastCost}

-- scaled sizes over d that are in their ranges, times the divisor of sizes, are relaxed flows of
-- the node
abbrev pub SettledAreRelaxed : Type 0
SettledAreRelaxed =
    (p : Problem) (s : Divisors) → AreDivisors (net_of p) s
    → (n : Node) (z : ℕ → ℤ) (d scale : ℤ) (y : ℕ → ℤ) → AreSettled (net_of p) s n z d scale y
    → IsRelaxed (net_of p) n (λ i. s.sizes *ℤ z i) d

-- what they cost
abbrev pub CostIsCounted : Type 0
CostIsCounted =
    (p : Problem) (s : Divisors) → AreDivisors (net_of p) s → (n : Node) (z : ℕ → ℤ) (d : ℤ)
    → relaxed_cost (net_of p) n (λ i. s.sizes *ℤ z i) d ≡ value_over (net_of p) s n z d

-- if signs show that the sizes are optimal, their cost is the least
abbrev pub SettledAreOptimal : Type 0
SettledAreOptimal =
    (p : Problem) (s : Divisors) → AreDivisors (net_of p) s
    → (n : Node) (z : ℕ → ℤ) (d scale : ℤ) (y : ℕ → ℤ) → AreSettled (net_of p) s n z d scale y
    → IsLeastCost p n (value_over (net_of p) s n z d) d
