-- The least cost of a node's relaxed flows, as a number over another.
use Rattle.std.specs.Prelude.{ℕ, ℤ, pos, ◌*ℤ◌, ◌≤ℤ◌}
use Rattle.tree_rules.specs.problem_rules.Problem.{Problem}
use Rattle.tree_rules.specs.pns_rules.Nodes.{Node}
use Rattle.tree_rules.specs.flow_rules.Net.{net_of}
use Rattle.tree_rules.specs.flow_rules.Relaxed.{IsRelaxed, relaxed_cost}
use Rattle.tree_rules.specs.Lean.{HasCheaper}

-- no relaxed flows of the node cost less than `much` over `e`, and some cost no more
pub record IsLeastCost (p : Problem) (n : Node) (much e : ℤ) : Type 0 where
  pub positive : pos 1 ≤ℤ e
  pub under : (z : ℕ → ℤ) (d : ℤ) → IsRelaxed (net_of p) n z d
      → (much *ℤ d) ≤ℤ (relaxed_cost (net_of p) n z d *ℤ e)
  pub reached : HasCheaper p n much e
