-- A charge of a node as it is judged: covers that are fit, and what they reach.
use Rattle.std.specs.Prelude.{◌≡◌, ℤ, pos, ◌≤ℤ◌, ◌≤◌, List, length, Some}
use Rattle.dual_simplex.specs.problem_rules.Each.{Each}
use Rattle.dual_simplex.specs.problem_rules.Problem.{Problem}
use Rattle.dual_simplex.specs.pns_rules.Shape.{shape_of}
use Rattle.dual_simplex.specs.pns_rules.Nodes.{Node}
use Rattle.dual_simplex.specs.flow_rules.Net.{net_of}
use Rattle.dual_simplex.specs.flow_rules.ChargeFacts.{own_facts}
use Rattle.dual_simplex.specs.flow_rules.Cover.{Cover}
use Rattle.dual_simplex.specs.flow_rules.ChargeLeaf as charges
use Rattle.dual_simplex.specs.flow_rules.ChargeLeaf.{Handed, CoverPasses}
use Rattle.dual_simplex.specs.pgraph.Kept.{IsKept}
use Rattle.node_evaluation.specs.tree_rules.Claim.{CostOver, IsAtLeast}
use Rattle.node_evaluation.specs.tree_rules.Leaf.{Scaled, IsOneEach}
use Rattle.node_evaluation.specs.tree_rules.Known.{KnowsCover}

-- each structure of the node has a unit of the set, and its numbers are in range
pub record IsFit (p : Problem) (n : Node) (c : Cover) : Type 0 where
  pub passes : CoverPasses (shape_of p) n c
  pub kept : IsKept c
  pub known : KnowsCover p c

abbrev pub AreFit : Problem → Node → List Cover → Type 0
AreFit p n cs = Each (IsFit p n) cs

abbrev pub handed : ℤ → List ℤ → List Cover → Handed
handed d ys cs = record { d = d; ys = ys; covers = cs }

-- the charge of the node with the problem's own numbers, of which each is in range
pub record IsOwnCharge (p : Problem) (n : Node) (d : ℤ) (ys : List ℤ) (cs : List Cover)
    (x : ℤ) : Type 0 where
  pub value : x ≡ charges.charge_of p n (own_facts (net_of p)) (handed d ys cs)
  pub formed : charges.IsFormed p n (own_facts (net_of p)) (handed d ys cs)

-- the charge with these covers, a million at most, is no less than the cost
pub record ReachesWith (p : Problem) (n : Node) (cost : CostOver) (s : Scaled)
    (cs : List Cover) : Type 0 where
  pub few : length cs ≤ 1000000
  pub scale : pos 1 ≤ℤ s.d
  pub each_row : IsOneEach p n s.ys
  pub formed : charges.IsFormed p n (own_facts (net_of p)) (handed s.d s.ys cs)
  pub reached : IsAtLeast (Some cost)
      (charges.charge_of p n (own_facts (net_of p)) (handed s.d s.ys cs)) s.d
