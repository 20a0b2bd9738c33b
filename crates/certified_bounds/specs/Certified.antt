-- The answers for a node by the second way: the least cost of its relaxed flows with a bound that
-- multipliers prove, a network of that cost, multipliers that refute the node, or nothing. Further
-- answers are two costs between which the least lies, and a cost below the least.
use Rattle.std.specs.Prelude.{◌≡◌, ℕ, ℤ, pos, ◌≤ℤ◌, ◌*ℤ◌, Bool, true, false, Some}
use Rattle.scaled_flows.specs.number_sets.Sets.{has}
use Rattle.scaled_flows.specs.problem_rules.Problem.{Problem}
use Rattle.scaled_flows.specs.pns_rules.Nodes.{Node}
use Rattle.scaled_flows.specs.exact_numbers.declared.number.Mixed.{Mixed}
use Rattle.scaled_flows.specs.exact_numbers.Number.{numerator, denominator}
use Rattle.scaled_flows.specs.flow_rules.Net.{net_of}
use Rattle.scaled_flows.specs.flow_rules.Relaxed.{IsRelaxed, relaxed_cost}
use Rattle.scaled_flows.specs.LeastCost.{IsLeastCost}
use Rattle.scaled_flows.specs.tree_rules.Claim.{Network, CostOver, IsFeasible}
use Rattle.scaled_flows.specs.tree_rules.Leaf.{IsRefuted, IsBounded}
use Rattle.scaled_flows.specs.tree_rules.Lean.{HasCheaper}
use Rattle.certified_bounds.specs.declared.certified.LeastBound.{LeastBound}
use Rattle.certified_bounds.specs.declared.certified.Between.{Between}
use Rattle.certified_bounds.specs.declared.certified.LowBound.{LowBound}
use Rattle.certified_bounds.specs.declared.certified.FirstBound.{FirstBound}
use Rattle.certified_bounds.specs.declared.certified.FirstBound.TheVariants as looks
use Rattle.certified_bounds.specs.declared.certified.Certified.{Certified}
use Rattle.certified_bounds.specs.declared.certified.Certified.TheVariants.{Least, Flows, Refuted}
use Rattle.certified_bounds.specs.declared.certified.Certified.TheVariants.{Nothing}

-- a mixed number as a cost
abbrev pub cost_over : Mixed → CostOver
cost_over m = record { cost = numerator m; d = denominator m }

-- the value is the least cost of relaxed flows of the node, and the multipliers prove that none
-- cost less than `low`, which is at most the value
pub record IsLeastBound (p : Problem) (n : Node) (b : LeastBound) : Type 0 where
  pub value : IsLeastCost p n (numerator b.value) (denominator b.value)
  pub no_more : (numerator b.low *ℤ denominator b.value) ≤ℤ (numerator b.value *ℤ denominator b.low)
  pub bounded : IsBounded p (Some (cost_over b.low)) n b.scaled.d b.scaled.ys

-- no relaxed flows of the node cost less than `low`, as the multipliers prove
pub record IsLowBound (p : Problem) (n : Node) (b : LowBound) : Type 0 where
  pub under : (z : ℕ → ℤ) (d : ℤ) → IsRelaxed (net_of p) n z d
      → (numerator b.low *ℤ d) ≤ℤ (relaxed_cost (net_of p) n z d *ℤ denominator b.low)
  pub bounded : IsBounded p (Some (cost_over b.low)) n b.scaled.d b.scaled.ys

-- A first look answers with a bound or with multipliers that refute the node; it may answer nothing
-- for each.
abbrev pub IsFirstBound : Problem → Node → FirstBound → Type 0
IsFirstBound p n (looks.AtLeast b) = IsLowBound p n b
IsFirstBound p n (looks.Refuted ys) = IsRefuted p n ys
IsFirstBound p n looks.Nothing = Unit {0}

-- the multipliers prove that no relaxed flows of the node cost less than `low`, and some cost at
-- most `reached`
pub record IsBetween (p : Problem) (n : Node) (b : Between) : Type 0 where
  pub bounded : IsBounded p (Some (cost_over b.low)) n b.scaled.d b.scaled.ys
  pub reached : HasCheaper p n (numerator b.reached) (denominator b.reached)

-- the network has flows, and its cost is the value
pub record IsNetworkAt (p : Problem) (value : Mixed) (w : Network) : Type 0 where
  pub feasible : IsFeasible p w
  pub positive : pos 1 ≤ℤ w.d
  pub costs : w.cost *ℤ denominator value ≡ numerator value *ℤ w.d

-- the units that are taken in at the node are those of the network
abbrev pub HasUnits : Node → Network → Type 0
HasUnits n w = (u : ℕ) → n.inside u ≡ has w.units u

-- Of a node at which all is decided the answer is a network, of others the least cost; it may be
-- nothing for each.
abbrev pub IsCertified : Problem → Node → Bool → Certified → Type 0
IsCertified p n decided (Least b) = (decided ≡ false) × IsLeastBound p n b
IsCertified p n decided (Flows b w) = (decided ≡ true) × IsLeastBound p n b
    × IsNetworkAt p b.value w × (b.low ≡ b.value) × HasUnits n w
IsCertified p n decided (Refuted ys) = IsRefuted p n ys
IsCertified p n decided Nothing = Unit {0}
