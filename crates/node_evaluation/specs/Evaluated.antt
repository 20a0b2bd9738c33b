-- The answers for a node that no step changes any more: the least cost of its relaxed flows, or two
-- costs between which it lies, with multipliers that prove a lower bound of it, a network of that
-- cost, multipliers that refute it, or the place at which a number overflows.
use Rattle.std.specs.Prelude.{◌≡◌, ℕ, pos, ◌≤ℤ◌, Bool, true, false, List, Option, Some, None}
use Rattle.structure_list.specs.number_sets.Sets.{has}
use Rattle.structure_list.specs.problem_rules.Problem.{Problem}
use Rattle.structure_list.specs.pns_rules.Nodes.{Node}
use Rattle.search_tree.specs.exact_numbers.declared.number.Mixed.{Mixed}
use Rattle.search_tree.specs.exact_numbers.Number.{numerator, denominator}
use Rattle.structure_list.specs.flow_rules.declared.place.Column.{Column}
use Rattle.structure_list.specs.flow_rules.declared.place.Place.{Place}
use Rattle.search_tree.specs.tree_rules.Claim.{Network, CostOver, IsFeasible}
use Rattle.structure_list.specs.flow_rules.ChargeLeaf.{Handed}
use Rattle.search_tree.specs.tree_rules.Leaf.{IsRefuted, IsBounded, IsCharged}
use Rattle.search_tree.specs.tree_rules.Known.{KnowsCharge}
use Rattle.search_tree.specs.tree_rules.Lean.{MayUndercut, HasCheaper}
use Rattle.search_tree.specs.Values.{IsValueOf, IsUnder}
use Rattle.search_tree.specs.tree_rules.Costs.{IsNoMore}
use Rattle.node_evaluation.specs.declared.evaluator.Interval.{Interval}
use Rattle.node_evaluation.specs.declared.evaluator.LowerBound.{LowerBound}
use Rattle.node_evaluation.specs.declared.evaluator.FirstLook.{FirstLook}
use Rattle.node_evaluation.specs.declared.evaluator.FirstLook.TheVariants as looks
use Rattle.node_evaluation.specs.declared.evaluator.Bound.{Bound}
use Rattle.node_evaluation.specs.declared.evaluator.Evaluation.{Evaluation}
use Rattle.node_evaluation.specs.declared.evaluator.Evaluation.TheVariants.{Least, Flows, Refuted}
use Rattle.node_evaluation.specs.declared.evaluator.Evaluation.TheVariants.{Stopped}
use Rattle.node_evaluation.specs.declared.evaluator.Charged.{Charged}
use Rattle.node_evaluation.specs.declared.evaluator.Proof.{Proof}
use Rattle.node_evaluation.specs.declared.evaluator.Proof.TheVariants as proofs

-- what is said of a node, the columns outside a basis, and a place at which a number overflows
abbrev pub PastPlaces : Type 1
PastPlaces = Problem → Node → List Column → Place → Type 0

-- a mixed number as a cost
abbrev pub cost_over : Mixed → CostOver
cost_over m = record { cost = numerator m; d = denominator m }

-- the cost of a network
abbrev pub cost_in : Network → CostOver
cost_in w = record { cost = w.cost; d = w.d }

-- no relaxed flows of the node cost less than the bound, which the multipliers prove
pub record IsLowerBoundOf (p : Problem) (n : Node) (b : LowerBound) : Type 0 where
  pub under : IsUnder p (cost_over b.low) n
  pub bounded : IsBounded p (Some (cost_over b.low)) n b.scaled.d b.scaled.ys

-- the answer of a first look at a node
abbrev pub IsFirstLook : Problem → Node → FirstLook → Type 0
IsFirstLook p n (looks.AtLeast b) = IsLowerBoundOf p n b
IsFirstLook p n (looks.Refuted ys) = IsRefuted p n ys
IsFirstLook p n looks.Nothing = Unit {0}

-- The value is the least cost of relaxed flows of the node. If an interval is known, no relaxed
-- flows cost less, some cost at most what the interval reaches, and a number of the node's program
-- overflows.
abbrev pub IsWorthAs : PastPlaces → Problem → Node → Mixed → Option Interval → Type 0
IsWorthAs Past p n value None = IsValueOf p n (cost_over value)
IsWorthAs Past p n value (Some r) = IsUnder p (cost_over value) n
    × HasCheaper p n (numerator r.reached) (denominator r.reached)
    × Past p n r.stop.nonbasic r.stop.place

-- the node is worth the value, and the multipliers prove that no relaxed flows cost less than
-- `low`, which is no more
pub record IsBoundOf (Past : PastPlaces) (p : Problem) (n : Node) (b : Bound) : Type 0 where
  pub value : IsWorthAs Past p n b.value b.interval
  pub no_more : IsNoMore (cost_over b.low) (cost_over b.value)
  pub bounded : IsBounded p (Some (cost_over b.low)) n b.scaled.d b.scaled.ys

-- the network has flows, and its cost is the value
pub record IsNetworkOf (p : Problem) (value : Mixed) (w : Network) : Type 0 where
  pub feasible : IsFeasible p w
  pub positive : pos 1 ≤ℤ w.d
  pub no_more : IsNoMore (cost_in w) (cost_over value)
  pub no_less : IsNoMore (cost_over value) (cost_in w)

-- the units that are taken in at the node are those of the network
abbrev pub HasUnits : Node → Network → Type 0
HasUnits n w = (u : ℕ) → n.inside u ≡ has w.units u

-- of a node at which all is decided the answer is the network, whose cost the multipliers prove, of
-- others what they are worth
abbrev pub IsEvaluated : PastPlaces → Problem → Node → Bool → Evaluation → Type 0
IsEvaluated Past p n decided (Least b) = (decided ≡ false) × IsBoundOf Past p n b
IsEvaluated Past p n decided (Flows b w) =
    (decided ≡ true) × (b.interval ≡ None) × IsBoundOf Past p n b × IsNetworkOf p b.value w
    × IsNoMore (cost_in w) (cost_over b.low) × HasUnits n w
IsEvaluated Past p n decided (Refuted ys) = IsRefuted p n ys
IsEvaluated Past p n decided (Stopped h) = Past p n h.nonbasic h.place

-- ---- a cost that no relaxed flows of a node undercut

-- the node has relaxed flows, and none that cost less
pub record IsWorth (p : Problem) (n : Node) (cost : CostOver) : Type 0 where
  pub some : MayUndercut p None n
  pub under : IsUnder p cost n

-- multipliers that prove that no relaxed flows of the node cost less, or the place at which a
-- number overflows
abbrev pub IsProof : PastPlaces → Problem → Node → CostOver → Proof → Type 0
IsProof Past p n cost (proofs.Scaled s) = IsBounded p (Some cost) n s.d s.ys
IsProof Past p n cost (proofs.Stopped h) = Past p n h.nonbasic h.place

-- ---- a charge

-- what a leaf that is charged hands in
abbrev pub handed_in : Charged → Handed
handed_in c = record { d = c.scaled.d; ys = c.scaled.ys; covers = c.covers }

-- the charge of the node is no less than the cost, and its numbers are known to the problem
pub record IsChargeOf (p : Problem) (n : Node) (cost : CostOver) (c : Charged) : Type 0 where
  pub passes : IsCharged p (Some cost) n (handed_in c)
  pub known : KnowsCharge p (handed_in c)

-- ---- a trial network

-- the network has flows; it has all units that are taken in at the node, and none that is left out
pub record IsAtHand (p : Problem) (n : Node) (w : Network) : Type 0 where
  pub feasible : IsFeasible p w
  pub positive : pos 1 ≤ℤ w.d
  pub inside : (u : ℕ) → n.inside u ≡ true → has w.units u ≡ true
  pub outside : (u : ℕ) → n.outside u ≡ true → has w.units u ≡ false
