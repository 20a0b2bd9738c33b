-- Laws of ranked trees, each the contract of a public function of this crate.
use Rattle.std.specs.Prelude.{◌≡◌, ℕ, ◌<◌, ◌≤◌, ℤ, Bool, true, false, length, List, [], Option}
use Rattle.std.specs.Prelude.{Some}
use Rattle.rank_rules.specs.number_sets.Sets.{has}
use Rattle.rank_rules.specs.problem_rules.Problem.{Problem}
use Rattle.rank_rules.specs.problem_rules.Validity.{IsValid}
use Rattle.rank_rules.specs.pns_rules.Shape.{shape_of}
use Rattle.rank_rules.specs.pns_rules.Structure.{IsStructure, IsAllowed}
use Rattle.rank_rules.specs.flow_rules.Net.{net_of}
use Rattle.rank_rules.specs.flow_rules.Flows.{IsFlows}
use Rattle.rank_rules.specs.tree_rules.Claim.{Network, CostOver}
use Rattle.rank_rules.specs.tree_rules.Fault.{AreLeafRules}
use Rattle.rank_rules.specs.tree_rules.Costs.{CostsEnough}
use Rattle.rank_rules.specs.declared.why.RankWhy.{RankWhy}
use Rattle.rank_rules.specs.Networks.{cost_of, numbered, IsListed, last_cost, ArePassing}
use Rattle.rank_rules.specs.Leaf.{LeafPasses, LeafFails}
use Rattle.rank_rules.specs.Ranked.{Ranking, Proves, IsRanked, NetworkIsFault, NodeIsFault}
use Rattle.rank_rules.specs.Alternatives.{IsRight}

-- ---- what a ranked tree proves

-- any flows for the units of a listed network cost at least what it does; in a list of alternatives
-- too
abbrev pub ListedAreLeast : Type 0
ListedAreLeast =
    (p : Problem) → IsValid p → (r : Ranking) → IsRanked p r → (k : ℕ) (w : Network)
    → numbered k r.networks ≡ Some w
    → CostsEnough p (Some (cost_of w)) (has w.units)

-- if as many networks are listed as were asked for, each clash-free solution structure that is not
-- listed costs, with any flows, at least what the last network does
abbrev pub OthersCostEnough : Type 0
OthersCostEnough =
    (p : Problem) → IsValid p → (r : Ranking) → IsRanked p r → r.distinct ≡ false
    → length r.networks ≡ r.count
    → (s : ℕ → Bool) → IsStructure (shape_of p) s → IsAllowed (shape_of p) s
    → (IsListed r.networks s → ⊥)
    → CostsEnough p (last_cost r.networks) s

-- if fewer are listed, no clash-free solution structure that is not listed has flows
abbrev pub OthersHaveNone : Type 0
OthersHaveNone =
    (p : Problem) → IsValid p → (r : Ranking) → IsRanked p r → r.distinct ≡ false
    → length r.networks < r.count
    → (s : ℕ → Bool) → IsStructure (shape_of p) s → IsAllowed (shape_of p) s
    → (IsListed r.networks s → ⊥)
    → (z : ℕ → ℤ) (d : ℤ) → IsFlows (net_of p) s z d → ⊥

-- a list of alternatives is right: none of its networks is another with something idle, and what is
-- left out contains a listed network and costs no less, or costs at least what the last one does
abbrev pub AlternativesAreRight : Type 0
AlternativesAreRight =
    (p : Problem) → IsValid p → (r : Ranking) → IsRanked p r → r.distinct ≡ true
    → length r.networks ≤ r.count
    → IsRight p r.count r.networks

-- ---- faults

-- networks that pass have no first fault, and the others have one
abbrev pub PassingNetworksHaveNoFault : Type 0
PassingNetworksHaveNoFault = (p : Problem) (r : Ranking) (k : ℕ) (why : RankWhy)
    → ArePassing r.distinct p [] r.networks → NetworkIsFault p r k why → ⊥

abbrev pub NetworksHaveOneFault : Type 0
NetworksHaveOneFault = (p : Problem) (r : Ranking) (j k : ℕ) (why other : RankWhy)
    → NetworkIsFault p r j why → NetworkIsFault p r k other → (j ≡ k) × (why ≡ other)

-- no leaf of a ranked tree passes and fails, and one that fails does so for one cause
abbrev pub LeavesHaveRules : Type 0
LeavesHaveRules =
    (distinct partial : Bool) (p : Problem) (ws : List Network) (undercut : Option CostOver)
    → AreLeafRules (LeafPasses distinct partial p ws undercut)
    (LeafFails distinct partial p ws undercut)

-- a tree that passes has no first fault, and the others have one
abbrev pub PassingTreeHasNoFault : Type 0
PassingTreeHasNoFault = (partial : Bool) (p : Problem) (r : Ranking) (k : ℕ) (why : RankWhy)
    → Proves partial p r → NodeIsFault partial p r k why → ⊥

abbrev pub TreeHasOneFault : Type 0
TreeHasOneFault =
    (partial : Bool) (p : Problem) (r : Ranking) (j k : ℕ) (why other : RankWhy)
    → NodeIsFault partial p r j why → NodeIsFault partial p r k other → (j ≡ k) × (why ≡ other)
