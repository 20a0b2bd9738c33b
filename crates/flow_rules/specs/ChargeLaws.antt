-- The laws of charges, each the contract of a public function of this crate.
use Rattle.std.specs.Prelude.{ℕ, ℤ, pos, ◌*ℤ◌, ◌≤ℤ◌, ◌<ℤ◌, Bool, List}
use Rattle.std.specs.List.{AllByRecursion}
use Rattle.pns_rules.specs.problem_rules.Problem.{Problem}
use Rattle.pns_rules.specs.problem_rules.Validity.{IsValid}
use Rattle.pns_rules.specs.Shape.{Shape, shape_of}
use Rattle.pns_rules.specs.Structure.{IsBetween}
use Rattle.pns_rules.specs.Nodes.{Node}
use Rattle.flow_rules.specs.Net.{net_of}
use Rattle.flow_rules.specs.Flows.{IsFlows, cost}
use Rattle.flow_rules.specs.ChargeFacts.{Facts, own_facts, AreFacts, Fit}
use Rattle.flow_rules.specs.Cover.{Cover, Covers}
use Rattle.flow_rules.specs.Charge.{charge}

-- each set covers the node, and no weight is below 0
abbrev pub AreCovers : Shape → Node → List Cover → Type 0
AreCovers g n covers = AllByRecursion (λ c. (pos 0 ≤ℤ c.weight) × Covers g n c) covers

-- flows that fit the facts cost no less than the node's charge, compared by cross products; they
-- are flows of a solution structure, clash-free or not, that has the units taken in and none that
-- is left out
abbrev pub ChargeDuality : Type 0
ChargeDuality =
    (p : Problem) → IsValid p → (n : Node) (s : ℕ → Bool)
    → IsBetween (shape_of p) n.inside n.outside s
    → (f : Facts) → AreFacts (net_of p) f → (z : ℕ → ℤ) (d : ℤ) → IsFlows (net_of p) s z d
    → Fit (net_of p) f s z d → (covers : List Cover) → AreCovers (shape_of p) n covers
    → (scale : ℤ) → pos 0 ≤ℤ scale → (y : ℕ → ℤ)
    → (d *ℤ charge (net_of p) n f scale y covers) ≤ℤ (scale *ℤ cost (net_of p) s z d)

-- if the charge without a cost is above 0, no such structure has flows that fit
abbrev pub ChargeRefutes : Type 0
ChargeRefutes =
    (p : Problem) → IsValid p → (n : Node) (s : ℕ → Bool)
    → IsBetween (shape_of p) n.inside n.outside s
    → (f : Facts) → AreFacts (net_of p) f → (covers : List Cover) → AreCovers (shape_of p) n covers
    → (y : ℕ → ℤ) → pos 0 <ℤ charge (net_of p) n f (pos 0) y covers
    → (z : ℕ → ℤ) (d : ℤ) → IsFlows (net_of p) s z d → Fit (net_of p) f s z d → ⊥

-- the problem's own numbers are facts, and all flows fit them
abbrev pub OwnFactsHold : Type 0
OwnFactsHold = (p : Problem) → IsValid p → AreFacts (net_of p) (own_facts (net_of p))

abbrev pub FlowsFit : Type 0
FlowsFit =
    (p : Problem) (s : ℕ → Bool) (z : ℕ → ℤ) (d : ℤ) → IsFlows (net_of p) s z d
    → Fit (net_of p) (own_facts (net_of p)) s z d
