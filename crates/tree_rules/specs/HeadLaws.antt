-- The laws of the lines at the head of a tree, each the contract of a public function of this
-- crate. A claimed cost is over a number of at least 1.
use Rattle.std.specs.Prelude.{◌≡◌, ℕ, ℤ, pos, ◌≤ℤ◌, Bool, List, Option, IfSome}
use Rattle.flow_rules.specs.problem_rules.Problem.{Problem}
use Rattle.flow_rules.specs.problem_rules.Validity.{IsValid}
use Rattle.flow_rules.specs.pns_rules.Shape.{shape_of}
use Rattle.flow_rules.specs.pns_rules.Structure.{IsBetween}
use Rattle.flow_rules.specs.pns_rules.Nodes.{Node}
use Rattle.flow_rules.specs.Net.{net_of}
use Rattle.flow_rules.specs.ChargeFacts.{Facts, AreFacts, Fit}
use Rattle.flow_rules.specs.Cover.{Cover}
use Rattle.tree_rules.specs.Claim.{CostOver}
use Rattle.tree_rules.specs.Costs.{HasFallen}
use Rattle.tree_rules.specs.Charged.{IsCharged}
use Rattle.tree_rules.specs.Head.{HeadLine, Known, known_first, after_lines, LinesPass}
use Rattle.tree_rules.specs.Keeps.{Undercuts, Keeps}
use Rattle.tree_rules.specs.declared.line_why.LineWhy.{LineWhy}
use Rattle.tree_rules.specs.HeadFaults.{ChargeFails, IsFirstToFail}

abbrev pub IsCost : Option CostOver → Type 0
IsCost claimed = IfSome claimed (λ c. pos 1 ≤ℤ c.d)

-- no solution structure, clash-free or not, of a node that is charged what is claimed has flows
-- that fit and cost less
abbrev pub ChargedIsEmpty : Type 0
ChargedIsEmpty =
    (p : Problem) → IsValid p → (claimed : Option CostOver) → IsCost claimed
    → (n : Node) (f : Facts) → AreFacts (net_of p) f
    → (d : ℤ) (ys : List ℤ) (covers : List Cover) → IsCharged p claimed n f d ys covers
    → (s : ℕ → Bool) → IsBetween (shape_of p) n.inside n.outside s
    → (z : ℕ → ℤ) (e : ℤ) → Undercuts p claimed s z e → Fit (net_of p) f s z e → ⊥

-- ---- a claim that has fallen

-- what is charged for a claim is charged for one that costs no more
abbrev pub CheaperIsCharged : Type 0
CheaperIsCharged =
    (p : Problem) (claimed cheaper : Option CostOver) → IsCost claimed → IsCost cheaper
    → HasFallen claimed cheaper → (n : Node) (f : Facts) (d : ℤ) (ys : List ℤ) (covers : List Cover)
    → IsCharged p claimed n f d ys covers → IsCharged p cheaper n f d ys covers

-- and lines that pass for the claim pass for the cheaper one
abbrev pub CheaperPasses : Type 0
CheaperPasses =
    (p : Problem) (claimed cheaper : Option CostOver) → IsCost claimed → IsCost cheaper
    → HasFallen claimed cheaper → (k : Known) (lines : List HeadLine)
    → LinesPass p claimed k lines → LinesPass p cheaper k lines

-- ---- lines

-- lines that pass lose nothing that costs less than what is claimed
abbrev pub HeadKeeps : Type 0
HeadKeeps =
    (p : Problem) → IsValid p → (claimed : Option CostOver) → IsCost claimed
    → (start : Node) (lines : List HeadLine) → LinesPass p claimed (known_first p start) lines
    → Keeps p claimed start (after_lines p (known_first p start) lines)

-- what is known after them are facts
abbrev pub HeadHasFacts : Type 0
HeadHasFacts =
    (p : Problem) → IsValid p → (claimed : Option CostOver) → (start : Node) (lines : List HeadLine)
    → LinesPass p claimed (known_first p start) lines
    → AreFacts (net_of p) (after_lines p (known_first p start) lines).facts

-- and the least size of each unit is the problem's
abbrev pub HeadKeepsLeast : Type 0
HeadKeepsLeast =
    (p : Problem) (start : Node) (lines : List HeadLine) (i : ℕ)
    → (after_lines p (known_first p start) lines).facts.least i ≡ (net_of p).least i

-- ---- faults

-- if lines pass, none is the first that fails
abbrev pub PassingHasNoFault : Type 0
PassingHasNoFault =
    (p : Problem) (claimed : Option CostOver) (k : Known) (lines : List HeadLine)
    → LinesPass p claimed k lines
    → (i : ℕ) (why : LineWhy) → IsFirstToFail p claimed k lines i why → ⊥

-- at most one is, for one cause
abbrev pub FaultIsOne : Type 0
FaultIsOne =
    (p : Problem) (claimed : Option CostOver) (k : Known) (lines : List HeadLine)
    → (i j : ℕ) (why other : LineWhy) → IsFirstToFail p claimed k lines i why
    → IsFirstToFail p claimed k lines j other → (i ≡ j) × (why ≡ other)

-- a node that is charged what is claimed has no cause to fail, and one that is not has at most one
abbrev pub ChargedHasNoFault : Type 0
ChargedHasNoFault =
    (p : Problem) (claimed : Option CostOver) (n : Node) (f : Facts) (d : ℤ) (ys : List ℤ)
    (covers : List Cover) → IsCharged p claimed n f d ys covers
    → (why : LineWhy) → ChargeFails p claimed n f d ys covers why → ⊥

abbrev pub ChargeFaultIsOne : Type 0
ChargeFaultIsOne =
    (p : Problem) (claimed : Option CostOver) (n : Node) (f : Facts) (d : ℤ) (ys : List ℤ)
    (covers : List Cover) (why other : LineWhy) → ChargeFails p claimed n f d ys covers why
    → ChargeFails p claimed n f d ys covers other → why ≡ other
