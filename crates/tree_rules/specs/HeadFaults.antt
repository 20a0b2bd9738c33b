-- The first line at the head of a tree that fails, and its cause. A charge is judged last, for the
-- causes of a leaf with the same numbers and covers, in their order.
use Rattle.std.specs.Prelude.{◌≡◌, ℕ, zero, suc, ◌<◌, ℤ, pos, ◌*ℤ◌, ◌≤ℤ◌, ◌<ℤ◌, true, false, List}
use Rattle.std.specs.Prelude.{[], ◌∷◌, Option, IfSome}
use Rattle.flow_rules.specs.problem_rules.Problem.{Problem}
use Rattle.flow_rules.specs.pns_rules.Shape.{shape_of}
use Rattle.flow_rules.specs.pns_rules.Structure.{mats}
use Rattle.flow_rules.specs.pns_rules.Nodes.{Node, IsPossible}
use Rattle.flow_rules.specs.Net.{million, trillion, net_of}
use Rattle.flow_rules.specs.Relaxed.{stays}
use Rattle.flow_rules.specs.ChargeFacts.{Demand, Facts}
use Rattle.flow_rules.specs.Cover.{Cover, IsFree}
use Rattle.flow_rules.specs.ChargeLeaf as leaves
use Rattle.flow_rules.specs.ChargeLeaf.{FailsFor}
use Rattle.flow_rules.specs.declared.charge_why.ChargeWhy.{ChargeWhy}
use Rattle.flow_rules.specs.declared.charge_why.ChargeWhy.TheVariants as charge_causes
use Rattle.tree_rules.specs.Claim.{CostOver, IsAtLeast}
use Rattle.tree_rules.specs.Leaf.{IsClaimed}
use Rattle.tree_rules.specs.declared.line_why.LineWhy.{LineWhy}
use Rattle.tree_rules.specs.declared.line_why.LineWhy.TheVariants as causes
use Rattle.tree_rules.specs.Charged.{handed}
use Rattle.tree_rules.specs.Trim.{MayTrim}
use Rattle.tree_rules.specs.Head.{HeadLine, step, cap, out, trim, uses, Known, with_in, with_least}
use Rattle.tree_rules.specs.Head.{with_demand}
use Rattle.tree_rules.specs.Head.{after_line, LinePasses}

-- the cause of a leaf, as that of a line
abbrev pub line_why : ChargeWhy → LineWhy
line_why charge_causes.Bound = causes.Bound
line_why charge_causes.Cover = causes.Cover
line_why charge_causes.Sum = causes.Sum

abbrev pub ChargeFails
    : Problem → Option CostOver → Node → Facts → ℤ → List ℤ → List Cover → LineWhy → Type 0
ChargeFails p claimed n f d ys covers why =
    (cause : ChargeWhy) × (why ≡ line_why cause)
    × leaves.ChargeFails p (IsClaimed claimed) (IsAtLeast claimed) n f (handed d ys covers) cause

-- the conditions of a cap before its charge
abbrev pub IsSize : Problem → Known → ℕ → ℤ → Type 0
IsSize p k u v =
    (u < (net_of p).graph.units) × (k.node.outside u ≡ false)
    × ((net_of p).least u ≤ℤ v) × (v ≤ℤ k.facts.most u)

-- the conditions of a use before its charge
abbrev pub IsUse : Problem → Known → Demand → Type 0
IsUse p k q =
    (mats (shape_of p) (stays k.node) q.of ≡ true) × ((shape_of p).raw q.of ≡ false)
    × (pos 0 ≤ℤ q.amount) × (q.amount ≤ℤ (million *ℤ trillion))
    × IfSome (k.facts.used q.of) (λ v. q.amount <ℤ v) × (pos 0 ≤ℤ q.worth)

abbrev pub LineFails : Problem → Option CostOver → Known → HeadLine → LineWhy → Type 0
LineFails p claimed k (step s) why = FailsFor (IsPossible (shape_of p) k.node s) causes.Step ⊥ why
LineFails p claimed k (cap u v d ys covers) why =
    FailsFor (IsSize p k u v) causes.Fact
    (ChargeFails p claimed (with_in k.node u) (with_least k.facts u v) d ys covers why) why
LineFails p claimed k (out u d ys covers) why =
    FailsFor (IsFree (shape_of p) k.node u) causes.Fact
    (ChargeFails p claimed (with_in k.node u) k.facts d ys covers why) why
LineFails p claimed k (trim u) why =
    FailsFor (MayTrim (net_of p) k.node k.facts u) causes.Trim ⊥ why
LineFails p claimed k (uses q d ys covers) why =
    FailsFor (IsUse p k q) causes.Fact
    (ChargeFails p claimed k.node (with_demand k.facts q) d ys covers why) why

-- line i is the first that fails, for the cause; lines are numbered from 0
abbrev pub IsFirstToFail : Problem → Option CostOver → Known → List HeadLine → ℕ → LineWhy → Type 0
IsFirstToFail p claimed k [] i why = ⊥
IsFirstToFail p claimed k (line ∷ lines) zero why = LineFails p claimed k line why
IsFirstToFail p claimed k (line ∷ lines) (suc i) why =
    LinePasses p claimed k line × IsFirstToFail p claimed (after_line p k line) lines i why
