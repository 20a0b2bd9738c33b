-- A leaf that charges a node, with facts that are known of the flows: when it passes, and why it is
-- refused.
--
-- The causes come in the order in which a reader of a tree meets what is judged. First come the
-- scale and the multipliers, which are in the line of the leaf, then the covers in the lines after
-- it, then the numbers of the sum, and last what the charge reaches. A scale of 1 or more counts a
-- cost, so a cost has to be claimed. If none is, the leaf fails for its scale, before its sum is
-- formed: no sum could let it pass.
use Rattle.std.specs.Prelude.{◌≡◌, ◌⊎◌, ℕ, ℤ, pos, ◌≤ℤ◌, ◌<ℤ◌, List, length}
use Rattle.std.specs.List.{AllByRecursion}
use Rattle.pns_rules.specs.problem_rules.Problem.{Problem}
use Rattle.pns_rules.specs.Shape.{Shape, shape_of}
use Rattle.pns_rules.specs.Nodes.{Node}
use Rattle.flow_rules.specs.Net.{net_of, beside}
use Rattle.flow_rules.specs.Relaxed.{rows}
use Rattle.flow_rules.specs.Steps.{AreInRange}
use Rattle.flow_rules.specs.ChargeFacts.{Facts}
use Rattle.flow_rules.specs.Cover.{Cover, IsCover, Covers}
use Rattle.flow_rules.specs.Charge.{charge}
use Rattle.flow_rules.specs.ChargeSteps.{charge_steps}
use Rattle.flow_rules.specs.declared.charge_why.ChargeWhy.{ChargeWhy}
use Rattle.flow_rules.specs.declared.charge_why.ChargeWhy.TheVariants as causes

-- what a leaf gives: the scale of the cost, a multiplier for each row in rising order, and covers
pub record Handed : Type 0 where
  pub d : ℤ
  pub ys : List ℤ
  pub covers : List Cover

-- ---- the conditions

-- the cost is not counted, or it is, and a cost is claimed
abbrev pub IsScale : Type 0 → ℤ → Type 0
IsScale IsClaimed d = (d ≡ pos 0) ⊎ ((pos 1 ≤ℤ d) × IsClaimed)

abbrev pub IsOneEach : Problem → Node → List ℤ → Type 0
IsOneEach p n ys = length ys ≡ length (rows (net_of p) n)

-- the units are a set of free ones, their weight is not below 0, and each structure of the node has
-- one of them
pub record CoverPasses (g : Shape) (n : Node) (c : Cover) : Type 0 where
  pub formed : IsCover g n c
  pub weight : pos 0 ≤ℤ c.weight
  pub covers : Covers g n c

abbrev pub CoversPass : Shape → Node → List Cover → Type 0
CoversPass g n covers = AllByRecursion (CoverPasses g n) covers

-- the multiplier of each row
abbrev pub multiplier : Problem → Node → Handed → ℕ → ℤ
multiplier p n h = beside (rows (net_of p) n) h.ys

-- all numbers that the charge forms are in range
abbrev pub IsFormed : Problem → Node → Facts → Handed → Type 0
IsFormed p n f h = AreInRange (charge_steps (net_of p) n f h.d (multiplier p n h) h.covers)

abbrev pub charge_of : Problem → Node → Facts → Handed → ℤ
charge_of p n f h = charge (net_of p) n f h.d (multiplier p n h) h.covers

-- a charge over a d of at least 1 reaches the claimed cost; one without a cost is above 0
abbrev pub ChargeReaches : (ℤ → ℤ → Type 0) → ℤ → ℤ → Type 0
ChargeReaches Reaches x d = ((pos 1 ≤ℤ d) × Reaches x d) ⊎ ((d ≡ pos 0) × (pos 0 <ℤ x))

-- ---- which leaves pass: IsClaimed says that a cost is claimed, and Reaches x d that x over d is
-- at least that cost

pub record ChargePasses
    (p : Problem) (IsClaimed : Type 0) (Reaches : ℤ → ℤ → Type 0) (n : Node) (f : Facts)
    (h : Handed) : Type 0 where
  pub scale : IsScale IsClaimed h.d
  pub each_row : IsOneEach p n h.ys
  pub covered : CoversPass (shape_of p) n h.covers
  pub formed : IsFormed p n f h
  pub reaches : ChargeReaches Reaches (charge_of p n f h) h.d

-- ---- which fail, and why

-- a condition fails for its cause, or it holds and one of those below it fails
abbrev pub FailsFor : {W : Type 0} → Type 0 → W → Type 0 → W → Type 0
FailsFor Condition cause Below why = ((why ≡ cause) × ¬ Condition) ⊎ (Condition × Below)

abbrev pub ChargeFails
    : Problem → Type 0 → (ℤ → ℤ → Type 0) → Node → Facts → Handed → ChargeWhy → Type 0
ChargeFails p IsClaimed Reaches n f h why =
    FailsFor (IsScale IsClaimed h.d × IsOneEach p n h.ys) causes.Bound
    (FailsFor (CoversPass (shape_of p) n h.covers) causes.Cover
    (FailsFor (IsFormed p n f h) causes.Sum
    (FailsFor (ChargeReaches Reaches (charge_of p n f h) h.d) causes.Bound ⊥ why) why) why) why
