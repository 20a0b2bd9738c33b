-- The leaves of a branch tree, which of them pass at a node, and why one fails. First the count of
-- multipliers, the claim and d are judged, then the numbers of the sum, then the comparison.
--
-- A leaf that charges its node charges with the problem's own numbers. Its rules are those of
-- `flow_rules`: what it hands in has to pass there, for the cost that is claimed here.
use Rattle.std.specs.Prelude.{◌≡◌, ℕ, ℤ, pos, ◌≤ℤ◌, Bool, true, List, length, Option}
use Rattle.std.specs.Prelude.{Some}
use Rattle.std.specs.Prelude.{None}
use Rattle.std.specs.Prelude.{IfSome}
use Rattle.flow_rules.specs.problem_rules.Problem.{Problem}
use Rattle.flow_rules.specs.pns_rules.Shape.{shape_of}
use Rattle.flow_rules.specs.pns_rules.Structure.{Clashes}
use Rattle.flow_rules.specs.pns_rules.Nodes.{Node}
use Rattle.flow_rules.specs.pns_rules.Ends.{IsDead}
use Rattle.flow_rules.specs.Net.{net_of, beside}
use Rattle.flow_rules.specs.Relaxed.{rows, bound, Refutes}
use Rattle.flow_rules.specs.Steps.{AreInRange}
use Rattle.flow_rules.specs.BoundSteps.{bound_steps}
use Rattle.flow_rules.specs.ChargeFacts.{own_facts}
use Rattle.flow_rules.specs.ChargeLeaf.{Handed, ChargePasses, ChargeFails}
use Rattle.flow_rules.specs.declared.charge_why.ChargeWhy.{ChargeWhy}
use Rattle.flow_rules.specs.declared.charge_why.ChargeWhy.TheVariants as charge_causes
use Rattle.tree_rules.specs.declared.why.Why.{Why}
use Rattle.tree_rules.specs.declared.why.Why.TheVariants as causes
use Rattle.tree_rules.specs.Fault.{Fails}
use Rattle.tree_rules.specs.Claim.{CostOver, IsAtLeast}

-- a scale d, and multipliers for a bound over it
pub record Scaled : Type 0 where
  pub d : ℤ
  pub ys : List ℤ

-- a dead material; an exclusion that clashes; multipliers that refute the node; a bound with its
-- scale d and its multipliers; what a charge of the node is made of; or a leaf that is still open,
-- with a bound if one is known
pub data Leaf : Type 0 where
  dead : ℕ → Leaf
  clash : ℕ → Leaf
  refuted : List ℤ → Leaf
  bounded : ℤ → List ℤ → Leaf
  charged : Handed → Leaf
  untried : Option Scaled → Leaf

abbrev pub IsUntried : Leaf → Type 0
IsUntried l = (low : Option Scaled) × (l ≡ untried low)

-- there is a multiplier for each row
abbrev pub IsOneEach : Problem → Node → List ℤ → Type 0
IsOneEach p n ys = length ys ≡ length (rows (net_of p) n)

-- the multiplier of each row, in rising order of rows
abbrev pub multiplier : Problem → Node → List ℤ → ℕ → ℤ
multiplier p n ys = beside (rows (net_of p) n) ys

-- all numbers that the bound's sum forms are in range
abbrev pub IsFormed : Problem → Node → ℤ → List ℤ → Type 0
IsFormed p n d ys = AreInRange (bound_steps (net_of p) n d (multiplier p n ys))

-- the bound over d is at least the claimed cost
abbrev pub Reaches : Problem → Option CostOver → Node → ℤ → List ℤ → Type 0
Reaches p claimed n d ys = IsAtLeast claimed (bound (net_of p) n d (multiplier p n ys)) d

pub record IsRefuted (p : Problem) (n : Node) (ys : List ℤ) : Type 0 where
  pub each_row : IsOneEach p n ys
  pub formed : IsFormed p n (pos 0) ys
  pub refutes : Refutes (net_of p) n (multiplier p n ys)

pub record IsBounded (p : Problem) (claimed : Option CostOver) (n : Node) (d : ℤ)
    (ys : List ℤ) : Type 0 where
  pub positive : pos 1 ≤ℤ d
  pub each_row : IsOneEach p n ys
  pub formed : IsFormed p n d ys
  pub reaches : Reaches p claimed n d ys

-- a cost is claimed
abbrev pub IsClaimed : Option CostOver → Type 0
IsClaimed None = ⊥
IsClaimed (Some claimed) = Unit {0}

-- the charge of the node is what is claimed or more; or it is above 0 if it counts no cost, and no
-- structure has flows
abbrev pub IsCharged : Problem → Option CostOver → Node → Handed → Type 0
IsCharged p claimed n h =
    ChargePasses p (IsClaimed claimed) (IsAtLeast claimed) n (own_facts (net_of p)) h

-- the bound of an open leaf is formed as that of a leaf which ends with one, and need reach nothing
pub record IsLow (p : Problem) (n : Node) (low : Scaled) : Type 0 where
  pub positive : pos 1 ≤ℤ low.d
  pub each_row : IsOneEach p n low.ys
  pub formed : IsFormed p n low.d low.ys

-- leaves may be open in a partial tree
abbrev pub LeafPasses : Bool → Problem → Option CostOver → Node → Leaf → Type 0
LeafPasses partial p claimed n (dead x) = IsDead (shape_of p) n x
LeafPasses partial p claimed n (clash k) = Clashes (shape_of p) n.inside k
LeafPasses partial p claimed n (refuted ys) = IsRefuted p n ys
LeafPasses partial p claimed n (bounded d ys) = IsBounded p claimed n d ys
LeafPasses partial p claimed n (charged h) = IsCharged p claimed n h
LeafPasses partial p claimed n (untried low) = (partial ≡ true) × IfSome low (IsLow p n)

-- ---- which fail, and why

-- the cause of a charge, as that of a node
abbrev pub why_of : ChargeWhy → Why
why_of charge_causes.Bound = causes.Bound
why_of charge_causes.Cover = causes.Cover
why_of charge_causes.Sum = causes.Sum

abbrev pub LowFails : Problem → Node → Option Scaled → Why → Type 0
LowFails p n None why = ⊥
LowFails p n (Some low) why =
    Fails ((pos 1 ≤ℤ low.d) × IsOneEach p n low.ys) causes.Bound
    (Fails (IsFormed p n low.d low.ys) causes.Sum ⊥ why) why

abbrev pub LeafFails : Bool → Problem → Option CostOver → Node → Leaf → Why → Type 0
LeafFails partial p claimed n (dead x) why =
    Fails (IsDead (shape_of p) n x) causes.Dead ⊥ why
LeafFails partial p claimed n (clash k) why =
    Fails (Clashes (shape_of p) n.inside k) causes.Clash ⊥ why
LeafFails partial p claimed n (refuted ys) why =
    Fails (IsOneEach p n ys) causes.Refuted
    (Fails (IsFormed p n (pos 0) ys) causes.Sum
    (Fails (Refutes (net_of p) n (multiplier p n ys)) causes.Refuted ⊥ why) why) why
LeafFails partial p claimed n (bounded d ys) why =
    Fails (IsClaimed claimed × (pos 1 ≤ℤ d) × IsOneEach p n ys) causes.Bound
    (Fails (IsFormed p n d ys) causes.Sum
    (Fails (Reaches p claimed n d ys) causes.Bound ⊥ why) why) why
LeafFails partial p claimed n (charged h) why =
    (cause : ChargeWhy) × (why ≡ why_of cause)
    × ChargeFails p (IsClaimed claimed) (IsAtLeast claimed) n (own_facts (net_of p)) h
    cause
LeafFails partial p claimed n (untried low) why =
    Fails (partial ≡ true) causes.Open (LowFails p n low why) why
