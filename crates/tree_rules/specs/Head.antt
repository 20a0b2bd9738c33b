-- The lines at the head of a branch tree: steps, and facts that are found before the first branch.
-- Each is judged by what is known at its place.
use Rattle.std.specs.Prelude.{◌≡◌, ℕ, ◌<◌, ◌==◌, ℤ, pos, ◌*ℤ◌, ◌≤ℤ◌, ◌<ℤ◌, true, false, cond, ◌||◌}
use Rattle.std.specs.Prelude.{List, [], ◌∷◌, Option, Some, IfSome}
use Rattle.flow_rules.specs.problem_rules.Problem.{Problem}
use Rattle.flow_rules.specs.pns_rules.Shape.{shape_of}
use Rattle.flow_rules.specs.pns_rules.Structure.{mats}
use Rattle.flow_rules.specs.pns_rules.Nodes.{Node, Step, IsPossible, after}
use Rattle.flow_rules.specs.Net.{million, trillion, net_of}
use Rattle.flow_rules.specs.Relaxed.{stays}
use Rattle.flow_rules.specs.ChargeFacts.{Demand, Facts, own_facts}
use Rattle.flow_rules.specs.Cover.{Cover, IsFree}
use Rattle.tree_rules.specs.Claim.{CostOver}
use Rattle.tree_rules.specs.Charged.{IsCharged}
use Rattle.tree_rules.specs.Trim.{trimmed_size, MayTrim}

-- a step of the node; a unit with the greatest size that it may have; a unit that is left out; a
-- unit whose greatest size is lowered to what can be of use; and a material of which at most so
-- much is used
pub data HeadLine : Type 0 where
  step : Step → HeadLine
  cap : ℕ → ℤ → ℤ → List ℤ → List Cover → HeadLine
  out : ℕ → ℤ → List ℤ → List Cover → HeadLine
  trim : ℕ → HeadLine
  uses : Demand → ℤ → List ℤ → List Cover → HeadLine

-- what is known at the place of a line
pub record Known : Type 0 where
  pub node : Node
  pub facts : Facts

-- before the first line, nothing but the problem's own numbers
abbrev pub known_first : Problem → Node → Known
known_first p start = record { node = start; facts = own_facts (net_of p) }

abbrev pub with_in : Node → ℕ → Node
with_in n u = record { inside = λ v. (u == v) || n.inside v; outside = n.outside }

abbrev pub with_out : Node → ℕ → Node
with_out n u = record { inside = n.inside; outside = λ v. (u == v) || n.outside v }

abbrev pub with_least : Facts → ℕ → ℤ → Facts
with_least f u v =
    record {
      least = λ i. cond (u == i) v (f.least i);
      most = f.most;
      used = f.used;
      demand = f.demand;
    }

abbrev pub with_most : Facts → ℕ → ℤ → Facts
with_most f u v =
    record {
      least = f.least;
      most = λ i. cond (u == i) v (f.most i);
      used = f.used;
      demand = f.demand;
    }

abbrev pub with_used : Facts → ℕ → ℤ → Facts
with_used f j v =
    record {
      least = f.least;
      most = f.most;
      used = λ m. cond (j == m) (Some v) (f.used m);
      demand = f.demand;
    }

abbrev pub with_demand : Facts → Demand → Facts
with_demand f q = record { least = f.least; most = f.most; used = f.used; demand = Some q }

-- ---- what is known after a line

abbrev pub after_line : Problem → Known → HeadLine → Known
after_line p k (step s) = record { node = after (shape_of p) k.node s; facts = k.facts }
after_line p k (cap u v d ys covers) = record { node = k.node; facts = with_most k.facts u v }
after_line p k (out u d ys covers) = record { node = with_out k.node u; facts = k.facts }
after_line p k (trim u) =
    record { node = k.node; facts = with_most k.facts u (trimmed_size (net_of p) k.node k.facts u) }
after_line p k (uses q d ys covers) =
    record { node = k.node; facts = with_used k.facts q.of q.amount }

abbrev pub after_lines : Problem → Known → List HeadLine → Known
after_lines p k [] = k
after_lines p k (line ∷ lines) = after_lines p (after_line p k line) lines

-- ---- which lines pass

-- the unit may be there, v is within its sizes, and the node with the unit taken in, at a size of v
-- or more, is charged what is claimed
pub record MayCap
    (p : Problem) (claimed : Option CostOver) (k : Known) (u : ℕ) (v d : ℤ) (ys : List ℤ)
    (covers : List Cover) : Type 0 where
  pub known : u < (net_of p).graph.units
  pub not_outside : k.node.outside u ≡ false
  pub at_least : (net_of p).least u ≤ℤ v
  pub at_most : v ≤ℤ k.facts.most u
  pub charged : IsCharged p claimed (with_in k.node u) (with_least k.facts u v) d ys covers

-- the unit is free, and the node with the unit taken in is charged what is claimed
pub record MayLeave
    (p : Problem) (claimed : Option CostOver) (k : Known) (u : ℕ) (d : ℤ) (ys : List ℤ)
    (covers : List Cover) : Type 0 where
  pub free : IsFree (shape_of p) k.node u
  pub charged : IsCharged p claimed (with_in k.node u) k.facts d ys covers

-- The material is made or used by a unit that may stay, and is no raw material. The amount is from
-- 0 to 10^18, and less than what is known of its use so far. And the node is charged what is
-- claimed if as much is used.
pub record MayUse
    (p : Problem) (claimed : Option CostOver) (k : Known) (q : Demand) (d : ℤ) (ys : List ℤ)
    (covers : List Cover) : Type 0 where
  pub row : mats (shape_of p) (stays k.node) q.of ≡ true
  pub not_raw : (shape_of p).raw q.of ≡ false
  pub at_least : pos 0 ≤ℤ q.amount
  pub at_most : q.amount ≤ℤ (million *ℤ trillion)
  pub less : IfSome (k.facts.used q.of) (λ v. q.amount <ℤ v)
  pub worth : pos 0 ≤ℤ q.worth
  pub charged : IsCharged p claimed k.node (with_demand k.facts q) d ys covers

abbrev pub LinePasses : Problem → Option CostOver → Known → HeadLine → Type 0
LinePasses p claimed k (step s) = IsPossible (shape_of p) k.node s
LinePasses p claimed k (cap u v d ys covers) = MayCap p claimed k u v d ys covers
LinePasses p claimed k (out u d ys covers) = MayLeave p claimed k u d ys covers
LinePasses p claimed k (trim u) = MayTrim (net_of p) k.node k.facts u
LinePasses p claimed k (uses q d ys covers) = MayUse p claimed k q d ys covers

abbrev pub LinesPass : Problem → Option CostOver → Known → List HeadLine → Type 0
LinesPass p claimed k [] = Unit {0}
LinesPass p claimed k (line ∷ lines) =
    LinePasses p claimed k line × LinesPass p claimed (after_line p k line) lines
