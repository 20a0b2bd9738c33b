-- Values whose numbers a problem knows: each unit, material and exclusion is below the problem's
-- count, and each set of units rises. Whole numbers are in range. A charge has a million sets at
-- most, each with units and a weight that is not below 0.
use Rattle.std.specs.Prelude.{◌≡◌, ℕ, ◌<◌, ◌≤◌, pos, ◌≤ℤ◌, List, [], length, Option, Some, None}
use Rattle.std.specs.Prelude.{IfSome}
use Rattle.flow_rules.specs.number_sets.Sets.{IsSet}
use Rattle.flow_rules.specs.integer_laws.Range.{InRange, AllInRange}
use Rattle.flow_rules.specs.problem_rules.Each.{Each}
use Rattle.flow_rules.specs.problem_rules.Problem.{Problem}
use Rattle.flow_rules.specs.pns_rules.Nodes as nodes
use Rattle.flow_rules.specs.declared.place.Column.{Column}
use Rattle.flow_rules.specs.declared.place.Column.TheVariants.{X, S, T, W, Right, Scale}
use Rattle.flow_rules.specs.declared.place.Place.{Place}
use Rattle.flow_rules.specs.declared.place.Place.TheVariants as places
use Rattle.flow_rules.specs.Cover.{Cover}
use Rattle.flow_rules.specs.ChargeLeaf.{Handed}
use Rattle.tree_rules.specs.Ways as ways
use Rattle.tree_rules.specs.Tree as trees
use Rattle.tree_rules.specs.Leaf as leaves
use Rattle.tree_rules.specs.Claim as claims
use Rattle.tree_rules.specs.Accepted.{Tree}
use Rattle.tree_rules.specs.Tail as tails

abbrev pub IsUnit : Problem → ℕ → Type 0
IsUnit p u = u < length p.units

abbrev pub IsMaterial : Problem → ℕ → Type 0
IsMaterial p x = x < length p.materials

abbrev pub IsExclusion : Problem → ℕ → Type 0
IsExclusion p k = k < length p.exclusions

-- a set of units, as a rising list
abbrev pub AreUnits : Problem → List ℕ → Type 0
AreUnits p us = IsSet (length p.units) us

abbrev pub KnowsStep : Problem → nodes.Step → Type 0
KnowsStep p (nodes.raw u) = IsUnit p u
KnowsStep p (nodes.rival u) = IsUnit p u
KnowsStep p (nodes.starve x) = IsMaterial p x
KnowsStep p (nodes.loose us) = AreUnits p us
KnowsStep p (nodes.sole x u) = IsMaterial p x × IsUnit p u

pub record KnowsCover (p : Problem) (c : Cover) : Type 0 where
  pub weight : InRange c.weight
  pub not_negative : pos 0 ≤ℤ c.weight
  pub beside : IfSome c.beside (IsUnit p)
  pub units : AreUnits p c.units
  pub some : c.units ≡ [] → ⊥

pub record KnowsCharge (p : Problem) (h : Handed) : Type 0 where
  pub scale : InRange h.d
  pub multipliers : AllInRange h.ys
  pub few : length h.covers ≤ 1000000
  pub covers : Each (KnowsCover p) h.covers

abbrev pub KnowsLow : leaves.Scaled → Type 0
KnowsLow low = InRange low.d × AllInRange low.ys

abbrev pub KnowsLeaf : Problem → leaves.Leaf → Type 0
KnowsLeaf p (leaves.dead x) = IsMaterial p x
KnowsLeaf p (leaves.clash k) = IsExclusion p k
KnowsLeaf p (leaves.refuted ys) = AllInRange ys
KnowsLeaf p (leaves.bounded d ys) = InRange d × AllInRange ys
KnowsLeaf p (leaves.charged h) = KnowsCharge p h
KnowsLeaf p (leaves.untried low) = IfSome low KnowsLow

abbrev pub KnowsWay : Problem → ways.Way → Type 0
KnowsWay p (ways.at_material x c) = IsMaterial p x
KnowsWay p (ways.either u) = IsUnit p u

abbrev pub KnowsEnd : Problem → trees.End leaves.Leaf → Type 0
KnowsEnd p (trees.branch w) = KnowsWay p w
KnowsEnd p (trees.leaf l) = KnowsLeaf p l

pub record KnowsNode (p : Problem) (t : trees.TreeNode leaves.Leaf) : Type 0 where
  pub option : AreUnits p t.option
  pub steps : Each (KnowsStep p) t.steps
  pub end : KnowsEnd p t.end

abbrev pub KnowsTree : Problem → Tree → Type 0
KnowsTree p tree = Each (KnowsNode p) tree

abbrev pub KnowsClaim : Problem → claims.Claim → Type 0
KnowsClaim p (claims.network w) = AreUnits p w.units
KnowsClaim p claims.infeasible = Unit {0}
KnowsClaim p claims.unknown = Unit {0}

abbrev pub KnowsColumn : Problem → Column → Type 0
KnowsColumn p (X u) = IsUnit p u
KnowsColumn p (S u) = IsUnit p u
KnowsColumn p (T x) = IsMaterial p x
KnowsColumn p (W x) = IsMaterial p x
KnowsColumn p Right = Unit {0}
KnowsColumn p Scale = Unit {0}

-- the row of a column; none is the cost row
abbrev pub KnowsRow : Problem → Option Column → Type 0
KnowsRow p None = Unit {0}
KnowsRow p (Some column) = KnowsColumn p column

abbrev pub KnowsPlace : Problem → Place → Type 0
KnowsPlace p (places.Entry leave enter row column which) =
    KnowsColumn p leave × KnowsColumn p enter × KnowsRow p row × KnowsColumn p column
KnowsPlace p (places.Flow unit which) = IsUnit p unit
KnowsPlace p (places.Cost at) = Unit {0}
KnowsPlace p (places.FlowSum at) = Unit {0}
KnowsPlace p (places.Bound at) = Unit {0}
KnowsPlace p (places.Refute row at) = KnowsColumn p row

abbrev pub KnowsTail : Problem → tails.Tail → Type 0
KnowsTail p tails.whole = Unit {0}
KnowsTail p (tails.spent next options) = Unit {0}
KnowsTail p (tails.past node nonbasic place) = Each (KnowsColumn p) nonbasic × KnowsPlace p place
