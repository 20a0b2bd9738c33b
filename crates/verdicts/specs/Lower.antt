-- The lower bound of a tree, from its open leaves one after another.
use Rattle.std.specs.Prelude.{List, [], ◌∷◌, Option, Some, None}
use Rattle.std.specs.List.{slice_get}
use Rattle.report_rules.specs.problem_rules.Problem.{Problem}
use Rattle.report_rules.specs.pns_rules.Shape.{shape_of}
use Rattle.report_rules.specs.pns_rules.Nodes.{Node}
use Rattle.report_rules.specs.tree_rules.Tree.{End, TreeNode, leaf}
use Rattle.report_rules.specs.tree_rules.Leaf.{Leaf, untried, IsLow}
use Rattle.report_rules.specs.tree_rules.Accepted.{Tree}
use Rattle.report_rules.specs.tree_rules.Lower.{Low, both_low, leaf_low}
use Rattle.tree_parts.specs.cert_check.Known.{KnowsInside}
use Rattle.report_rules.specs.tree_text_rules.OpenLeaves.{OpenAt}
use Rattle.report_rules.specs.declared.lower_bound.LowerBound.{LowerBound}
use Rattle.report_rules.specs.Verdict.{cost_of}

-- what a leaf proves, if this is its bound
abbrev pub as_low : Option LowerBound → Low
as_low None = None
as_low (Some b) = Some (cost_of (Some b))

-- what an open leaf proves; nothing is said of other ends
abbrev pub low_of : Problem → Node → End Leaf → Low
low_of p n (leaf (untried low)) = leaf_low p n (untried low)
low_of p n end = None

abbrev pub low_there : Problem → Node → Option (TreeNode Leaf) → Low
low_there p n None = None
low_there p n (Some t) = low_of p n t.end

-- what the open leaf of this number proves
abbrev pub low_at : Problem → Tree → OpenAt → Low
low_at p tree o = low_there p o.node (slice_get tree o.number)

-- what open leaves prove together
abbrev pub lows : Problem → Tree → List OpenAt → Low
lows p tree [] = Some None
lows p tree (o ∷ os) = both_low (low_at p tree o) (lows p tree os)

-- the bound of an open leaf is formed
abbrev pub IsFormedEnd : Problem → Node → End Leaf → Type 0
IsFormedEnd p n (leaf (untried (Some low))) = IsLow p n low
IsFormedEnd p n end = Unit {0}

abbrev pub IsFormedThere : Problem → Node → Option (TreeNode Leaf) → Type 0
IsFormedThere p n None = Unit {0}
IsFormedThere p n (Some t) = IsFormedEnd p n t.end

-- so is that of the leaf of this number, and the problem knows the units that are taken in there
abbrev pub IsFormedAt : Problem → Tree → OpenAt → Type 0
IsFormedAt p tree o =
    KnowsInside (shape_of p) o.node × IsFormedThere p o.node (slice_get tree o.number)
