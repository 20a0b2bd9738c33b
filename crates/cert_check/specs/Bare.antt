-- Leaves judged without the bounds of open ones.
use Rattle.std.specs.Prelude.{Bool, true, false, Option, None}
use Rattle.tree_text_rules.specs.problem_rules.Problem.{Problem}
use Rattle.tree_text_rules.specs.pns_rules.Nodes.{Node}
use Rattle.tree_text_rules.specs.tree_rules.declared.why.Why.{Why}
use Rattle.tree_text_rules.specs.tree_rules.Claim.{CostOver}
use Rattle.tree_text_rules.specs.tree_rules.Leaf.{Leaf, dead, clash, refuted, bounded, charged}
use Rattle.tree_text_rules.specs.tree_rules.Leaf.{untried, LeafPasses}
use Rattle.tree_text_rules.specs.tree_rules.Leaf.{LeafFails}

-- an open leaf has no bound then
abbrev pub bare : Leaf → Leaf
bare (dead x) = dead x
bare (clash k) = clash k
bare (refuted ys) = refuted ys
bare (bounded d ys) = bounded d ys
bare (charged h) = charged h
bare (untried low) = untried None

-- the leaf as it is judged, if bounds of open leaves are, or are not
abbrev pub as_judged : Bool → Leaf → Leaf
as_judged true l = l
as_judged false l = bare l

-- leaves may be open, and their bounds are not judged
abbrev pub BarePasses : Problem → Option CostOver → Node → Leaf → Type 0
BarePasses p undercut n l = LeafPasses true p undercut n (bare l)

abbrev pub BareFails : Problem → Option CostOver → Node → Leaf → Why → Type 0
BareFails p undercut n l why = LeafFails true p undercut n (bare l) why
