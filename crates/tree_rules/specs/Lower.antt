-- What a tree proves of the costs of all structures of its start, also of those at its open leaves:
-- the least of the claimed cost and of the bounds of its open leaves.
use Rattle.std.specs.Prelude.{◌*ℤ◌, int_le, cond, List, [], ◌∷◌, ◌++◌, Option, Some, None}
use Rattle.flow_rules.specs.problem_rules.Problem.{Problem}
use Rattle.flow_rules.specs.pns_rules.Shape.{shape_of}
use Rattle.flow_rules.specs.pns_rules.Nodes.{Node}
use Rattle.flow_rules.specs.Net.{net_of}
use Rattle.flow_rules.specs.Relaxed.{bound}
use Rattle.tree_rules.specs.Tree.{End, branch, leaf, after_all, below}
use Rattle.tree_rules.specs.Claim.{Claim, CostOver, claimed_cost}
use Rattle.tree_rules.specs.Leaf.{Leaf, dead, clash, refuted, bounded, charged, untried, Scaled}
use Rattle.tree_rules.specs.Leaf.{multiplier}
use Rattle.tree_rules.specs.Accepted.{Tree}

-- ---- the lesser of two costs, if none is above every cost

abbrev pub lesser : CostOver → CostOver → CostOver
lesser v w = cond (int_le (v.cost *ℤ w.d) (w.cost *ℤ v.d)) v w

abbrev pub least : Option CostOver → Option CostOver → Option CostOver
least None w = w
least (Some v) None = Some v
least (Some v) (Some w) = Some (lesser v w)

-- ---- what is known: a cost below which no structure is, or nothing

abbrev pub Low : Type 0
Low = Option (Option CostOver)

abbrev pub both_low : Low → Low → Low
both_low None m = None
both_low (Some v) None = None
both_low (Some v) (Some w) = Some (least v w)

abbrev pub bound_over : Problem → Node → Scaled → CostOver
bound_over p n low = record { cost = bound (net_of p) n low.d (multiplier p n low.ys); d = low.d }

-- of an open leaf only its bound is known; the others have nothing that costs less than what is
-- claimed
abbrev pub leaf_low : Problem → Node → Leaf → Low
leaf_low p n (dead x) = Some None
leaf_low p n (clash k) = Some None
leaf_low p n (refuted ys) = Some None
leaf_low p n (bounded d ys) = Some None
leaf_low p n (charged h) = Some None
leaf_low p n (untried None) = None
leaf_low p n (untried (Some low)) = Some (Some (bound_over p n low))

abbrev pub end_low : Problem → Node → End Leaf → Low
end_low p n (branch w) = Some None
end_low p n (leaf l) = leaf_low p n l

-- of the subtrees of the nodes
abbrev pub open_low : Problem → List Node → Tree → Low
open_low p [] ts = Some None
open_low p (n ∷ ns) [] = Some None
open_low p (n ∷ ns) (t ∷ ts) =
    both_low (end_low p (after_all (shape_of p) n t.steps) t.end)
    (open_low p (below (shape_of p) (after_all (shape_of p) n t.steps) t.end ++ ns) ts)

-- The lower bound of a tree from the start. It is none if some open leaf has no bound. The cost in
-- it is none if no cost is claimed and no leaf is open: then no structure has flows.
abbrev pub lower_bound : Problem → Node → Claim → Tree → Low
lower_bound p start claim tree = both_low (Some (claimed_cost claim)) (open_low p (start ∷ []) tree)
