-- What a search keeps between two turns. One node ties the others together: that of the leaf that
-- was branched last. Each branch costs no more than it, and it costs no more than any open leaf.
-- Both are said of each node by itself.
use Rattle.std.specs.Prelude.{ℕ, ◌<◌, true, List, length, Option, Some, None}
use Rattle.tree_laws.specs.problem_rules.Problem.{Problem}
use Rattle.tree_laws.specs.pns_rules.Shape.{shape_of}
use Rattle.tree_laws.specs.pns_rules.Nodes.{Node}
use Rattle.tree_laws.specs.pns_rules.Ends.{IsSound, IsDead, IsNever, IsReduced}
use Rattle.tree_laws.specs.tree_rules.Ways.{Way, IsDecision}
use Rattle.tree_laws.specs.tree_rules.Tree.{End, branch, leaf}
use Rattle.tree_laws.specs.tree_rules.Leaf.{Leaf, dead, clash, refuted, bounded, charged, untried}
use Rattle.tree_laws.specs.tree_rules.Claim.{Claim, CostOver, claimed_cost}
use Rattle.tree_laws.specs.tree_rules.Lean.{MayUndercut, IsNoDearer}
use Rattle.search_tree.specs.Cells.{Cell, place_of, cell_at}
use Rattle.search_tree.specs.Laws.{IsGrown}
use Rattle.branch_tree.specs.Values.{IsPositiveCost}

-- the node branched last costs no more than this one; if no leaf was branched, any node will do
abbrev pub IsFromLast : Problem → Option Node → Node → Type 0
IsFromLast p None n = Unit {0}
IsFromLast p (Some l) n = IsNoDearer p l n

-- the node costs no more than the one branched last
abbrev pub ReachesLast : Problem → Option Node → Node → Type 0
ReachesLast p None n = ⊥
ReachesLast p (Some l) n = IsNoDearer p n l

pub record BranchIsKept (p : Problem) (last : Option Node) (n : Node) (w : Way) : Type 0 where
  pub reduced : IsReduced (shape_of p) n
  pub splits : IsDecision (shape_of p) n w
  pub reached : ReachesLast p last n

abbrev pub LeafIsKept : Problem → Option Node → Node → Leaf → Type 0
LeafIsKept p last n (dead x) = Unit {0}
LeafIsKept p last n (clash k) = Unit {0}
LeafIsKept p last n (refuted ys) = Unit {0}
LeafIsKept p last n (bounded d ys) = Unit {0}
LeafIsKept p last n (charged h) = Unit {0}
LeafIsKept p last n (untried low) = IsNever (IsDead (shape_of p) n) → IsFromLast p last n

abbrev pub EndIsKept : Problem → Option Node → Node → End Leaf → Type 0
EndIsKept p last n (branch w) = BranchIsKept p last n w
EndIsKept p last n (leaf l) = LeafIsKept p last n l

-- the node branched last has relaxed flows that cost at most what is to be undercut
abbrev pub LastIsOfUse : Problem → Option CostOver → Option Node → Type 0
LastIsOfUse p undercut None = Unit {0}
LastIsOfUse p undercut (Some l) = MayUndercut p undercut l

-- the search from `start` with this claim, in which a leaf of the node `last` was branched last,
-- for networks that undercut a cost
pub record IsKeptFor (p : Problem) (start : Node) (claim : Claim) (undercut : Option CostOver)
    (last : Option Node) (cells : List Cell) : Type 0 where
  pub grown : IsGrown true p start claim cells
  pub sound : (i : ℕ) → i < length cells → IsSound (shape_of p) (place_of (cell_at cells i))
  pub ends : (i : ℕ) → i < length cells
      → EndIsKept p last (place_of (cell_at cells i)) (cell_at cells i).end
  pub claim_positive : IsPositiveCost (claimed_cost claim)
  pub undercut_positive : IsPositiveCost undercut
  pub of_use : LastIsOfUse p undercut last

-- what is to be undercut is what is claimed
abbrev pub IsKept : Problem → Node → Claim → Option Node → List Cell → Type 0
IsKept p start claim last cells = IsKeptFor p start claim (claimed_cost claim) last cells
