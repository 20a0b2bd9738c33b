-- A part is a tree for the node of an open leaf, from a run of its own, with what it claims. It is
-- put in the place of the leaf.
use Rattle.std.specs.Prelude.{ℕ, zero, suc, ℤ, ◌*ℤ◌, Bool, true, false, ◌||◌, List, [], ◌∷◌, ◌++◌}
use Rattle.std.specs.Prelude.{int_lt, if◌then◌else◌}
use Rattle.tree_rules.specs.Tree.{End, leaf, TreeNode}
use Rattle.tree_rules.specs.Leaf.{Leaf, untried}
use Rattle.tree_rules.specs.Claim.{Network, Claim, network, infeasible, unknown}
use Rattle.tree_rules.specs.Accepted.{Tree}

-- ---- the tree

-- The leaf with the steps and the end of the part's root. It keeps its own option, and its own
-- steps come first.
abbrev pub grafted : TreeNode Leaf → TreeNode Leaf → TreeNode Leaf
grafted t root = record { option = t.option; steps = t.steps ++ root.steps; end = root.end }

-- the part in the place of node k: after its root come the part's other nodes
abbrev pub graft_at : ℕ → Tree → Tree → Tree
graft_at k [] part = []
graft_at k (t ∷ ts) [] = t ∷ ts
graft_at zero (t ∷ ts) (root ∷ part) = grafted t root ∷ (part ++ ts)
graft_at (suc k) (t ∷ ts) (root ∷ part) = t ∷ graft_at k ts (root ∷ part)

-- ---- the claim

abbrev pub is_open : End Leaf → Bool
is_open (leaf (untried low)) = true
is_open end = false

abbrev pub has_open : Tree → Bool
has_open [] = false
has_open (t ∷ ts) = is_open t.end || has_open ts

-- the cheaper network, or the first if neither is cheaper
abbrev pub cheaper : Network → Network → Network
cheaper w v = if int_lt (v.cost *ℤ w.d) (w.cost *ℤ v.d) then v else w

-- The network of the cheaper claim, and that of the tree if neither is cheaper. If no network is
-- claimed, nothing is claimed while a leaf is open, and else that there is no network.
abbrev pub claim_of_both : Claim → Claim → Tree → Claim
claim_of_both (network w) (network v) tree = network (cheaper w v)
claim_of_both (network w) claim tree = network w
claim_of_both claim (network v) tree = network v
claim_of_both claim other tree = if has_open tree then unknown else infeasible
