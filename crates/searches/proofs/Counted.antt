-- Each branch of a whole tree has fewer children than the tree has nodes.
use Rattle.std.proofs.Common.{◌≤◌, ◌<◌, ◌+◌, ◌^◌, ℕ, zero, suc, [], ◌∷◌, length, arith}
use Rattle.tree_text.specs.tree_rules.Ways as ways
use Rattle.tree_text.specs.tree_rules.Tree as trees
use Rattle.tree_text.specs.tree_rules.Leaf as leaves
use Rattle.tree_text.specs.tree_rules.Accepted.{Tree}
use Rattle.headed_search.specs.tree_text_laws.LineFits.{CountsEnd}
use Rattle.headed_search.specs.tree_text_laws.Fits.{CountsTree}

-- a subtree has a node at least
forest_length : (k : ℕ) (ts : Tree) → trees.IsForest k ts → k ≤ length ts
forest_length zero ts f = omega arith
forest_length (suc k) [] f = absurd f
forest_length (suc k) (t ∷ ts) f =
    let rest : trees.children t.end + k ≤ length ts =
    forest_length (trees.children t.end + k) ts f.1 in
    let some : 0 ≤ trees.children t.end = omega arith in
    omega (arith, rest)

counts_end : (end : trees.End leaves.Leaf) → trees.children end < 2 ^ 32 → CountsEnd end
counts_end (trees.branch (ways.at_material x c)) few = omega (arith, few)
counts_end (trees.branch (ways.either u)) few = tt
counts_end (trees.leaf l) few = tt

forest_counted : (k : ℕ) (ts : Tree) → trees.IsForest k ts → length ts < 2 ^ 32 → CountsTree ts
forest_counted k [] f few = tt
forest_counted zero (t ∷ ts) f few = absurd f
forest_counted (suc k) (t ∷ ts) f few =
    let rest : trees.children t.end + k ≤ length ts =
    forest_length (trees.children t.end + k) ts f.1 in (
      counts_end t.end (omega (arith, rest, few)),
      forest_counted (trees.children t.end + k) ts f.1 (omega (arith, few)),
    )

pub tree_counted : (ts : Tree) → trees.IsTree ts → length ts < 2 ^ 32 → CountsTree ts
tree_counted [] whole few = absurd whole
tree_counted (t ∷ ts) whole few = forest_counted 1 (t ∷ ts) whole.1 few
