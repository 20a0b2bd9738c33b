-- Parts that are put back in any order make the same tree, and what is claimed of it costs the
-- same. The networks may differ if two cost the same.
use Rattle.std.specs.Prelude.{◌≡◌, ℕ, ◌*ℤ◌, List, [], ◌∷◌, IsPermutation}
use Rattle.tree_text_laws.specs.problem_rules.Each.{Each}
use Rattle.tree_text_laws.specs.problem_rules.Problem.{Problem}
use Rattle.tree_text_laws.specs.problem_rules.Validity.{IsValid}
use Rattle.tree_text_laws.specs.pns_rules.Shape.{shape_of}
use Rattle.tree_text_laws.specs.pns_rules.Nodes.{Node}
use Rattle.tree_text_laws.specs.tree_rules.Tree.{IsTree}
use Rattle.tree_text_laws.specs.tree_rules.Claim.{Claim, network, infeasible, unknown}
use Rattle.tree_text_laws.specs.tree_rules.Accepted.{Tree, first_node}
use Rattle.tree_text_laws.specs.tree_text_rules.OpenLeaves.{StandsOpen}
use Rattle.tree_text_laws.specs.tree_text_rules.Part.{Part, start_of}
use Rattle.tree_text_laws.specs.tree_text_rules.Merge.{IsLeafOf, IsMerged}
use Rattle.tree_text_laws.specs.tree_text_rules.Several.{AreMerged}

-- Both claim a network, and the two costs are one fraction; or both claim that there is none; or
-- both claim nothing.
abbrev pub SameCost : Claim → Claim → Type 0
SameCost (network w) (network v) = w.cost *ℤ v.d ≡ v.cost *ℤ w.d
SameCost infeasible infeasible = Unit {0}
SameCost unknown unknown = Unit {0}
SameCost claim other = ⊥

-- No two of the parts start at one node. If two do, the order may matter. A branch at a material
-- whose makers are all decided has at most one child, and that is at the same node. So each of the
-- two may branch at another such material and leave the child open for the other.
abbrev pub StartApart : List Part → Type 0
StartApart [] = Unit {0}
StartApart (part ∷ more) =
    Each (λ other. start_of part ≡ start_of other → ⊥) more × StartApart more

-- when a part is put back, each open leaf at another node stays open
abbrev pub OthersStayOpen : Type 0
OthersStayOpen =
    (p : Problem) (claim both : Claim) (tree whole : Tree) (part : Part) (k : ℕ) (n : Node)
    → IsTree part.tree → IsMerged p claim tree part both whole → (start_of part ≡ n → ⊥)
    → StandsOpen (shape_of p) (first_node ∷ []) tree k n
    → (m : ℕ) × StandsOpen (shape_of p) (first_node ∷ []) whole m n

-- two parts that start at different nodes, in either order
abbrev pub EitherOrder : Type 0
EitherOrder =
    (p : Problem) → IsValid p → (claim : Claim) (tree : Tree) (a b : Part)
    → IsTree a.tree → IsTree b.tree → (start_of a ≡ start_of b → ⊥)
    → (with_a with_both with_b with_two : Claim) (tree_a tree_both tree_b tree_two : Tree)
    → IsMerged p claim tree a with_a tree_a → IsMerged p with_a tree_a b with_both tree_both
    → IsMerged p claim tree b with_b tree_b → IsMerged p with_b tree_b a with_two tree_two
    → (tree_both ≡ tree_two) × SameCost with_both with_two

-- any number of parts that start at different nodes, in any two orders
abbrev pub AnyOrder : Type 0
AnyOrder =
    (p : Problem) → IsValid p → (claim : Claim) (tree : Tree) (ps qs : List Part)
    → Each (λ part. IsTree part.tree) ps → StartApart ps → IsPermutation ps qs
    → (one other : Claim) (whole same : Tree)
    → AreMerged p claim tree ps one whole → AreMerged p claim tree qs other same
    → (whole ≡ same) × SameCost one other

-- If each is for an open leaf of the tree itself, and one order of them can be put back, so can
-- each other order.
abbrev pub EachOrder : Type 0
EachOrder =
    (p : Problem) → IsValid p → (claim : Claim) (tree : Tree) (ps qs : List Part) → IsTree tree
    → Each (λ part. IsTree part.tree) ps → StartApart ps
    → Each (λ part. (k : ℕ) × IsLeafOf p tree part k) ps → IsPermutation ps qs
    → (one : Claim) (whole : Tree) → AreMerged p claim tree ps one whole
    → (other : Claim) × AreMerged p claim tree qs other whole
