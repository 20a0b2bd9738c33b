-- The nodes of a tree with a part in the place of a node, piece by piece.
use Rattle.std.proofs.Common.{◌≡◌, ◌+◌, ◌-◌, ◌<◌, ◌≤◌, ℕ, zero, suc, List, [], ◌∷◌, ◌++◌, length}
use Rattle.std.proofs.Common.{take, drop, get_or, ap, ◌∙◌, arith, add-one, append_assoc}
use Rattle.std.proofs.lemmas.List.{length-drop, take_all}
use Rattle.tree_text_laws.specs.pns_rules.Shape.{Shape}
use Rattle.tree_text_laws.specs.pns_rules.Nodes.{Node}
use Rattle.tree_text_laws.specs.tree_rules.Tree.{TreeNode, after_all, below, IsTree}
use Rattle.tree_text_laws.specs.tree_rules.Leaf.{Leaf}
use Rattle.tree_text_laws.specs.tree_rules.Accepted.{Tree}
use Rattle.tree_text_laws.specs.tree_text_rules.Graft.{grafted, graft_at}
use Rattle.tree_text_laws.specs.tree_text_rules.OpenLeaves.{StandsOpen}

pub graft_pieces : (k : ℕ) (ts : Tree) (r : TreeNode Leaf) (rs : Tree) (t : TreeNode Leaf)
    → k < length ts → t ≡ get_or ts k t
    → take k ts ++ (grafted t r ∷ (rs ++ drop (suc k) ts)) ≡ graft_at k ts (r ∷ rs)
graft_pieces k [] r rs t h e = absurd (omega arith)
graft_pieces zero (x ∷ xs) r rs t h e = ap (λ (y : TreeNode Leaf). grafted y r ∷ (rs ++ xs)) e
graft_pieces (suc k) (x ∷ xs) r rs t h e =
    ap (λ (us : Tree). x ∷ us) (graft_pieces k xs r rs t (omega arith) e)

-- the place of a node in a tree is below the tree's length
pub stands_below : (g : Shape) (ns : List Node) (ts : Tree) (k : ℕ) (n : Node)
    → StandsOpen g ns ts k n → k < length ts
stands_below g [] ts k n s = absurd s.1
stands_below g (m ∷ ms) [] k n s = absurd s.1
stands_below g (m ∷ ms) (t ∷ ts) zero n s = omega arith
stands_below g (m ∷ ms) (t ∷ ts) (suc k) n s =
    let less = stands_below g (below g (after_all g m t.steps) t.end ++ ms) ts k n s in
    omega (arith, less)

pub some_nodes : (ts : Tree) → IsTree ts → 0 < length ts
some_nodes [] h = absurd h
some_nodes (t ∷ ts) h = omega arith

-- the nodes from a place on
pub from_on : (ts : Tree) (i : ℕ) → take (length ts - i) (drop i ts) ≡ drop i ts
from_on ts i =
    take_all (length ts - i) (drop i ts)
    (let long = length-drop i ts in let le : length (drop i ts) ≤ length ts - i =
    omega (arith, long) in le)

-- the pieces appended one after another
pub pieces_joined : (k : ℕ) (ts part : Tree) (t r joined : TreeNode Leaf) (a b c d : Tree)
    → k < length ts → 0 < length part → t ≡ get_or ts k t → r ≡ get_or part 0 r
    → a ≡ take k ts → joined ≡ grafted t r → b ≡ a ++ joined ∷ [] → c ≡ b ++ drop 1 part
    → d ≡ c ++ drop (k + 1) ts → d ≡ graft_at k ts part
pieces_joined k ts [] t r joined a b c d h some e f ea ej eb ec ed = absurd (omega arith)
pieces_joined k ts (x ∷ xs) t r joined a b c d h some e f ea ej eb ec ed =
    let root : joined ≡ grafted t x = ej ∙ ap (λ (y : TreeNode Leaf). grafted t y) f in
    let start : b ≡ take k ts ++ grafted t x ∷ [] =
    eb ∙ ap (λ (us : Tree). us ++ joined ∷ []) ea
    ∙ ap (λ (y : TreeNode Leaf). take k ts ++ y ∷ []) root in
    let rest : Tree = drop (suc k) ts in
    ed
    ∙ ap (λ (us : Tree). us ++ drop (k + 1) ts) (ec ∙ ap (λ (us : Tree). us ++ xs) start)
    ∙ ap (λ (j : ℕ). ((take k ts ++ grafted t x ∷ []) ++ xs) ++ drop j ts) (add-one k)
    ∙ append_assoc (take k ts ++ grafted t x ∷ []) xs rest
    ∙ append_assoc (take k ts) (grafted t x ∷ []) (xs ++ rest)
    ∙ graft_pieces k ts x xs t h e
