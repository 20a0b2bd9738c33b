-- A ranking as an ordinary tree: it has the form of the tree that it is made from.
use Rattle.std.proofs.Common.{◌≡◌, ◌<◌, ◌≤◌, ◌+◌, ◌++◌, ◌∙◌, ℕ, zero, suc, List, [], ◌∷◌, length}
use Rattle.std.proofs.Common.{drop}
use Rattle.std.proofs.Common.{get_or, refl, sym, ap, subst, append_assoc}
use Rattle.std.proofs.lemmas.List.{drop_more, drop_all, append-nil}
use Rattle.report_rules.specs.tree_rules.Tree.{TreeNode, End, branch, leaf, children, HasChildren}
use Rattle.report_rules.specs.tree_rules.Tree.{IsForest}
use Rattle.report_rules.specs.tree_rules.Tree.{IsTree}
use Rattle.report_rules.specs.tree_rules.Leaf.{Leaf, dead, clash, refuted, bounded, charged}
use Rattle.report_rules.specs.tree_rules.Leaf.{untried}
use Rattle.report_rules.specs.tree_rules.Accepted.{Tree}
use Rattle.report_rules.specs.rank_rules.Marked.{Mark, marked, marked_node, marked_end}
use Rattle.report_rules.specs.rank_rules.Marked.{marks_behind}
use Rattle.report_rules.specs.RankLow.{plain_end, plain_node, plain_tree}

-- ---- the form

-- the end in the ordinary tree
abbrev plain : List Mark → End Leaf → End Leaf
plain ms e = plain_end (marked_end ms e)

children_same : (ms : List Mark) (e : End Leaf) → children (plain ms e) ≡ children e
children_same ms (branch w) = refl
children_same ms (leaf (dead x)) = refl
children_same ms (leaf (clash k)) = refl
children_same ms (leaf (refuted ys)) = refl
children_same ms (leaf (bounded d ys)) = refl
children_same ms (leaf (charged c)) = refl
children_same ms (leaf (untried low)) = refl

has_children : (ms : List Mark) (e : End Leaf) → HasChildren e → HasChildren (plain ms e)
has_children ms (branch w) h = h
has_children ms (leaf (dead x)) h = h
has_children ms (leaf (clash k)) h = h
has_children ms (leaf (refuted ys)) h = h
has_children ms (leaf (bounded d ys)) h = h
has_children ms (leaf (charged c)) h = h
has_children ms (leaf (untried low)) h = h

is_forest : (k : ℕ) (ms : List Mark) (ts : Tree) → IsForest k ts
    → IsForest k (plain_tree (marked ms ts))
is_forest zero ms [] h = tt
is_forest zero ms (t ∷ ts) h = absurd h
is_forest (suc k) ms [] h = absurd h
is_forest (suc k) ms (t ∷ ts) h = (
  has_children ms t.end h.0,
  subst (λ (n : ℕ). IsForest (n + k) (plain_tree (marked (marks_behind ms t.end) ts)))
      (sym (children_same ms t.end))
      (is_forest (children t.end + k) (marks_behind ms t.end) ts h.1),
)

pub is_tree : (ms : List Mark) (ts : Tree) → IsTree ts → IsTree (plain_tree (marked ms ts))
is_tree ms [] h = absurd h
is_tree ms (t ∷ ts) h = (h.0, is_forest 1 ms (t ∷ ts) h.1)

pub as_long : (ms : List Mark) (ts : Tree) → length (plain_tree (marked ms ts)) ≡ length ts
as_long ms [] = refl
as_long ms (t ∷ ts) = ap (λ (n : ℕ). suc n) (as_long (marks_behind ms t.end) ts)

-- ---- node by node

pub node_ahead : (ms next : List Mark) (xs : Tree) (i : ℕ) (x : TreeNode Leaf) → i < length xs
    → x ≡ get_or xs i x → next ≡ marks_behind ms x.end
    → plain_tree (marked ms (drop i xs))
    ≡ plain_node (marked_node ms x) ∷ plain_tree (marked next (drop (i + 1) xs))
node_ahead ms next xs i x lt is behind =
    ap (λ (ts : Tree). plain_tree (marked ms ts))
    (drop_more xs i x lt ∙ ap (λ (y : TreeNode Leaf). y ∷ drop (i + 1) xs) (sym is))
    ∙ ap (λ (ms' : List Mark). plain_node (marked_node ms x)
    ∷ plain_tree (marked ms' (drop (i + 1) xs))) (sym behind)

pub one_more : (done new ahead rest whole : Tree) (x y : TreeNode Leaf) → new ≡ done ++ x ∷ []
    → x ≡ y → ahead ≡ y ∷ rest → done ++ ahead ≡ whole → new ++ rest ≡ whole
one_more done new ahead rest whole x y e same a h =
    ap (λ (ts : Tree). ts ++ rest) e ∙ append_assoc done (x ∷ []) rest
    ∙ ap (λ (z : TreeNode Leaf). done ++ z ∷ rest) same
    ∙ ap (λ (ts : Tree). done ++ ts) (sym a) ∙ h

pub all_done : (done whole xs : Tree) (ms : List Mark) (i : ℕ) → length xs ≤ i
    → done ++ plain_tree (marked ms (drop i xs)) ≡ whole → done ≡ whole
all_done done whole xs ms i le h =
    sym (append-nil done)
    ∙ ap (λ (ts : Tree). done ++ plain_tree (marked ms ts)) (sym (drop_all i xs le)) ∙ h
