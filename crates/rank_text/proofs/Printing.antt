-- The lines of a ranked tree that are printed one after another.
use Rattle.std.proofs.Common.{◌≡◌, ◌<◌, ◌+◌, ◌++◌, ℕ, List, [], ◌∷◌, length, drop, get_or, sym, ap}
use Rattle.std.proofs.Common.{◌∙◌}
use Rattle.tree_text_laws.specs.problem_rules.Problem.{Problem}
use Rattle.tree_text_laws.specs.tree_rules.Tree.{TreeNode}
use Rattle.tree_text_laws.specs.tree_rules.Leaf.{Leaf}
use Rattle.tree_text_laws.specs.text_rules.Canonical.{joined}
use Rattle.tree_text.specs.Printing.{appended}
use Rattle.tree_text.proofs.Cited.{line_made, item_ahead}
use Rattle.rank_check.specs.rank_rules.Marked.{Mark, marked, marked_node, marks_behind}
use Rattle.rank_check.specs.rank_rules.Spelling.{node_lines, tree_lines}

-- the lines of a node and of the rest
pub node_ahead : (p : Problem) (ms next : List Mark) (xs : List (TreeNode Leaf)) (i : ℕ)
    (x : TreeNode Leaf) → i < length xs → x ≡ get_or xs i x → next ≡ marks_behind ms x.end
    → tree_lines p (marked ms (drop i xs)) ≡ node_lines p (marked_node ms x)
    ++ tree_lines p (marked next (drop (i + 1) xs))
node_ahead p ms next xs i x lt is behind =
    ap (λ (ts : List (TreeNode Leaf)). tree_lines p (marked ms ts)) (item_ahead xs i x lt is)
    ∙ ap (λ (ms' : List Mark). node_lines p (marked_node ms x)
    ++ tree_lines p (marked ms' (drop (i + 1) xs))) (sym behind)

-- ---- a line that is made of a word, two fields and then the others

pub line_of_more : (line second first begun word one two : List ℕ) (fields : List (List ℕ))
    → line ≡ appended second fields → second ≡ appended first (two ∷ [])
    → first ≡ appended begun (one ∷ []) → begun ≡ word
    → line ≡ joined 32 (word ∷ one ∷ two ∷ fields)
line_of_more line second first begun word one two fields l s f b =
    line_made line begun word (one ∷ two ∷ fields)
    (l ∙ ap (λ (t : List ℕ). appended t fields)
    (s ∙ ap (λ (t : List ℕ). appended t (two ∷ [])) f)) b
