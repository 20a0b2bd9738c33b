-- The numbers of a preorder: children are among the cells and after their parent, and the cells
-- make one whole tree.
use Rattle.std.proofs.Common.{◌≡◌, ℕ, zero, suc, ◌+◌, ◌<◌, ◌≤◌, List, [], ◌∷◌, ◌++◌, length, refl}
use Rattle.std.proofs.Common.{sym, ap, ◌∙◌, subst, arith, length-append}
use Rattle.std.specs.List.{range_with_len, AllByRecursion}
use Rattle.std.proofs.lemmas.List.FromFn.{length-range_with_len}
use Rattle.tree_laws.specs.tree_rules.Ways.{width}
use Rattle.tree_laws.specs.tree_rules.Tree.{End, branch, leaf, children, HasChildren, IsForest}
use Rattle.tree_laws.specs.tree_rules.Tree.{IsTree}
use Rattle.tree_laws.specs.tree_rules.Leaf.{Leaf}
use Rattle.search_tree.specs.Cells.{Cell, cell_at, numbers_below, children_at, AreBehind, IsLinked}
use Rattle.search_tree.specs.Preorder.{IsPreorder, tree_of}

abbrev pub AreThere : List Cell → List ℕ → Type 0
AreThere cells is = AllByRecursion (λ i. i < length cells) is

pub there-append : (cells : List Cell) (is js : List ℕ) → AreThere cells is → AreThere cells js
    → AreThere cells (is ++ js)
there-append cells [] js h k = k
there-append cells (i ∷ is) js h k = (h.0, there-append cells is js h.1 k)

there-range : (cells : List Cell) (f c : ℕ) → f + c ≤ length cells
    → AreThere cells (range_with_len f c)
there-range cells f zero h = tt
there-range cells f (suc c) h = (omega (arith, h), there-range cells (f + 1) c (omega (arith, h)))

below_there : (cells : List Cell) (i f : ℕ) (e : End Leaf) → AreBehind (length cells) i f e
    → AreThere cells (numbers_below f e)
below_there cells i f (branch w) h = there-range cells f (width w) h.2
below_there cells i f (leaf l) h = tt

pub children_there : (cells : List Cell) → IsLinked cells → (i : ℕ) → i < length cells
    → AreThere cells (children_at cells i)
children_there cells linked i lt =
    below_there cells i (cell_at cells i).first (cell_at cells i).end (linked.behind i lt)

-- as many numbers as the end has children
pub count_below : (f : ℕ) (e : End Leaf) → length (numbers_below f e) ≡ children e
count_below f (branch w) = length-range_with_len f (width w)
count_below f (leaf l) = refl

-- and these follow each other
pub numbers_are : (f : ℕ) (e : End Leaf) → numbers_below f e ≡ range_with_len f (children e)
numbers_are f (branch w) = refl
numbers_are f (leaf l) = refl

pub has_children : (n i f : ℕ) (e : End Leaf) → AreBehind n i f e → HasChildren e
has_children n i f (branch w) h = h.0
has_children n i f (leaf l) h = tt

pub forest_of : (cells : List Cell) → IsLinked cells → (is order : List ℕ) → AreThere cells is
    → IsPreorder cells is order → IsForest (length is) (tree_of cells order)
forest_of cells linked [] [] there p = tt
forest_of cells linked [] (k ∷ ks) there p = absurd p
forest_of cells linked (i ∷ is) [] there p = absurd p
forest_of cells linked (i ∷ is) (k ∷ ks) there p =
    let rest =
    forest_of cells linked (children_at cells i ++ is) ks
    (there-append cells (children_at cells i) is (children_there cells linked i there.0)
    there.1) p.1 in
    let count : length (children_at cells i ++ is) ≡ children (cell_at cells i).end + length is
    = length-append (children_at cells i) is
    ∙ ap (λ n. n + length is) (count_below (cell_at cells i).first (cell_at cells i).end) in
    subst (λ j. HasChildren (cell_at cells j).end
    × IsForest (children (cell_at cells j).end + length is) (tree_of cells ks)) (sym p.0) (
      has_children (length cells) i (cell_at cells i).first (cell_at cells i).end
          (linked.behind i there.0),
      subst (λ n. IsForest n (tree_of cells ks)) count rest,
    )

pub preorder_is_tree : (cells : List Cell) (order : List ℕ) → IsLinked cells
    → (cell_at cells 0).option ≡ [] → IsPreorder cells (0 ∷ []) order → IsTree (tree_of cells order)
preorder_is_tree cells [] linked none p = absurd p
preorder_is_tree cells (k ∷ ks) linked none p =
    let forest = forest_of cells linked (0 ∷ []) (k ∷ ks) (linked.some, tt) p in
    (subst (λ j. (cell_at cells j).option ≡ []) (sym p.0) none, forest)
