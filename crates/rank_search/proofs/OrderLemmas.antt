-- Cells of which open leaves are shut have the order of the others, each once. The tree of such
-- cells, with names, is the tree of the others, whose leaves become others by their numbers.
use Rattle.std.proofs.Common.{◌≡◌, ℕ, suc, ◌+◌, ◌<◌, List, [], ◌∷◌, ◌++◌, length, Option, Some}
use Rattle.std.proofs.Common.{refl, sym, ap, ap₂, subst, arith, inl, inr, ne_eqb}
use Rattle.std.specs.List.{slice_get}
use Rattle.std.proofs.lemmas.Bool.{cases_eq}
use Rattle.rank_check.specs.problem_rules.Each.{Each}
use Rattle.rank_check.specs.tree_rules.Tree.{End, branch, leaf, TreeNode}
use Rattle.rank_check.specs.tree_rules.Leaf.{Leaf}
use Rattle.rank_check.specs.rank_rules.declared.naming.Naming.{Naming}
use Rattle.rank_check.specs.rank_rules.Leaf as ranks
use Rattle.rank_check.specs.rank_rules.Ranked as ranked
use Rattle.abb_search.specs.search_tree.declared.shut.Shut.{Shut}
use Rattle.abb_search.specs.search_tree.Cells.{Cell, cell_at, times, children_at, IsLinked}
use Rattle.abb_search.specs.search_tree.Preorder.{IsPreorder, node_at, tree_of, told_end, told_at}
use Rattle.abb_search.specs.search_tree.Preorder.{told_tree}
use Rattle.abb_search.specs.search_tree.Shut.{shut_leaf, shut_end, shut_cells}
use Rattle.abb_search.proofs.search_tree.Cited.{once, proof_of, shut_at, children_stay, AreThere}
use Rattle.abb_search.proofs.search_tree.Cited.{there-append}
use Rattle.abb_search.proofs.search_tree.Cited.{children_there}
use Rattle.rank_search.specs.Naming.{Names, name_at, names_at}
use Rattle.rank_search.proofs.MarkLemmas.{named_leaf, named_node, named_tree}

-- ---- the place of a cell

pub record StandsIn (order : List ℕ) (j : ℕ) : Type 0 where
  pub place : ℕ
  pub is : slice_get order place ≡ Some j

stands_somewhere : (order : List ℕ) (j : ℕ) → times j order ≡ 1 → StandsIn order j
stands_somewhere [] j h = absurd (omega (arith, h))
stands_somewhere (i ∷ is) j h = elim (cases_eq i j) [
  | inl e ↦ record { place = 0; is = ap (λ (n : ℕ). Some n) e }
  | inr ne ↦
      let apart = ne_eqb i j ne in
      let less : 0 + times j is ≡ 1 = rw apart at h in
      let w = stands_somewhere is j (omega (arith, less)) in
      record { place = suc w.place; is = w.is }
]

pub stands_in : (cells : List Cell) (order : List ℕ) → IsLinked cells
    → IsPreorder cells (0 ∷ []) order → (j : ℕ) → j < length cells → StandsIn order j
stands_in cells order linked p j lt =
    stands_somewhere order j (once cells linked order p (suc j) j (omega arith) lt)

-- ---- open leaves are shut

-- what the leaf of a cell becomes in the answer
abbrev pub leaf_told : Naming → Names → List (Option Shut) → ℕ → Leaf → ranks.Leaf
leaf_told way names ms i l = named_leaf way (name_at names i) (shut_leaf (proof_of ms i) l)

told_shut : (way : Naming) (n : Option ℕ) (m : Option Shut) (e : End Leaf)
    → told_end (named_leaf way n) (shut_end m e)
    ≡ told_end (λ (l : Leaf). named_leaf way n (shut_leaf m l)) e
told_shut way n m (branch w) = refl
told_shut way n m (leaf l) = refl

module _ (way : Naming) (names : Names) (ms : List (Option Shut)) (cells : List Cell)
    (linked : IsLinked cells) where
  -- in the same order
  same_order : (is order : List ℕ) → AreThere cells is → IsPreorder (shut_cells ms cells) is order
      → IsPreorder cells is order
  same_order [] [] there p = tt
  same_order [] (k ∷ ks) there p = absurd p
  same_order (i ∷ is) [] there p = absurd p
  same_order (i ∷ is) (k ∷ ks) there p = (
    p.0,
    same_order (children_at cells i ++ is) ks
        (there-append cells (children_at cells i) is (children_there cells linked i there.0)
        there.1)
        (subst (λ (js : List ℕ). IsPreorder (shut_cells ms cells) (js ++ is) ks)
        (children_stay ms cells i there.0) p.1),
  )

  pub shut_order : (order : List ℕ) → IsPreorder (shut_cells ms cells) (0 ∷ []) order
      → IsPreorder cells (0 ∷ []) order
  shut_order order p = same_order (0 ∷ []) order (linked.some, tt) p

  one_told : (i : ℕ) → i < length cells
      → named_node way (name_at names i) (node_at (shut_cells ms cells) i)
      ≡ told_at (leaf_told way names ms) cells i
  one_told i lt =
      subst
      (λ (c : Cell). named_node way (name_at names i)
      (record { option = c.option; steps = c.steps; end = c.end })
      ≡ told_at (leaf_told way names ms) cells i) (sym (shut_at ms cells i lt))
      (ap (λ (e : End ranks.Leaf). record {
        option = (cell_at cells i).option;
        steps =
            (cell_at cells i).steps;
        end = e;
      })
      (told_shut way (name_at names i) (proof_of ms i) (cell_at cells i).end))

  all_told : (is order : List ℕ) → AreThere cells is → IsPreorder cells is order
      → named_tree way (names_at names order) (tree_of (shut_cells ms cells) order)
      ≡ told_tree (leaf_told way names ms) cells order
  all_told [] [] there p = refl
  all_told [] (k ∷ ks) there p = absurd p
  all_told (i ∷ is) [] there p = absurd p
  all_told (i ∷ is) (k ∷ ks) there p =
      let here : k < length cells = subst (λ (j : ℕ). j < length cells) (sym p.0) there.0 in
      ap₂ (λ (t : TreeNode ranks.Leaf) (ts : ranked.Tree). t ∷ ts) (one_told k here)
      (all_told (children_at cells i ++ is) ks
      (there-append cells (children_at cells i) is (children_there cells linked i there.0)
      there.1) p.1)

  pub named_is_told : (order : List ℕ) → IsPreorder cells (0 ∷ []) order
      → named_tree way (names_at names order) (tree_of (shut_cells ms cells) order)
      ≡ told_tree (leaf_told way names ms) cells order
  named_is_told order p = all_told (0 ∷ []) order (linked.some, tt) p

pub length-names_at : (names : Names) (order : List ℕ)
    → length (names_at names order) ≡ length order
length-names_at names [] = refl
length-names_at names (i ∷ is) = ap suc (length-names_at names is)

pub each_name : (P : Option ℕ → Type 0) (names : Names) → ((i : ℕ) → P (name_at names i))
    → (order : List ℕ) → Each P (names_at names order)
each_name P names h [] = tt
each_name P names h (i ∷ is) = (h i, each_name P names h is)
