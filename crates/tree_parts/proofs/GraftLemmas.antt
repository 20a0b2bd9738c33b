-- A part in the place of an open leaf.
use Rattle.std.proofs.Common.{◌≡◌, ◌⊎◌, ℕ, zero, suc, ◌+◌, List, [], ◌∷◌, ◌++◌, length, refl, sym}
use Rattle.std.proofs.Common.{ap, ◌∙◌, subst, inl, inr, arith}
use Rattle.std.proofs.lemmas.List.{append-nil}
use Rattle.tree_text_laws.specs.pns_rules.Shape.{Shape}
use Rattle.tree_text_laws.specs.pns_rules.Nodes.{Node}
use Rattle.tree_text_laws.specs.tree_rules.Ways.{width}
use Rattle.tree_text_laws.specs.tree_rules.Tree.{End, branch, leaf, TreeNode, children, IsForest}
use Rattle.tree_text_laws.specs.tree_rules.Tree.{IsTree, skip}
use Rattle.tree_text_laws.specs.tree_rules.Tree.{roots, StepsPass, after_all, EndPasses, below}
use Rattle.tree_text_laws.specs.tree_rules.Tree.{Pass}
use Rattle.tree_text_laws.specs.tree_rules.Leaf.{Leaf}
use Rattle.tree_text_laws.specs.tree_rules.Accepted.{Tree}
use Rattle.tree_text_laws.specs.tree_text_rules.Graft.{grafted, graft_at}
use Rattle.tree_text_laws.specs.tree_text_rules.OpenLeaves.{IsOpenEnd, StandsOpen}
use Rattle.tree_parts.proofs.ForestLemmas.{after_all-append, steps-append, forest-append}
use Rattle.tree_parts.proofs.ForestLemmas.{skip-whole}
use Rattle.tree_parts.proofs.ForestLemmas.{forest_below, end-append, pass-append}

-- node k of the list is an open leaf
abbrev pub IsOpenNode : ℕ → Tree → Type 0
IsOpenNode k [] = ⊥
IsOpenNode zero (t ∷ ts) = IsOpenEnd t.end
IsOpenNode (suc k) (t ∷ ts) = IsOpenNode k ts

pub stands_open : (g : Shape) (ns : List Node) (ts : Tree) (k : ℕ) (n : Node)
    → StandsOpen g ns ts k n → IsOpenNode k ts
stands_open g [] ts k n s = absurd s.1
stands_open g (m ∷ ms) [] k n s = absurd s.1
stands_open g (m ∷ ms) (t ∷ ts) zero n s = (s.0, s.1.1)
stands_open g (m ∷ ms) (t ∷ ts) (suc k) n s =
    stands_open g (below g (after_all g m t.steps) t.end ++ ms) ts k n s

-- an open leaf has no children
no_children : (t : TreeNode Leaf) → IsOpenEnd t.end → children t.end ≡ 0
no_children t o = ap (λ (end : End Leaf). children end) o.1

module _ (r : TreeNode Leaf) (rs : Tree) (whole : IsForest 1 (r ∷ rs)) where
  -- the place of the part when some subtrees were skipped, if it was not
  skip-graft : (c k : ℕ) (ts : Tree) → IsOpenNode k ts
      → (skip c (graft_at k ts (r ∷ rs)) ≡ skip c ts)
      ⊎ ((j : ℕ) × IsOpenNode j (skip c ts)
      × (skip c (graft_at k ts (r ∷ rs)) ≡ graft_at j (skip c ts) (r ∷ rs)))
  skip-graft zero k ts o = inr (k, o, refl)
  skip-graft (suc c) k [] o = absurd o
  skip-graft (suc c) zero (t ∷ ts) o =
      let none : children t.end ≡ 0 = no_children t o in
      inl (skip-whole (children r.end + 0) c (children r.end + c) rs ts (omega arith) whole.1
      ∙ ap (λ (j : ℕ). skip j ts) (let q : c ≡ children t.end + c = omega arith in q))
  skip-graft (suc c) (suc k) (t ∷ ts) o = skip-graft (children t.end + c) k ts o

  pub roots-graft : (w k : ℕ) (ts : Tree) → IsOpenNode k ts
      → roots w (graft_at k ts (r ∷ rs)) ≡ roots w ts
  roots-graft zero k ts o = refl
  roots-graft (suc w) k [] o = absurd o
  roots-graft (suc w) zero (t ∷ ts) o =
      let none : children t.end ≡ 0 = no_children t o in
      ap (λ (us : Tree). t.option ∷ roots w us)
      (skip-whole (children r.end + 0) 0 (children r.end + 0) rs ts (omega arith) whole.1
      ∙ ap (λ (j : ℕ). skip j ts) (let q : 0 ≡ children t.end + 0 = omega arith in q))
  roots-graft (suc w) (suc k) (t ∷ ts) o = elim (skip-graft 1 (suc k) (t ∷ ts) o) [
    | inl e ↦ ap (λ (us : Tree). t.option ∷ roots w us) e
    | inr s ↦ ap (λ (us : Tree). t.option ∷ roots w us) s.2
        ∙ ap (λ (os : List (List ℕ)). t.option ∷ os) (roots-graft w s.0 (skip 1 (t ∷ ts)) s.1)
  ]

  pub forest-graft : (c k : ℕ) (ts : Tree) → IsOpenNode k ts → IsForest c ts
      → IsForest c (graft_at k ts (r ∷ rs))
  forest-graft c k [] o h = absurd o
  forest-graft zero k (t ∷ ts) o h = absurd h
  forest-graft (suc c) zero (t ∷ ts) o h =
      let none : children t.end ≡ 0 = no_children t o in (
        whole.0,
        forest-append (children r.end + 0) c (children r.end + c) rs ts (omega arith) whole.1
            (subst (λ (j : ℕ). IsForest j ts) (let q : children t.end + c ≡ c = omega arith in q)
            h.1),
      )
  forest-graft (suc c) (suc k) (t ∷ ts) o h = (h.0, forest-graft (children t.end + c) k ts o h.1)

  root-graft : (k : ℕ) (ts : Tree) → IsOpenNode k ts → IsTree ts → IsTree (graft_at k ts (r ∷ rs))
  root-graft k [] o h = absurd o
  root-graft zero (t ∷ ts) o h = (h.0, forest-graft 1 zero (t ∷ ts) o h.1)
  root-graft (suc k) (t ∷ ts) o h = (h.0, forest-graft 1 (suc k) (t ∷ ts) o h.1)

  module _ (g : Shape) (P : Node → Leaf → Type 0) where
    end-graft : (n : Node) (end : End Leaf) (k : ℕ) (ts : Tree) → IsOpenNode k ts
        → EndPasses g P n end ts → EndPasses g P n end (graft_at k ts (r ∷ rs))
    end-graft n (branch w) k ts o h = (h.0, roots-graft (width w) k ts o ∙ h.1)
    end-graft n (leaf l) k ts o h = h

    -- at the node of the leaf
    here : (m : Node) (ms : List Node) (t : TreeNode Leaf) (us : Tree) → IsOpenEnd t.end
        → StepsPass g m t.steps → Pass g P ms us → Pass g P (after_all g m t.steps ∷ []) (r ∷ rs)
        → Pass g P (m ∷ ms) (grafted t r ∷ (rs ++ us))
    here m ms t us e steps rest part =
        let a : Node = after_all g m t.steps in
        let z : Node = after_all g a r.steps in
        let ends = end-append g P z r.end 0 rs us whole.1 part.1 in
        let forest = forest_below g P z r.end [] rs part.1 whole.1 in
        let some : Pass g P (below g z r.end) rs =
        subst (λ (ns : List Node). Pass g P ns rs) (append-nil (below g z r.end)) part.2 in
        let count : IsForest (length (below g z r.end)) rs =
        subst (λ (ns : List Node). IsForest (length ns) rs) (append-nil (below g z r.end))
        forest in
        let behind = pass-append g P (below g z r.end) ms rs us count some rest in
        let both =
        subst (λ (y : Node). EndPasses g P y r.end (rs ++ us)
        × Pass g P (below g y r.end ++ ms) (rs ++ us))
        (sym (after_all-append g m t.steps r.steps)) (ends, behind) in
        (steps-append g m t.steps r.steps steps part.0, both.0, both.1)

    pub pass-graft : (ns : List Node) (ts : Tree) (k : ℕ) (n : Node) → Pass g P ns ts
        → StandsOpen g ns ts k n → Pass g P (n ∷ []) (r ∷ rs) → Pass g P ns (graft_at k ts (r ∷ rs))
    pass-graft [] ts k n h s q = absurd s.1
    pass-graft (m ∷ ms) [] k n h s q = absurd s.1
    pass-graft (m ∷ ms) (t ∷ us) zero n h s q =
        here m ms t us (s.0, s.1.1) h.0
        (subst (λ (end : End Leaf). Pass g P (below g (after_all g m t.steps) end ++ ms) us)
        s.1.1 h.2)
        (subst (λ (j : Node). Pass g P (j ∷ []) (r ∷ rs)) (sym s.1.0) q)
    pass-graft (m ∷ ms) (t ∷ us) (suc k) n h s q =
        let a : Node = after_all g m t.steps in (
          h.0,
          end-graft a t.end k us (stands_open g (below g a t.end ++ ms) us k n s) h.1,
          pass-graft (below g a t.end ++ ms) us k n h.2 s q,
        )

pub tree-graft : (k : ℕ) (ts part : Tree) → IsOpenNode k ts → IsTree ts → IsTree part
    → IsTree (graft_at k ts part)
tree-graft k ts [] o h q = absurd q
tree-graft k ts (r ∷ rs) o h q = root-graft r rs q.1 k ts o h

pub passes-graft : (g : Shape) (P : Node → Leaf → Type 0) (ns : List Node) (ts part : Tree) (k : ℕ)
    (n : Node) → IsTree part → Pass g P ns ts → StandsOpen g ns ts k n → Pass g P (n ∷ []) part
    → Pass g P ns (graft_at k ts part)
passes-graft g P ns ts [] k n q h s p = absurd q
passes-graft g P ns ts (r ∷ rs) k n q h s p = pass-graft r rs q.1 g P ns ts k n h s p
