-- At which places the nodes of a recharged tree are.
use Rattle.std.proofs.Common.{◌≡◌, ℕ, zero, suc, ◌+◌, Bool, true, false, List, [], ◌∷◌, ◌++◌}
use Rattle.std.proofs.Common.{length, refl, sym, ap, ◌∙◌, subst, true≢false, Option}
use Rattle.tree_rules.specs.problem_rules.Problem.{Problem}
use Rattle.tree_rules.specs.pns_rules.Shape.{Shape, shape_of}
use Rattle.tree_rules.specs.pns_rules.Nodes.{Node}
use Rattle.tree_rules.specs.Ways.{Way}
use Rattle.tree_rules.specs.Tree.{End, branch, leaf, children, HasChildren, IsForest}
use Rattle.tree_rules.specs.Tree.{IsTree, after_all, below, Stands, EndPasses, Pass}
use Rattle.tree_rules.specs.Claim.{CostOver}
use Rattle.tree_rules.specs.Leaf.{Leaf, dead, clash, refuted, bounded, charged, untried, IsUntried}
use Rattle.tree_rules.specs.Leaf.{LeafPasses}
use Rattle.tree_rules.specs.Accepted.{Tree}
use Rattle.tree_laws.specs.Recharged.{recharged_leaf, recharged_end}
use Rattle.tree_laws.specs.Recharged.{recharged_tree}

pub recharged_length : (ts : Tree) → length (recharged_tree ts) ≡ length ts
recharged_length [] = refl
recharged_length (t ∷ ts) = ap suc (recharged_length ts)

-- ---- one whole tree

same_children : (e : End Leaf) → children (recharged_end e) ≡ children e
same_children (branch w) = refl
same_children (leaf l) = refl

has_children : (e : End Leaf) → HasChildren e → HasChildren (recharged_end e)
has_children (branch w) h = h
has_children (leaf l) h = tt

pub recharged_forest : (k : ℕ) (ts : Tree) → IsForest k ts → IsForest k (recharged_tree ts)
recharged_forest zero [] h = tt
recharged_forest zero (t ∷ ts) h = absurd h
recharged_forest (suc k) [] h = absurd h
recharged_forest (suc k) (t ∷ ts) h = (
  has_children t.end h.0,
  subst (λ (n : ℕ). IsForest (n + k) (recharged_tree ts)) (sym (same_children t.end))
      (recharged_forest (children t.end + k) ts h.1),
)

pub recharged_whole : (ts : Tree) → IsTree ts → IsTree (recharged_tree ts)
recharged_whole [] h = absurd h
recharged_whole (t ∷ ts) h = (h.0, recharged_forest 1 (t ∷ ts) h.1)

-- ---- places

was_branch : (w : Way) (e : End Leaf) → recharged_end e ≡ branch w → e ≡ branch w
was_branch w (branch v) h = h
was_branch w (leaf l) h = absurd (let q : leaf (recharged_leaf l) ≡ branch w = h in cc)

module _ (g : Shape) where
  same_below : (n : Node) (e : End Leaf) → below g n (recharged_end e) ≡ below g n e
  same_below n (branch w) = refl
  same_below n (leaf l) = refl

  -- a branch is at the place that it had
  pub branch_stood : (ns : List Node) (ts : Tree) (k : ℕ) (n : Node) (w : Way)
      → Stands g ns (recharged_tree ts) k n (branch w) → Stands g ns ts k n (branch w)
  branch_stood [] ts k n w h = absurd h
  branch_stood (m ∷ ms) [] k n w h = absurd h
  branch_stood (m ∷ ms) (t ∷ ts) zero n w h = (h.0, was_branch w t.end h.1)
  branch_stood (m ∷ ms) (t ∷ ts) (suc k) n w h =
      let a : Node = after_all g m t.steps in
      branch_stood (below g a t.end ++ ms) ts k n w
      (subst (λ (b : List Node). Stands g (b ++ ms) (recharged_tree ts) k n (branch w))
      (same_below a t.end) h)

-- ---- open leaves

module _ (p : Problem) (claimed : Option CostOver) where
  -- an end that passes in a whole tree is not open after that
  closed : (n : Node) (e : End Leaf) (behind : Tree)
      → EndPasses (shape_of p) (LeafPasses false p claimed) n e behind
      → (l : Leaf) → IsUntried l → recharged_end e ≡ leaf l → ⊥
  closed n (branch w) behind h l o q = let r : branch w ≡ leaf l = q in cc
  closed n (leaf (dead x)) behind h l o q =
      let r : leaf (dead x) ≡ leaf (untried o.0) = q ∙ ap (λ (k : Leaf). leaf k) o.1 in cc
  closed n (leaf (clash x)) behind h l o q =
      let r : leaf (clash x) ≡ leaf (untried o.0) = q ∙ ap (λ (k : Leaf). leaf k) o.1 in cc
  closed n (leaf (refuted ys)) behind h l o q =
      let r : recharged_end (leaf (refuted ys)) ≡ leaf (untried o.0) =
      q ∙ ap (λ (k : Leaf). leaf k) o.1 in cc
  closed n (leaf (bounded d ys)) behind h l o q =
      let r : recharged_end (leaf (bounded d ys)) ≡ leaf (untried o.0) =
      q ∙ ap (λ (k : Leaf). leaf k) o.1 in cc
  closed n (leaf (charged c)) behind h l o q =
      let r : leaf (charged c) ≡ leaf (untried o.0) = q ∙ ap (λ (k : Leaf). leaf k) o.1 in cc
  closed n (leaf (untried low)) behind h l o q = true≢false (sym h.0)

  pub none_open : (ns : List Node) (ts : Tree)
      → Pass (shape_of p) (LeafPasses false p claimed) ns ts
      → (k : ℕ) (n : Node) (l : Leaf) → Stands (shape_of p) ns (recharged_tree ts) k n (leaf l)
      → IsUntried l → ⊥
  none_open [] ts h k n l s o = s
  none_open (m ∷ ms) [] h k n l s o = s
  none_open (m ∷ ms) (t ∷ ts) h zero n l s o =
      closed (after_all (shape_of p) m t.steps) t.end ts h.1 l o s.1
  none_open (m ∷ ms) (t ∷ ts) h (suc k) n l s o =
      let a : Node = after_all (shape_of p) m t.steps in
      none_open (below (shape_of p) a t.end ++ ms) ts h.2 k n l
      (subst (λ (b : List Node). Stands (shape_of p) (b ++ ms) (recharged_tree ts) k n (leaf l))
      (same_below (shape_of p) a t.end) s) o
