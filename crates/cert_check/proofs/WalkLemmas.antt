-- A walk over a tree with a stack of nodes that are left.
use Rattle.std.proofs.Common.{◌≡◌, ℕ, zero, suc, ◌+◌, List, [], ◌∷◌, ◌++◌, length, refl, sym, ap}
use Rattle.std.proofs.Common.{◌∙◌, subst, arith, length-append}
use Rattle.std.proofs.lemmas.List.{length-map}
use Rattle.tree_text_rules.specs.pns_rules.Shape.{Shape}
use Rattle.tree_text_rules.specs.pns_rules.Nodes.{Node}
use Rattle.tree_text_rules.specs.tree_rules.declared.why.Why.{Why}
use Rattle.tree_text_rules.specs.tree_rules.Ways.{width, options_at, child_at}
use Rattle.tree_text_rules.specs.tree_rules.Tree.{End, branch, leaf, TreeNode, children, IsForest}
use Rattle.tree_text_rules.specs.tree_rules.Tree.{skip, roots}
use Rattle.tree_text_rules.specs.tree_rules.Tree.{StepsPass, after_all, EndPasses, below, Pass}
use Rattle.tree_text_rules.specs.tree_rules.Fault.{NodeFails, IsFirstFault}

module _ {L : Type 0} where
  pub skip-nil : (k : ℕ) → skip {L = L} k [] ≡ []
  skip-nil zero = refl
  skip-nil (suc k) = refl

  -- to skip subtrees one after the other; c is a + b
  pub skip-add : (a b c : ℕ) (ts : List (TreeNode L)) → c ≡ a + b → skip c ts ≡ skip b (skip a ts)
  skip-add zero b c ts e = ap (λ (k : ℕ). skip k ts) (let q : c ≡ b = omega arith in q)
  skip-add (suc a) b c [] e = skip-nil c ∙ sym (skip-nil b)
  skip-add (suc a) b c (t ∷ ts) e =
      ap (λ (k : ℕ). skip k (t ∷ ts)) (let q : c ≡ suc (a + b) = omega arith in q)
      ∙ skip-add (children t.end + a) b (children t.end + (a + b)) ts (omega arith)

  pub forest-skip : (k m c : ℕ) (ts : List (TreeNode L)) → c ≡ k + m → IsForest c ts
      → IsForest m (skip k ts)
  forest-skip zero m c ts e h =
      subst (λ (j : ℕ). IsForest j ts) (let q : c ≡ m = omega arith in q) h
  forest-skip (suc k) m c [] e h =
      absurd
      (subst (λ (j : ℕ). IsForest {L = L} j []) (let q : c ≡ suc (k + m) = omega arith in q) h)
  forest-skip (suc k) m c (t ∷ ts) e h =
      forest-skip (children t.end + k) m (children t.end + (k + m)) ts (omega arith)
      (subst (λ (j : ℕ). IsForest j (t ∷ ts)) (let q : c ≡ suc (k + m) = omega arith in q) h).1

  -- there are as many roots as are asked for
  pub length-roots : (k m c : ℕ) (ts : List (TreeNode L)) → c ≡ k + m → IsForest c ts
      → length (roots k ts) ≡ k
  length-roots zero m c ts e h = refl
  length-roots (suc k) m c [] e h =
      absurd
      (subst (λ (j : ℕ). IsForest {L = L} j []) (let q : c ≡ suc (k + m) = omega arith in q) h)
  length-roots (suc k) m c (t ∷ ts) e h =
      ap suc
      (length-roots k m (k + m) (skip 1 (t ∷ ts)) refl
      (forest-skip 1 (k + m) c (t ∷ ts) (omega arith) h))

  module _ (g : Shape) (P : Node → L → Type 0) (F : Node → L → Why → Type 0) where
    -- the rest decides about the whole; it begins at node i
    pub record Leads (ns : List Node) (ts : List (TreeNode L)) (ms : List Node)
        (us : List (TreeNode L)) (i : ℕ) : Type 0 where
      pub passes : Pass g P ms us → Pass g P ns ts
      pub fault : (k j : ℕ) (why : Why) → j ≡ i + k → IsFirstFault g P F ms us k why
          → IsFirstFault g P F ns ts j why
      pub forest : IsForest (length ms) us

    pub leads_none : (ns : List Node) (ts : List (TreeNode L)) → IsForest (length ns) ts
        → Leads ns ts ns ts 0
    leads_none ns ts f = record {
      passes = λ p. p;
      fault =
          λ k j why e h. subst (λ (w : ℕ). IsFirstFault g P F ns ts w why)
          (let q : k ≡ j = omega arith in q) h;
      forest = f;
    }

    below_count : (n : Node) (end : End L) (ms : List Node) (us : List (TreeNode L))
        → EndPasses g P n end us → IsForest (children end + length ms) us
        → length (below g n end) ≡ children end
    below_count n (branch w) ms us e f =
        length-map (options_at g n w) (child_at g n w)
        ∙ (ap (λ (ts : List (List ℕ)). length ts) (sym e.1)
        ∙ length-roots (width w) (length ms) (width w + length ms) us refl f)
    below_count n (leaf l) ms us e f = refl

    -- a node that passes
    pub leads_on : (ns : List Node) (ts : List (TreeNode L)) (n : Node) (ms : List Node)
        (t : TreeNode L) (us : List (TreeNode L)) (i : ℕ) → Leads ns ts (n ∷ ms) (t ∷ us) i
        → StepsPass g n t.steps → EndPasses g P (after_all g n t.steps) t.end us
        → Leads ns ts (below g (after_all g n t.steps) t.end ++ ms) us (i + 1)
    leads_on ns ts n ms t us i l s e =
        let m : Node = after_all g n t.steps in
        record {
          passes = λ p. l.passes (s, e, p);
          fault = λ k j why q h. l.fault (suc k) j why (omega arith) (s, e, h);
          forest =
              let count = below_count m t.end ms us e l.forest.1 in
              subst (λ (k : ℕ). IsForest k us)
              (sym (length-append (below g m t.end) ms ∙ ap (λ (k : ℕ). k + length ms) count))
              l.forest.1;
        }

    pub leads_fault : (ns : List Node) (ts : List (TreeNode L)) (n : Node) (ms : List Node)
        (t : TreeNode L) (us : List (TreeNode L)) (i : ℕ) (why : Why)
        → Leads ns ts (n ∷ ms) (t ∷ us) i → NodeFails g F n t us why
        → IsFirstFault g P F ns ts i why
    leads_fault ns ts n ms t us i why l h = l.fault 0 i why (omega arith) h

    pub leads_all : (ns : List Node) (ts : List (TreeNode L)) (ms : List Node) (i : ℕ)
        → Leads ns ts ms [] i → Pass g P ns ts
    leads_all ns ts [] i l = l.passes tt
    leads_all ns ts (m ∷ ms) i l = absurd l.forest
