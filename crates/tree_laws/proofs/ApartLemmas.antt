-- For each H that goes up a tree and is true of at most one child: H of a leaf is H of the node
-- that the leaf is under, and of no other leaf.
use Rattle.std.proofs.Common.{◌≡◌, ℕ, zero, suc, List, [], ◌∷◌, ◌++◌, map, refl, sym, ap, subst}
use Rattle.std.proofs.Common.{inl, inr}
use Rattle.tree_rules.specs.number_sets.Options.{IsIn}
use Rattle.tree_rules.specs.pns_rules.Shape.{Shape}
use Rattle.tree_rules.specs.pns_rules.Nodes.{Node, Step, IsPossible, after}
use Rattle.tree_rules.specs.Ways.{Way, MayBranch, options_at, child_at}
use Rattle.tree_rules.specs.Tree.{End, branch, leaf, TreeNode, StepsPass, after_all, below, Stands}
use Rattle.tree_rules.specs.Tree.{EndPasses, Pass}
use Rattle.tree_laws.proofs.OneLemmas.{OneHolds, AtMostOne, split_one, join_one, among}
use Rattle.tree_laws.proofs.WayLemmas.{AreDistinct, options_distinct}

pub record GoesUp (g : Shape) (H : Node → Type 0) : Type 0 where
  pub back : (n : Node) (t : Step) → IsPossible g n t → H (after g n t) → H n
  pub up : (n : Node) (w : Way) (t : List ℕ) → H (child_at g n w t) → H n
  pub alone : (n : Node) (w : Way) (t t' : List ℕ) → MayBranch g n w → IsIn t (options_at g n w)
      → IsIn t' (options_at g n w) → H (child_at g n w t) → H (child_at g n w t') → t ≡ t'

module _ (g : Shape) (H : Node → Type 0) (goes : GoesUp g H) where
  children_one : (n : Node) (w : Way) → MayBranch g n w → (ts : List (List ℕ))
      → ((t : List ℕ) → IsIn t ts → IsIn t (options_at g n w)) → AreDistinct ts
      → AtMostOne H (map (child_at g n w) ts)
  children_one n w may [] h a = tt
  children_one n w may (t ∷ ts) h a = (
    (λ f k.
        let m = among H (child_at g n w) ts k in
        let same : t ≡ m.0 = goes.alone n w t m.0 may (h t (inl refl)) (h m.0 (inr m.1)) f m.2 in
        a.0 (subst (λ (v : List ℕ). IsIn v ts) (sym same) m.1)),
    children_one n w may ts (λ v i. h v (inr i)) a.1,
  )

  back_steps : (n : Node) (ss : List Step) → StepsPass g n ss → H (after_all g n ss) → H n
  back_steps n [] p f = f
  back_steps n (t ∷ ts) p f = goes.back n t p.0 (back_steps (after g n t) ts p.1 f)

  module _ {L : Type 0} (P : Node → L → Type 0) where
    below_one : (n : Node) (e : End L) → OneHolds H (below g n e) → H n
    below_one n (branch w) h = let m =
        among H (child_at g n w) (options_at g n w) h in goes.up n w m.0 m.2
    below_one n (leaf l) h = absurd h

    below_apart : (n : Node) (e : End L) (behind : List (TreeNode L)) → EndPasses g P n e behind
        → AtMostOne H (below g n e)
    below_apart n (branch w) behind p =
        children_one n w p.0 (options_at g n w) (λ t i. i) (options_distinct g n w)
    below_apart n (leaf l) behind p = tt

    above : (ns : List Node) (ts : List (TreeNode L)) (k : ℕ) (m : Node) (l : L) → Pass g P ns ts
        → Stands g ns ts k m (leaf l) → H m → OneHolds H ns
    above [] ts k m l p h f = absurd h
    above (n ∷ ns) [] k m l p h f = absurd h
    above (n ∷ ns) (t ∷ ts) zero m l p h f = inl (back_steps n t.steps p.0 (subst H (sym h.0) f))
    above (n ∷ ns) (t ∷ ts) (suc k) m l p h f =
        elim
        (split_one H (below g (after_all g n t.steps) t.end) ns
        (above (below g (after_all g n t.steps) t.end ++ ns) ts k m l p.2 h f)) [
          | inl i ↦ inl (back_steps n t.steps p.0 (below_one (after_all g n t.steps) t.end i))
          | inr i ↦ inr i
        ]

    -- the leaf at the root of the first subtree, and one after it
    first_apart : (n : Node) (ns : List Node) (t : TreeNode L) (ts : List (TreeNode L)) (k : ℕ)
        (m o : Node) (a b : L) → Pass g P (n ∷ ns) (t ∷ ts) → AtMostOne H (n ∷ ns)
        → Stands g (n ∷ ns) (t ∷ ts) zero m (leaf a) → H m
        → Stands g (n ∷ ns) (t ∷ ts) (suc k) o (leaf b) → H o → ⊥
    first_apart n ns t ts k m o a b p one h f i e =
        elim
        (split_one H (below g (after_all g n t.steps) t.end) ns
        (above (below g (after_all g n t.steps) t.end ++ ns) ts k o b p.2 i e)) [
          | inl w ↦ subst (λ (v : End L). OneHolds H (below g (after_all g n t.steps) v)) h.1 w
          | inr w ↦ one.0 (back_steps n t.steps p.0 (subst H (sym h.0) f)) w
        ]

    pub leaves_apart : (ns : List Node) (ts : List (TreeNode L)) (j k : ℕ) (m o : Node) (a b : L)
        → Pass g P ns ts → AtMostOne H ns → Stands g ns ts j m (leaf a) → H m
        → Stands g ns ts k o (leaf b) → H o → j ≡ k
    leaves_apart [] ts j k m o a b p one h f i e = absurd h
    leaves_apart (n ∷ ns) [] j k m o a b p one h f i e = absurd h
    leaves_apart (n ∷ ns) (t ∷ ts) zero zero m o a b p one h f i e = refl
    leaves_apart (n ∷ ns) (t ∷ ts) zero (suc k) m o a b p one h f i e =
        absurd (first_apart n ns t ts k m o a b p one h f i e)
    leaves_apart (n ∷ ns) (t ∷ ts) (suc j) zero m o a b p one h f i e =
        absurd (first_apart n ns t ts j o m b a p one i e h f)
    leaves_apart (n ∷ ns) (t ∷ ts) (suc j) (suc k) m o a b p one h f i e =
        ap suc
        (leaves_apart (below g (after_all g n t.steps) t.end ++ ns) ts j k m o a b p.2
        (join_one H (below g (after_all g n t.steps) t.end) ns
        (below_apart (after_all g n t.steps) t.end ts p.1) one.1
        (λ v w. one.0 (back_steps n t.steps p.0 (below_one (after_all g n t.steps) t.end v)) w))
        h f i e)
