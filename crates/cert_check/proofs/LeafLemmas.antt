-- What is judged of one leaf is judged of the end that is this leaf.
use Rattle.std.proofs.Common.{◌≡◌, ℕ, ℤ, Bool, true, false, List, ◌++◌, Option, Result, Ok, Err}
use Rattle.std.proofs.Common.{OnOk, IfErr, refl, sym, ap, ◌∙◌, subst, inr}
use Rattle.tree_text_rules.specs.flow_rules.Cover.{Cover}
use Rattle.tree_text_rules.specs.flow_rules.ChargeLeaf.{Handed}
use Rattle.tree_text_rules.specs.pns_rules.Shape.{Shape}
use Rattle.tree_text_rules.specs.pns_rules.Nodes.{Node, Step}
use Rattle.tree_text_rules.specs.tree_rules.declared.why.Why.{Why}
use Rattle.tree_text_rules.specs.tree_rules.Tree.{End, leaf, TreeNode, StepsPass, after_all, below}
use Rattle.tree_text_rules.specs.tree_rules.Tree.{EndPasses}
use Rattle.tree_text_rules.specs.tree_rules.Fault.{EndFails, NodeFails}
use Rattle.tree_text_rules.specs.tree_rules.Leaf.{Leaf, Scaled, dead, clash, refuted, bounded}
use Rattle.tree_text_rules.specs.tree_rules.Leaf.{charged, untried}
use Rattle.tree_text_rules.specs.tree_rules.Accepted.{Tree}
use Rattle.branch_tree.specs.View.{end_of}
use Rattle.branch_tree.specs.declared.end.End as ends
use Rattle.branch_tree.specs.declared.end.End.TheVariants.{Dead, Clash, Refuted, Bound, Charge}
use Rattle.branch_tree.specs.declared.end.End.TheVariants.{Branch, Either, Open}
use Rattle.cert_check.specs.declared.visit.Halt.{Halt}
use Rattle.cert_check.specs.declared.visit.Halt.TheVariants.{Memory, Fails}
use Rattle.cert_check.specs.Bare.{bare, as_judged}
use Rattle.cert_check.specs.Visits.{IsVisited, Halts}

one_leaf : (a b : Leaf) → leaf a ≡ leaf b → a ≡ b
one_leaf a b e = cc

module _ {A : Type 0} (d : End Leaf) (e : Leaf) (is : d ≡ leaf e) where
  pub passes_at : (P : Leaf → Type 0) (Q : Type 0) (r : Result A Why) → (Q → P e) → OnOk r Q
      → OnOk r ((l : Leaf) → d ≡ leaf l → P l)
  passes_at P Q (Ok x) f q = λ l k. subst P (one_leaf e l (sym is ∙ k)) (f q)
  passes_at P Q (Err why) f q = tt

  pub fails_at : (F : Leaf → Why → Type 0) (Q : Why → Type 0) (r : Result A Why)
      → ((why : Why) → Q why → F e why) → IfErr r Q
      → IfErr r (λ why. (l : Leaf) → d ≡ leaf l → F l why)
  fails_at F Q (Ok x) f q = tt
  fails_at F Q (Err why) f q = λ l k. subst (λ m. F m why) (one_leaf e l (sym is ∙ k)) (f why q)

pub weaker_fault : {A : Type 0} (P Q : Why → Type 0) (r : Result A Why)
    → ((why : Why) → P why → Q why) → IfErr r P → IfErr r Q
weaker_fault P Q (Ok x) f h = tt
weaker_fault P Q (Err why) f h = f why h

-- an end that does not branch is a leaf
pub leaf_of : (e : ends.End) → ((x c : ℕ) → e ≡ Branch x c → ⊥) → ((u : ℕ) → e ≡ Either u → ⊥)
    → (l : Leaf) × (end_of e ≡ leaf l)
leaf_of (Dead x) h k = (dead x, refl)
leaf_of (Clash x) h k = (clash x, refl)
leaf_of (Refuted ys) h k = (refuted ys, refl)
leaf_of (Bound s) h k = (bounded s.d s.ys, refl)
leaf_of (Charge s covers) h k = (charged (record { d = s.d; ys = s.ys; covers = covers }), refl)
leaf_of (Branch x c) h k = absurd (h x c refl)
leaf_of (Either u) h k = absurd (k u refl)
leaf_of (Open low) h k = (untried low, refl)

-- a leaf that is not open has no bound to be left out
pub bare_is : (e : ends.End) → ((low : Option Scaled) → e ≡ Open low → ⊥) → (l : Leaf)
    → end_of e ≡ leaf l → bare l ≡ l
bare_is e h (dead x) k = refl
bare_is e h (clash x) k = refl
bare_is e h (refuted ys) k = refl
bare_is e h (bounded d ys) k = refl
bare_is e h (charged c) k = refl
bare_is e h (untried low) k = absurd (at e h k)
  where
    at : (d : ends.End) → ((b : Option Scaled) → d ≡ Open b → ⊥) → end_of d ≡ leaf (untried low) → ⊥
    at (Dead x) f q = absurd cc
    at (Clash x) f q = absurd cc
    at (Refuted ys) f q = absurd cc
    at (Bound s) f q = absurd cc
    at (Charge s covers) f q = absurd cc
    at (Branch x c) f q = absurd cc
    at (Either u) f q = absurd cc
    at (Open b) f q = f b refl

-- if bounds of open leaves are judged, a leaf is judged as it is
pub judged_as_is : (bounds : Bool) → bounds ≡ true → (l : Leaf) → as_judged bounds l ≡ l
judged_as_is bounds is l = subst (λ (b : Bool). as_judged b l ≡ l) (sym is) refl

-- so is one that is not open, if they are not
pub judged_bare : (bounds : Bool) → bounds ≡ false → (e : ends.End)
    → ((low : Option Scaled) → e ≡ Open low → ⊥) → (l : Leaf) → end_of e ≡ leaf l
    → as_judged bounds l ≡ l
judged_bare bounds is e h l k =
    subst (λ (b : Bool). as_judged b l ≡ l) (sym is) (bare_is e h l k)

module _ {A : Type 0} (d : End Leaf) (r : Result A Why) (judged : Leaf → Leaf)
    (same : (l : Leaf) → d ≡ leaf l → judged l ≡ l) where
  pub passes_as : (P : Leaf → Type 0) → OnOk r ((l : Leaf) → d ≡ leaf l → P l)
      → OnOk r ((l : Leaf) → d ≡ leaf l → P (judged l))
  passes_as P h = at r h
    where
      at : (s : Result A Why) → OnOk s ((l : Leaf) → d ≡ leaf l → P l)
          → OnOk s ((l : Leaf) → d ≡ leaf l → P (judged l))
      at (Ok x) f = λ l k. subst P (sym (same l k)) (f l k)
      at (Err why) f = tt

  pub fails_as : (F : Leaf → Why → Type 0)
      → IfErr r (λ why. (l : Leaf) → d ≡ leaf l → F l why)
      → IfErr r (λ why. (l : Leaf) → d ≡ leaf l → F (judged l) why)
  fails_as F h = at r h
    where
      at : (s : Result A Why) → IfErr s (λ why. (l : Leaf) → d ≡ leaf l → F l why)
          → IfErr s (λ why. (l : Leaf) → d ≡ leaf l → F (judged l) why)
      at (Ok x) f = tt
      at (Err why) f = λ l k. subst (λ (m : Leaf). F m why) (sym (same l k)) (f l k)

-- ---- values made of what calls give

abbrev pub scaled_by : ℤ → List ℤ → Scaled
scaled_by d ys = record { d = d; ys = ys }

pub scaled_is : (d : ℤ) (ys : List ℤ) (s : Scaled) → d ≡ s.d → ys ≡ s.ys → scaled_by d ys ≡ s
scaled_is d ys s h k = ap (λ (x : ℤ). scaled_by x ys) h ∙ ap (λ (zs : List ℤ). scaled_by s.d zs) k

abbrev pub handed_by : ℤ → List ℤ → List Cover → Handed
handed_by d ys covers = record { d = d; ys = ys; covers = covers }

pub handed_is : (d e : ℤ) (ys zs : List ℤ) (cs bs : List Cover) → d ≡ e → ys ≡ zs → cs ≡ bs
    → handed_by d ys cs ≡ handed_by e zs bs
handed_is d e ys zs cs bs h k m =
    ap (λ (x : ℤ). handed_by x ys cs) h
    ∙ (ap (λ (xs : List ℤ). handed_by e xs cs) k ∙ ap (λ (xs : List Cover). handed_by e zs xs) m)

module _ (g : Shape) (n m : Node) (t : TreeNode Leaf) (steps : List Step)
    (is_steps : steps ≡ t.steps) (passes : StepsPass g n steps)
    (leads : m ≡ after_all g n steps) where
  taken : StepsPass g n t.steps
  taken = subst (λ (ss : List Step). StepsPass g n ss) is_steps passes

  pub reached : m ≡ after_all g n t.steps
  reached = leads ∙ ap (λ (ss : List Step). after_all g n ss) is_steps

  pub node_visited : (P : Node → Leaf → Type 0) (behind : Tree) (before after : List Node)
      (e : End Leaf) → e ≡ t.end → EndPasses g P m e behind → after ≡ below g m e ++ before
      → IsVisited g P n t behind before after
  node_visited P behind before after e is end children = record {
    steps = taken;
    end =
        subst (λ (k : Node). EndPasses g P k t.end behind) reached
        (subst (λ (d : End Leaf). EndPasses g P m d behind) is end);
    children = children ∙ ap (λ (d : End Leaf). below g m d ++ before) is
        ∙ ap (λ (k : Node). below g k t.end ++ before) reached;
  }

  pub node_halts : (F : Node → Leaf → Why → Type 0) (behind : Tree) (e : End Leaf) → e ≡ t.end
      → (halt : Halt) → Halts (EndFails g F m e behind) halt → Halts (NodeFails g F n t behind) halt
  node_halts F behind e is Memory h = tt
  node_halts F behind e is (Fails why) h =
      inr (
        taken,
        subst (λ (k : Node). EndFails g F k t.end behind why) reached
            (subst (λ (d : End Leaf). EndFails g F m d behind why) is h),
      )
