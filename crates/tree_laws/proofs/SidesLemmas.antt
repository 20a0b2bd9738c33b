-- No unit is both taken in and left out at a node of a tree, if none is at its start.
use Rattle.std.proofs.Common.{◌≡◌, ℕ, zero, suc, Bool, true, false, ◌||◌, ◌==◌, List, [], ◌∷◌, ◌++◌}
use Rattle.std.proofs.Common.{map, refl, subst, inl, inr}
use Rattle.std.proofs.lemmas.Bool.{or_cases, both_ways, eqb-true, false_from_ne_true}
use Rattle.tree_rules.specs.number_sets.Options.{IsIn}
use Rattle.tree_rules.specs.number_sets.Sets.{has, Avoids}
use Rattle.tree_rules.specs.pns_rules.Shape.{Shape, IsProper}
use Rattle.tree_rules.specs.pns_rules.Nodes.{Node, Step, raw, rival, starve, loose, sole, is_free}
use Rattle.tree_rules.specs.pns_rules.Nodes.{IsPossible}
use Rattle.tree_rules.specs.pns_rules.Nodes.{after}
use Rattle.tree_rules.specs.Ways.{Way, MayBranch, options_at, child_at}
use Rattle.tree_rules.specs.Tree.{End, branch, leaf, TreeNode, StepsPass, after_all, below, Stands}
use Rattle.tree_rules.specs.Tree.{EndPasses, Pass}
use Rattle.tree_laws.proofs.WayLemmas.{free_parts, choices, child_apart}

abbrev AreApart : Node → Type 0
AreApart n = Avoids n.inside n.outside

free_is_not_in : (g : Shape) (n : Node) (u : ℕ) → is_free g n u ≡ true → n.inside u ≡ true → ⊥
free_is_not_in g n u f i = both_ways (n.inside u) (free_parts g n u f).0 i

-- more units are left out, none of which is taken in
more_out : (n : Node) (more : ℕ → Bool) → AreApart n
    → ((v : ℕ) → n.inside v ≡ true → more v ≡ true → ⊥) → (v : ℕ) → n.inside v ≡ true
    → (more v || n.outside v) ≡ true → ⊥
more_out n more a h v i o =
    elim (or_cases (more v) (n.outside v) o) [ inl m ↦ h v i m | inr q ↦ a v i q ]

step_apart : (g : Shape) → IsProper g → (n : Node) (t : Step) → IsPossible g n t → AreApart n
    → AreApart (after g n t)
step_apart g proper n (raw u) p a =
    more_out n (λ v. u == v) a
    (λ v i e. free_is_not_in g n v
    (subst (λ (w : ℕ). is_free g n w ≡ true) (eqb-true u v e) p.1) i)
step_apart g proper n (rival u) p a =
    more_out n (λ v. u == v) a
    (λ v i e. free_is_not_in g n v
    (subst (λ (w : ℕ). is_free g n w ≡ true) (eqb-true u v e) p.1) i)
step_apart g proper n (starve x) p a =
    more_out n (λ v. g.uses v x) a
    (λ v i e. both_ways (n.inside v)
    (p.3 v (proper.user_known v x e) e (false_from_ne_true (n.outside v) (λ o. a v i o))) i)
step_apart g proper n (loose w) p a =
    more_out n (λ v. has w v) a (λ v i e. free_is_not_in g n v (p.1 v e).1 i)
step_apart g proper n (sole x u) p a =
    λ v i o. elim (or_cases (u == v) (n.inside v) i) [
      | inl e
          ↦ both_ways (n.outside v) (subst (λ (w : ℕ). n.outside w ≡ false) (eqb-true u v e) p.3) o
      | inr q ↦ a v q o
    ]

abbrev pub AllApart : List Node → Type 0
AllApart [] = Unit {0}
AllApart (n ∷ ns) = AreApart n × AllApart ns

join_apart : (ns ms : List Node) → AllApart ns → AllApart ms → AllApart (ns ++ ms)
join_apart [] ms a b = b
join_apart (n ∷ ns) ms a b = (a.0, join_apart ns ms a.1 b)

module _ (g : Shape) (proper : IsProper g) where
  steps_apart : (n : Node) (ss : List Step) → StepsPass g n ss → AreApart n
      → AreApart (after_all g n ss)
  steps_apart n [] p a = a
  steps_apart n (t ∷ ts) p a = steps_apart (after g n t) ts p.1 (step_apart g proper n t p.0 a)

  children_apart : (n : Node) (w : Way) → MayBranch g n w → (ts : List (List ℕ))
      → ((t : List ℕ) → IsIn t ts → IsIn t (options_at g n w)) → AreApart n
      → AllApart (map (child_at g n w) ts)
  children_apart n w may [] h a = tt
  children_apart n w may (t ∷ ts) h a = (
    child_apart g n w t (choices g n w t proper a may (h t (inl refl))) a,
    children_apart n w may ts (λ v i. h v (inr i)) a,
  )

  module _ {L : Type 0} (P : Node → L → Type 0) where
    below_apart : (n : Node) (e : End L) (behind : List (TreeNode L)) → EndPasses g P n e behind
        → AreApart n → AllApart (below g n e)
    below_apart n (branch w) behind p a = children_apart n w p.0 (options_at g n w) (λ t i. i) a
    below_apart n (leaf l) behind p a = tt

    pub stands_apart : (ns : List Node) (ts : List (TreeNode L)) (k : ℕ) (m : Node) (e : End L)
        → Pass g P ns ts → AllApart ns → Stands g ns ts k m e → AreApart m
    stands_apart [] ts k m e p a h = absurd h
    stands_apart (n ∷ ns) [] k m e p a h = absurd h
    stands_apart (n ∷ ns) (t ∷ ts) zero m e p a h =
        subst AreApart h.0 (steps_apart n t.steps p.0 a.0)
    stands_apart (n ∷ ns) (t ∷ ts) (suc k) m e p a h =
        stands_apart (below g (after_all g n t.steps) t.end ++ ns) ts k m e p.2
        (join_apart (below g (after_all g n t.steps) t.end) ns
        (below_apart (after_all g n t.steps) t.end ts p.1 (steps_apart n t.steps p.0 a.0)) a.1)
        h
