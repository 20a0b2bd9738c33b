-- At each node of a tree that passes, only units of the problem are taken in or left out, if it is
-- so at its start.
use Rattle.std.proofs.Common.{◌≡◌, ◌<◌, ◌||◌, ◌&&◌, ◌==◌, ℕ, zero, suc, Bool, true, false, not}
use Rattle.std.proofs.Common.{nat_lt, List, [], ◌∷◌, ◌++◌, map, refl, sym, subst, ◌∙◌, inl, inr}
use Rattle.std.proofs.Common.{ltb-true, eq-eqb}
use Rattle.std.proofs.lemmas.Bool.{or_cases, and_parts, both_ways, eqb-true}
use Rattle.studio.specs.number_sets.Sets.{has, listed}
use Rattle.studio.specs.number_sets.Options.{IsIn}
use Rattle.studio.proofs.number_sets.Cited.{has-listed, in_option}
use Rattle.studio.specs.pns_rules.Shape.{Shape, IsProper}
use Rattle.studio.specs.pns_rules.Structure.{makers}
use Rattle.studio.specs.pns_rules.Nodes.{Node, Step, raw, rival, starve, loose, sole, is_free}
use Rattle.studio.specs.pns_rules.Nodes.{IsPossible}
use Rattle.studio.specs.pns_rules.Nodes.{after, base_makers, free_makers}
use Rattle.studio.proofs.pns_rules.Cited.{makers_apart, base_set, free_set}
use Rattle.studio.specs.tree_rules.Ways.{Way, at_material, either, MayBranch, decides, options_at}
use Rattle.studio.specs.tree_rules.Ways.{child_at}
use Rattle.studio.specs.tree_rules.Tree.{End, branch, leaf, TreeNode, StepsPass, after_all, below}
use Rattle.studio.specs.tree_rules.Tree.{Stands}
use Rattle.studio.specs.tree_rules.Tree.{EndPasses, Pass}
use Rattle.studio.proofs.tree_laws.Cited.{only}

module _ (g : Shape) (proper : IsProper g) where
  abbrev IsSmall : (ℕ → Bool) → Type 0
  IsSmall s = (u : ℕ) → s u ≡ true → u < g.units

  pub record AreUnits (n : Node) : Type 0 where
    pub inside : IsSmall n.inside
    pub outside : IsSmall n.outside

  more : (a b : ℕ → Bool) → IsSmall a → IsSmall b → (v : ℕ) → (a v || b v) ≡ true → v < g.units
  more a b h k v e = elim (or_cases (a v) (b v) e) [ inl p ↦ h v p | inr q ↦ k v q ]

  one : (u : ℕ) → u < g.units → (v : ℕ) → (u == v) ≡ true → v < g.units
  one u lt v e = subst (λ (w : ℕ). w < g.units) (eqb-true u v e) lt

  step_small : (n : Node) (t : Step) → IsPossible g n t → AreUnits n → AreUnits (after g n t)
  step_small n (raw u) p h = record {
    inside = h.inside;
    outside = more (λ v. u == v) n.outside (one u p.0) h.outside;
  }
  step_small n (rival u) p h = record {
    inside = h.inside;
    outside = more (λ v. u == v) n.outside (one u p.0) h.outside;
  }
  step_small n (starve x) p h = record {
    inside = h.inside;
    outside =
        more (λ v. g.uses v x) n.outside (λ v e. proper.user_known v x e) h.outside;
  }
  step_small n (loose w) p h = record {
    inside = h.inside;
    outside = more (λ v. has w v) n.outside (λ v e. (p.1 v e).0) h.outside;
  }
  step_small n (sole x u) p h = record {
    inside = more (λ v. u == v) n.inside (one u p.1) h.inside;
    outside = h.outside;
  }

  steps_small : (n : Node) (ss : List Step) → StepsPass g n ss → AreUnits n
      → AreUnits (after_all g n ss)
  steps_small n [] p h = h
  steps_small n (t ∷ ts) p h = steps_small (after g n t) ts p.1 (step_small n t p.0 h)

  listed_small : (t : ℕ → Bool) (v : ℕ) → has (listed g.units t) v ≡ true → v < g.units
  listed_small t v e = ltb-true v g.units
      (and_parts (nat_lt v g.units) (t v) (sym (has-listed g.units t v) ∙ e)).0

  option_small : (n : Node) (w : Way) (t : List ℕ) → MayBranch g n w → IsIn t (options_at g n w)
      → IsSmall (has t)
  option_small n (at_material x c) t may i v e =
      let o = in_option g.units (base_makers g n x) (free_makers g n x) (base_set g n x)
      (free_set g n x) (makers_apart g n x) t i in
      elim
      (or_cases (has (base_makers g n x) v) (has (free_makers g n x) v)
      (o.between.within v e)) [
        | inl b ↦ listed_small (makers g n.inside x) v b
        | inr f ↦ listed_small (λ u. is_free g n u && g.makes u x) v f
      ]
  option_small n (either u) t may (inl is) v e =
      one u may.0 v (eq-eqb u v (only u v (subst (λ (k : List ℕ). has k v ≡ true) is e)))
  option_small n (either u) t may (inr (inl is)) v e =
      absurd (both_ways false refl (subst (λ (k : List ℕ). has k v ≡ true) is e))
  option_small n (either u) t may (inr (inr none)) v e = absurd none

  decided_small : (n : Node) (w : Way) → MayBranch g n w → IsSmall (decides g w)
  decided_small n (at_material x c) may v e = proper.maker_known v x e
  decided_small n (either u) may v e = one u may.0 v e

  abbrev AllUnits : List Node → Type 0
  AllUnits [] = Unit {0}
  AllUnits (n ∷ ns) = AreUnits n × AllUnits ns

  join_small : (ns ms : List Node) → AllUnits ns → AllUnits ms → AllUnits (ns ++ ms)
  join_small [] ms a b = b
  join_small (n ∷ ns) ms a b = (a.0, join_small ns ms a.1 b)

  children_small : (n : Node) (w : Way) → MayBranch g n w → AreUnits n → (ts : List (List ℕ))
      → ((t : List ℕ) → IsIn t ts → IsIn t (options_at g n w))
      → AllUnits (map (child_at g n w) ts)
  children_small n w may h [] all = tt
  children_small n w may h (t ∷ ts) all = (
    record {
      inside = more (λ v. has t v) n.inside (option_small n w t may (all t (inl refl))) h.inside;
      outside = more (λ v. decides g w v && not (has t v)) n.outside
          (λ v e. decided_small n w may v (and_parts (decides g w v) (not (has t v)) e).0)
          h.outside;
    },
    children_small n w may h ts (λ v i. all v (inr i)),
  )

  module _ {L : Type 0} (P : Node → L → Type 0) where
    below_small : (n : Node) (e : End L) (behind : List (TreeNode L)) → EndPasses g P n e behind
        → AreUnits n → AllUnits (below g n e)
    below_small n (branch w) behind p h = children_small n w p.0 h (options_at g n w) (λ t i. i)
    below_small n (leaf l) behind p h = tt

    pub stands_small : (ns : List Node) (ts : List (TreeNode L)) (k : ℕ) (m : Node) (e : End L)
        → Pass g P ns ts → AllUnits ns → Stands g ns ts k m e → AreUnits m
    stands_small [] ts k m e p h s = absurd s
    stands_small (n ∷ ns) [] k m e p h s = absurd s
    stands_small (n ∷ ns) (t ∷ ts) zero m e p h s =
        subst AreUnits s.0 (steps_small n t.steps p.0 h.0)
    stands_small (n ∷ ns) (t ∷ ts) (suc k) m e p h s =
        stands_small (below g (after_all g n t.steps) t.end ++ ns) ts k m e p.2
        (join_small (below g (after_all g n t.steps) t.end) ns
        (below_small (after_all g n t.steps) t.end ts p.1 (steps_small n t.steps p.0 h.0)) h.1)
        s
