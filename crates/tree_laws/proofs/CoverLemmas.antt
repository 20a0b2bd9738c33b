-- A structure of a node that passes is a structure of one of its leaves. L is what the leaves may
-- be, and P says which pass.
use Rattle.std.proofs.Common.{◌≡◌, ℕ, zero, suc, Bool, List, [], ◌∷◌, ◌++◌, refl, sym, subst, inl}
use Rattle.std.proofs.Common.{inr}
use Rattle.tree_rules.specs.pns_rules.Shape.{Shape, IsProper}
use Rattle.tree_rules.specs.pns_rules.Structure.{InFamily}
use Rattle.tree_rules.specs.pns_rules.Nodes.{Node, Step, after}
use Rattle.tree_rules.proofs.pns_rules.Cited.{steps_keep_families}
use Rattle.tree_rules.specs.Ways.{Way, MayBranch, options_at, child_at, children_at}
use Rattle.tree_rules.specs.Tree.{End, branch, leaf, TreeNode, StepsPass, after_all, below, Stands}
use Rattle.tree_rules.specs.Tree.{EndPasses, Pass}
use Rattle.tree_laws.proofs.OneLemmas.{OneHolds, left_one, right_one, at_option}
use Rattle.tree_laws.proofs.WayLemmas.{ways_cover}

-- the structure is in the node's family
abbrev pub IsOf : Shape → (ℕ → Bool) → Node → Type 0
IsOf g s n = InFamily g n.inside n.outside s

-- and in that of a leaf of the subtrees, which passes there
pub record IsUnder {L : Type 0} (g : Shape) (P : Node → L → Type 0) (ns : List Node)
    (ts : List (TreeNode L)) (s : ℕ → Bool) : Type 0 where
  pub place : ℕ
  pub node : Node
  pub what : L
  pub stands : Stands g ns ts place node (leaf what)
  pub passes : P node what
  pub in_family : InFamily g node.inside node.outside s

module _ (g : Shape) (s : ℕ → Bool) where
  module _ (proper : IsProper g) where
    pub over_steps : (n : Node) (ss : List Step) → StepsPass g n ss
        → InFamily g n.inside n.outside s
        → InFamily g (after_all g n ss).inside (after_all g n ss).outside s
    over_steps n [] p f = f
    over_steps n (t ∷ ts) p f =
        over_steps (after g n t) ts p.1 ((steps_keep_families g n t proper p.0 s).0 f)

    pub at_branch : (n : Node) (w : Way) → MayBranch g n w → InFamily g n.inside n.outside s
        → OneHolds (IsOf g s) (children_at g n w)
    at_branch n w may f =
        let k = ways_cover g proper n w may s f in
        at_option (IsOf g s) (child_at g n w) k.0 (options_at g n w) k.1 k.2

    module _ {L : Type 0} (P : Node → L → Type 0) where
      behind : (n : Node) (ns : List Node) (t : TreeNode L) (ts : List (TreeNode L))
          → IsUnder g P (below g (after_all g n t.steps) t.end ++ ns) ts s
          → IsUnder g P (n ∷ ns) (t ∷ ts) s
      behind n ns t ts u =
          record {
            place = suc u.place;
            node = u.node;
            what = u.what;
            stands = u.stands;
            passes =
                u.passes;
            in_family = u.in_family;
          }

      -- at a node that is reached, the end is a leaf that passes, or one of the children has the
      -- structure
      at_end : (n : Node) (ns : List Node) (t : TreeNode L) (ts : List (TreeNode L)) (e : End L)
          → t.end ≡ e → EndPasses g P (after_all g n t.steps) e ts
          → InFamily g (after_all g n t.steps).inside (after_all g n t.steps).outside s
          → (OneHolds (IsOf g s) (below g (after_all g n t.steps) t.end ++ ns)
          → IsUnder g P (below g (after_all g n t.steps) t.end ++ ns) ts s)
          → IsUnder g P (n ∷ ns) (t ∷ ts) s
      at_end n ns t ts (leaf l) q h f rest =
          record {
            place = zero;
            node = after_all g n t.steps;
            what = l;
            stands =
                (refl, q);
            passes = h;
            in_family = f;
          }
      at_end n ns t ts (branch w) q h f rest =
          behind n ns t ts
          (rest (left_one (IsOf g s) (below g (after_all g n t.steps) t.end) ns
          (subst (λ (v : End L). OneHolds (IsOf g s) (below g (after_all g n t.steps) v)) (sym q)
          (at_branch (after_all g n t.steps) w h.0 f))))

      pub covers : (ns : List Node) (ts : List (TreeNode L)) → Pass g P ns ts
          → OneHolds (IsOf g s) ns → IsUnder g P ns ts s
      covers [] ts p h = absurd h
      covers (n ∷ ns) [] p h = absurd p
      covers (n ∷ ns) (t ∷ ts) p (inr h) =
          behind n ns t ts
          (covers (below g (after_all g n t.steps) t.end ++ ns) ts p.2
          (right_one (IsOf g s) (below g (after_all g n t.steps) t.end) ns h))
      covers (n ∷ ns) (t ∷ ts) p (inl f) =
          at_end n ns t ts t.end refl p.1 (over_steps n t.steps p.0 f)
          (λ h. covers (below g (after_all g n t.steps) t.end ++ ns) ts p.2 h)
