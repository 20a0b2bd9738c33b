-- The laws of trees that pass, for the trees of a problem.
use Rattle.std.proofs.Common.{◌≡◌, ◌⊎◌, ℕ, zero, suc, ◌+◌, ◌^◌, ◌<◌, ◌≤◌, Bool, true, false, List}
use Rattle.std.proofs.Common.{[], ◌∷◌, length, Option, subst, inl, inr, arith}
use Rattle.tree_rules.specs.number_sets.Sets.{Avoids}
use Rattle.tree_rules.specs.problem_rules.Problem.{Problem}
use Rattle.tree_rules.specs.problem_rules.Validity.{IsValid}
use Rattle.tree_rules.specs.pns_rules.Shape.{Shape, shape_of}
use Rattle.tree_rules.specs.pns_rules.Structure.{IsStructure, IsAllowed, InFamily}
use Rattle.tree_rules.specs.pns_rules.Nodes.{Node, is_free}
use Rattle.tree_rules.proofs.pns_rules.Cited.{proper_if_valid}
use Rattle.tree_rules.specs.Tree.{End, branch, leaf, TreeNode, after_all, Stands}
use Rattle.tree_rules.specs.Claim.{Claim, claimed_cost}
use Rattle.tree_rules.specs.Leaf.{Leaf, untried, Scaled, LeafPasses}
use Rattle.tree_rules.specs.Accepted.{Tree, first_node, Proves}
use Rattle.tree_rules.specs.Costs.{CostsEnough}
use Rattle.tree_laws.specs.Laws.{AcceptedIsLeast, AcceptedIsOptimal, IsAtLeaf, LeavesCover}
use Rattle.tree_laws.specs.Laws.{PartialIsLeast, LeavesAreApart, LeavesAreDifferent, free_units}
use Rattle.tree_laws.specs.Laws.{LeanIsSmall, AcceptedIsPartial, PartialIsAccepted}
use Rattle.tree_laws.proofs.CoverLemmas.{IsOf, IsUnder, covers}
use Rattle.tree_laws.proofs.UpLemmas.{structure_goes_up, IsOver, over_goes_up}
use Rattle.tree_laws.proofs.SidesLemmas.{stands_apart}
use Rattle.tree_laws.proofs.CountLemmas.{free_count, length-listed}
use Rattle.tree_laws.proofs.FewLemmas.{few}
use Rattle.tree_laws.proofs.LeafLemmas.{scale_of, leaf_holds}
use Rattle.tree_laws.proofs.OpenLemmas.{passes_too, leaf_whole_partial, claim_whole_partial}
use Rattle.tree_laws.proofs.OpenLemmas.{leaf_partial_whole, claim_partial_whole}
use Rattle.tree_laws.proofs.ApartLemmas.{leaves_apart}

pub leaves_cover : LeavesCover
leaves_cover partial p valid start claim tree a s f =
    let u : IsUnder (shape_of p) (LeafPasses partial p (claimed_cost claim)) (start ∷ []) tree s
    = covers (shape_of p) s (proper_if_valid p valid) (LeafPasses partial p (claimed_cost claim))
    (start ∷ []) tree a.passes (inl f) in
    record {
      place = u.place;
      node = u.node;
      what = u.what;
      stands = u.stands;
      passes =
          u.passes;
      in_family = u.in_family;
    }

-- what the leaf of a structure says of it
pub at_leaf : (partial : Bool) (p : Problem) → IsValid p
    → (start : Node) (claim : Claim) (tree : Tree) → Proves partial p start claim tree
    → (s : ℕ → Bool) (l : IsAtLeaf partial p start claim tree s)
    → (((low : Option Scaled) × (l.what ≡ untried low)) × (partial ≡ true))
    ⊎ CostsEnough p (claimed_cost claim) s
at_leaf partial p valid start claim tree a s l =
    leaf_holds p valid partial (claimed_cost claim) (scale_of partial p claim a.claimed) l.node
    l.what l.passes s l.in_family

pub accepted_is_least : AcceptedIsLeast
accepted_is_least p valid start claim tree a s f =
    elim
    (at_leaf false p valid start claim tree a s
    (leaves_cover false p valid start claim tree a s f)) [
      | inl e ↦ absurd (let no : false ≡ true = e.1 in cc)
      | inr h ↦ h
    ]

pub in_first : (p : Problem) (s : ℕ → Bool) → IsStructure (shape_of p) s → IsAllowed (shape_of p) s
    → InFamily (shape_of p) first_node.inside first_node.outside s
in_first p s meets allowed = record {
  between = record { meets = meets; contains = λ u e. absurd cc; avoids = λ u e o. absurd cc };
  allowed = allowed;
}

pub accepted_is_optimal : AcceptedIsOptimal
accepted_is_optimal p valid claim tree a s meets allowed =
    accepted_is_least p valid first_node claim tree a s (in_first p s meets allowed)

pub partial_is_least : PartialIsLeast
partial_is_least p valid start claim tree a s f =
    let l : IsAtLeaf true p start claim tree s = leaves_cover true p valid start claim tree a s f in
    elim (at_leaf true p valid start claim tree a s l) [
      | inl e ↦ inl (record {
        place = l.place;
        node = l.node;
        low = e.0.0;
        stands =
            subst (λ (w : Leaf). Stands (shape_of p) (start ∷ []) tree l.place l.node (leaf w))
            e.0.1 l.stands;
        in_family = l.in_family;
      })
      | inr h ↦ inr h
    ]

pub leaves_are_apart : LeavesAreApart
leaves_are_apart partial p valid start claim tree a s j k m n b d h f i e =
    leaves_apart (shape_of p) (IsOf (shape_of p) s)
    (structure_goes_up (shape_of p) (proper_if_valid p valid) s)
    (LeafPasses partial p (claimed_cost claim)) (start ∷ []) tree j k m n b d a.passes
    ((λ g none. none), tt) h f i e

pub leaves_are_different : LeavesAreDifferent
leaves_are_different partial p valid start claim tree sides a j k n b d h i =
    let apart : Avoids n.inside n.outside
    = stands_apart (shape_of p) (proper_if_valid p valid)
    (LeafPasses partial p (claimed_cost claim)) (start ∷ []) tree j n (leaf b) a.passes
    (sides, tt) h in
    let itself : IsOver n n = record { inside = λ u e. e; outside = λ u e. e } in
    leaves_apart (shape_of p) (IsOver n)
    (over_goes_up (shape_of p) (proper_if_valid p valid) n apart)
    (LeafPasses partial p (claimed_cost claim)) (start ∷ []) tree j k n n b d a.passes
    ((λ g none. none), tt) h itself i itself

pub accepted_is_partial : AcceptedIsPartial
accepted_is_partial p start claim tree a = record {
  claimed = claim_whole_partial p claim a.claimed;
  passes =
      passes_too (shape_of p) (LeafPasses false p (claimed_cost claim))
      (LeafPasses true p (claimed_cost claim)) (start ∷ []) tree
      (λ k n l w h. leaf_whole_partial p (claimed_cost claim) n l h) a.passes;
}

pub partial_is_accepted : PartialIsAccepted
partial_is_accepted p start claim tree a apart closed = record {
  claimed = claim_partial_whole p claim apart a.claimed;
  passes =
      passes_too (shape_of p) (LeafPasses true p (claimed_cost claim))
      (LeafPasses false p (claimed_cost claim)) (start ∷ []) tree
      (λ k n l w h. leaf_partial_whole p (claimed_cost claim) n l
      (λ low e. closed k n low
      (subst (λ (v : Leaf). Stands (shape_of p) (start ∷ []) tree k n (leaf v)) e w)) h)
      a.passes;
}

-- ---- lean trees

-- the tree without the steps of its root, from where they lead
abbrev bare : TreeNode Leaf → TreeNode Leaf
bare t = record { option = t.option; steps = []; end = t.end }

stands_there : (g : Shape) (start : Node) (t : TreeNode Leaf) (ts : List (TreeNode Leaf)) (k : ℕ)
    (n : Node) (e : End Leaf) → Stands g (after_all g start t.steps ∷ []) (bare t ∷ ts) k n e
    → Stands g (start ∷ []) (t ∷ ts) k n e
stands_there g start t ts zero n e h = h
stands_there g start t ts (suc k) n e h = h

pub lean_is_small : LeanIsSmall
lean_is_small partial p start claim [] a lean n e h = absurd h
lean_is_small partial p start claim (t ∷ ts) a lean n e h =
    let m : Node = after_all (shape_of p) start t.steps in
    let small : suc (length ts) + 1 ≤ 2 ^ suc (free_count (shape_of p) m) + 0
    = few (shape_of p) (LeafPasses partial p (claimed_cost claim)) (m ∷ []) (bare t ∷ ts)
    (tt, a.passes.1, a.passes.2)
    (λ k w o s. lean.splits k w o (stands_there (shape_of p) start t ts k o (branch w) s)) in
    let same : free_units (shape_of p) m ≡ free_count (shape_of p) m =
    length-listed (shape_of p).units (is_free (shape_of p) m) in
    let here : suc (length ts) < 2 ^ suc (free_units (shape_of p) m) =
    rw same (let less : suc (length ts) < 2 ^ suc (free_count (shape_of p) m) =
    omega (arith, small) in less) in
    subst (λ (w : Node). suc (length ts) < 2 ^ suc (free_units (shape_of p) w)) h.0 here
