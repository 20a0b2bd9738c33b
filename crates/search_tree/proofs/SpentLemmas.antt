-- The nodes of a lean tree, with the children that an open leaf may have, are few.
use Rattle.std.proofs.Common.{◌≡◌, ℕ, zero, suc, ◌+◌, ◌*◌, ◌^◌, ◌<◌, ◌≤◌, Bool, false, List, []}
use Rattle.std.proofs.Common.{◌∷◌, ◌++◌, length, Option, refl, sym, subst, arith, length-append}
use Rattle.std.proofs.lemmas.List.{length-map}
use Rattle.std.proofs.Math.Nat.{one-le-pow, pow-le-pow_right}
use Rattle.tree_laws.specs.number_sets.Sets.{listed}
use Rattle.tree_laws.specs.problem_rules.Problem.{Problem}
use Rattle.tree_laws.specs.pns_rules.Shape.{Shape, IsProper, shape_of}
use Rattle.tree_laws.specs.pns_rules.Structure.{IsUnion}
use Rattle.tree_laws.specs.pns_rules.Nodes.{Node, is_free, options}
use Rattle.tree_laws.specs.pns_rules.Ends.{IsSound, IsReduced, IsUndecided}
use Rattle.tree_laws.specs.tree_rules.Ways.{Way, at_material, MayBranch, options_at, child_at}
use Rattle.tree_laws.specs.tree_rules.Ways.{children_at}
use Rattle.tree_laws.specs.tree_rules.Ways.{IsDecision}
use Rattle.tree_laws.specs.tree_rules.Tree.{End, branch, leaf, TreeNode, after_all, below, Stands}
use Rattle.tree_laws.specs.tree_rules.Tree.{Pass}
use Rattle.tree_laws.specs.tree_rules.Claim.{Claim, claimed_cost}
use Rattle.tree_laws.specs.tree_rules.Leaf.{Leaf, untried, Scaled, IsUntried, LeafPasses}
use Rattle.tree_laws.specs.tree_rules.Lean.{IsLean}
use Rattle.tree_laws.specs.tree_rules.Accepted.{Tree, Proves}
use Rattle.tree_laws.proofs.Cited.{length-listed, double, free_count, weight, weight_of}
use Rattle.tree_laws.proofs.Cited.{weight-append, steps_count, below_weight, Splits, may_end, few}
use Rattle.search_tree.proofs.NumberLemmas.{decisions_split}
use Rattle.search_tree.proofs.ReducedLemmas.{free_units_are_few}

module _ (g : Shape) where
  -- each node weighs two or more
  weighs_two : (ns : List Node) → 2 * length ns ≤ weight g ns
  weighs_two [] = omega arith
  weighs_two (n ∷ ns) =
      let a : 1 ≤ 2 ^ free_count g n = one-le-pow (free_count g n) 2 (omega arith) in
      let d : 2 ^ suc (free_count g n) ≡ 2 * 2 ^ free_count g n = double (free_count g n) in
      let h = weighs_two ns in
      omega (arith, a, d, h)

  -- a leaf at which there is something to decide weighs more than its children
  leaf_weight : (n : Node) (w : Way) → MayBranch g n w → IsDecision g n w
      → 2 + length (options_at g n w) ≤ weight_of g n
  leaf_weight n w may d =
      let e : End Leaf = branch w in
      let a : 2 + weight g (children_at g n w) ≤ weight_of g n + length (children_at g n w) =
      below_weight g n e (may, d) in
      let b = weighs_two (children_at g n w) in
      let c : length (children_at g n w) ≡ length (options_at g n w) =
      length-map (options_at g n w) (child_at g n w) in
      omega (arith, a, b, c)

  module _ {L : Type 0} (P : Node → L → Type 0) where
    pub few_with_options : (ns : List Node) (ts : List (TreeNode L)) → Pass g P ns ts
        → Splits g P ns ts → (k : ℕ) (m : Node) (l : L) → Stands g ns ts k m (leaf l)
        → (w : Way) → MayBranch g m w → IsDecision g m w
        → length ts + length ns + length (options_at g m w) ≤ weight g ns
    few_with_options [] ts p h k m l s w may d = absurd s
    few_with_options (n ∷ ns) [] p h k m l s w may d = absurd s
    few_with_options (n ∷ ns) (t ∷ ts) p h zero m l s w may d =
        let rest =
        few g P (below g (after_all g n t.steps) t.end ++ ns) ts p.2
        (λ k v o q. h (suc k) v o q) in
        let plain : length ts + length ns ≤ weight g ns =
        subst
        (λ (e : End L). length ts + length (below g (after_all g n t.steps) e ++ ns)
        ≤ weight g (below g (after_all g n t.steps) e ++ ns)) s.1 rest in
        let here = leaf_weight m w may d in
        let grown : weight_of g m ≤ weight_of g n
        = subst (λ (o : Node). weight_of g o ≤ weight_of g n) s.0
        (let q = steps_count g n t.steps in
        pow-le-pow_right (omega arith) (omega (arith, q))) in
        omega (arith, plain, here, grown)
    few_with_options (n ∷ ns) (t ∷ ts) p h (suc k) m l s w may d =
        let o : Node = after_all g n t.steps in
        let rest =
        few_with_options (below g o t.end ++ ns) ts p.2 (λ j v i q. h (suc j) v i q) k m l s w
        may d in
        let here =
        below_weight g o t.end (may_end g P o t.end ts p.1 (λ v e. h zero v o (refl, e))) in
        let grown : weight_of g o ≤ weight_of g n = let q =
        steps_count g n t.steps in pow-le-pow_right (omega arith) (omega (arith, q)) in
        let a = length-append (below g o t.end) ns in
        let b = weight-append g (below g o t.end) ns in
        omega (arith, rest, here, grown, a, b)

-- ---- the tree without the steps of its root, from the node to which they lead
abbrev bare : TreeNode Leaf → TreeNode Leaf
bare t = record { option = t.option; steps = []; end = t.end }

stands_bare : (g : Shape) (start : Node) (t : TreeNode Leaf) (ts : List (TreeNode Leaf)) (k : ℕ)
    (n : Node) (e : End Leaf) → Stands g (start ∷ []) (t ∷ ts) k n e
    → Stands g (after_all g start t.steps ∷ []) (bare t ∷ ts) k n e
stands_bare g start t ts zero n e h = h
stands_bare g start t ts (suc k) n e h = h

from_bare : (g : Shape) (start : Node) (t : TreeNode Leaf) (ts : List (TreeNode Leaf)) (k : ℕ)
    (n : Node) (e : End Leaf) → Stands g (after_all g start t.steps ∷ []) (bare t ∷ ts) k n e
    → Stands g (start ∷ []) (t ∷ ts) k n e
from_bare g start t ts zero n e h = h
from_bare g start t ts (suc k) n e h = h

module _ (p : Problem) (proper : IsProper (shape_of p)) (partial : Bool) (start : Node)
    (claim : Claim) (all : ℕ → Bool) (union : IsUnion (shape_of p) (λ u. false) all) where
  -- free units of a reduced node in the weight of the root
  at_most : (root : Node) → IsSound (shape_of p) root → IsReduced (shape_of p) root
      → 2 ^ suc (free_count (shape_of p) root) ≤ 2 ^ suc (length (listed (shape_of p).units all))
  at_most root sound reduced =
      let a = free_units_are_few (shape_of p) root proper sound reduced all union in
      let b : length (listed (shape_of p).units (is_free (shape_of p) root))
      ≡ free_count (shape_of p) root =
      length-listed (shape_of p).units (is_free (shape_of p) root) in
      pow-le-pow_right (omega arith) (omega (arith, a, b))

  module _ (t : TreeNode Leaf) (ts : List (TreeNode Leaf))
      (proves : Proves partial p start claim (t ∷ ts))
      (lean : IsLean p IsUntried (claimed_cost claim) start (t ∷ ts))
      (sound : IsSound (shape_of p) (after_all (shape_of p) start t.steps)) where
    abbrev root : Node
    root = after_all (shape_of p) start t.steps

    splits : Splits (shape_of p) (LeafPasses partial p (claimed_cost claim)) (root ∷ [])
        (bare t ∷ ts)
    splits k w o s = lean.splits k w o (from_bare (shape_of p) start t ts k o (branch w) s)

    -- a tree without a branch at its root is its root
    alone : (l : Leaf) → t.end ≡ leaf l → ts ≡ []
    alone l e =
        at ts
        (subst
        (λ (w : End Leaf). Pass (shape_of p) (LeafPasses partial p (claimed_cost claim))
        (below (shape_of p) root w ++ []) ts) e proves.passes.2)
      where
        at : (us : List (TreeNode Leaf))
            → Pass (shape_of p) (LeafPasses partial p (claimed_cost claim)) [] us → us ≡ []
        at [] h = refl
        at (u ∷ us) h = absurd h

    reduced_at : (w : Way) → t.end ≡ branch w → IsReduced (shape_of p) root
    reduced_at w e = lean.reduced zero w root (refl, e)

    is_few : (e : End Leaf) → t.end ≡ e
        → suc (length ts) < 2 ^ suc (length (listed (shape_of p).units all))
    is_few (leaf l) e =
        let none : length ts ≡ 0 =
        subst (λ (us : List (TreeNode Leaf)). length us ≡ 0) (sym (alone l e)) refl in
        let d : 2 ^ suc (length (listed (shape_of p).units all)) ≡ 2
        * 2 ^ length (listed (shape_of p).units all) =
        double (length (listed (shape_of p).units all)) in
        let one : 1 ≤ 2 ^ length (listed (shape_of p).units all) =
        one-le-pow (length (listed (shape_of p).units all)) 2 (omega arith) in
        omega (arith, none, d, one)
    is_few (branch w) e =
        let small : suc (length ts) + 1 ≤ 2 ^ suc (free_count (shape_of p) root) + 0
        = few (shape_of p) (LeafPasses partial p (claimed_cost claim)) (root ∷ []) (bare t ∷ ts)
        (tt, proves.passes.1, proves.passes.2) splits in
        let most = at_most root sound (reduced_at w e) in
        omega (arith, small, most)

    -- the root is reduced, or it is the leaf at which a material is to decide
    root_reduced : (k : ℕ) (n : Node) (low : Option Scaled)
        → Stands (shape_of p) (start ∷ []) (t ∷ ts) k n (leaf (untried low))
        → IsReduced (shape_of p) n → (e : End Leaf) → t.end ≡ e → IsReduced (shape_of p) root
    root_reduced k n low s r (branch w) e = reduced_at w e
    root_reduced zero n low s r (leaf l) e =
        subst (λ (w : Node). IsReduced (shape_of p) w) (sym s.0) r
    root_reduced (suc k) n low s r (leaf l) e =
        absurd (at (below (shape_of p) root t.end ++ []) ts (alone l e) s)
      where
        at : (ns : List Node) (us : List (TreeNode Leaf)) → us ≡ []
            → Stands (shape_of p) ns us k n (leaf (untried low)) → ⊥
        at [] us q h = absurd h
        at (m ∷ ms) [] q h = absurd h
        at (m ∷ ms) (u ∷ us) q h = cc

    is_not_spent : (k : ℕ) (n : Node) (low : Option Scaled)
        → Stands (shape_of p) (start ∷ []) (t ∷ ts) k n (leaf (untried low))
        → IsReduced (shape_of p) n
        → (w : Way) → MayBranch (shape_of p) n w → IsDecision (shape_of p) n w
        → suc (length ts) + length (options_at (shape_of p) n w)
        < 2 ^ suc (length (listed (shape_of p).units all))
    is_not_spent k n low s r w may d =
        let small : suc (length ts) + 1 + length (options_at (shape_of p) n w)
        ≤ 2 ^ suc (free_count (shape_of p) root) + 0
        = few_with_options (shape_of p) (LeafPasses partial p (claimed_cost claim)) (root ∷ [])
        (bare t ∷ ts) (tt, proves.passes.1, proves.passes.2) splits k n (untried low)
        (stands_bare (shape_of p) start t ts k n (leaf (untried low)) s) w may d in
        let most = at_most root sound (root_reduced k n low s r t.end refl) in
        omega (arith, small, most)

  pub lean_is_few : (tree : Tree) → Proves partial p start claim tree
      → IsLean p IsUntried (claimed_cost claim) start tree
      → (root : Node) (e : End Leaf) → Stands (shape_of p) (start ∷ []) tree 0 root e
      → IsSound (shape_of p) root
      → length tree < 2 ^ suc (length (listed (shape_of p).units all))
  lean_is_few [] a lean top e s sound = absurd s
  lean_is_few (t ∷ ts) a lean top e s sound =
      is_few t ts a lean (subst (λ (w : Node). IsSound (shape_of p) w) (sym s.0) sound) t.end refl

  pub never_spent : (tree : Tree) → Proves partial p start claim tree
      → IsLean p IsUntried (claimed_cost claim) start tree
      → (root : Node) (e : End Leaf) → Stands (shape_of p) (start ∷ []) tree 0 root e
      → IsSound (shape_of p) root
      → (k : ℕ) (n : Node) (low : Option Scaled)
      → Stands (shape_of p) (start ∷ []) tree k n (leaf (untried low))
      → IsReduced (shape_of p) n
      → (w : Way) → MayBranch (shape_of p) n w → IsDecision (shape_of p) n w
      → length tree + length (options_at (shape_of p) n w)
      < 2 ^ suc (length (listed (shape_of p).units all))
  never_spent [] a lean top e s sound k n low h r w may d = absurd s
  never_spent (t ∷ ts) a lean top e s sound k n low h r w may d =
      is_not_spent t ts a lean (subst (λ (o : Node). IsSound (shape_of p) o) (sym s.0) sound) k n
      low h r w may d

  -- the same of a material that is still to decide
  pub spent_is_never : (tree : Tree) → Proves partial p start claim tree
      → IsLean p IsUntried (claimed_cost claim) start tree
      → (root : Node) (e : End Leaf) → Stands (shape_of p) (start ∷ []) tree 0 root e
      → IsSound (shape_of p) root
      → (k : ℕ) (n : Node) (low : Option Scaled)
      → Stands (shape_of p) (start ∷ []) tree k n (leaf (untried low))
      → IsReduced (shape_of p) n → (x : ℕ) → IsUndecided (shape_of p) n x
      → length tree + length (options (shape_of p) n x)
      < 2 ^ suc (length (listed (shape_of p).units all))
  spent_is_never tree a lean root e s sound k n low h r x undecided =
      never_spent tree a lean root e s sound k n low h r (at_material x 0) undecided.needed
      (decisions_split (shape_of p) n x r undecided)
