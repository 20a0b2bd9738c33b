-- A tree in which each node that is branched decides something has few nodes. The weight of each
-- node that is still to come is twice the number of sets of its free units.
use Rattle.std.proofs.Common.{◌≡◌, ℕ, zero, suc, ◌+◌, ◌*◌, ◌-◌, ◌^◌, ◌≤◌, List, [], ◌∷◌, ◌++◌, map}
use Rattle.std.proofs.Common.{length, refl, arith, length-append}
use Rattle.std.proofs.lemmas.List.{length-map}
use Rattle.std.proofs.lemmas.Nat.{pow-add, mul-le}
use Rattle.std.proofs.Math.Nat.{one-le-pow, pow-le-pow_right}
use Rattle.tree_rules.specs.pns_rules.Shape.{Shape}
use Rattle.tree_rules.specs.pns_rules.Nodes.{Node, Step, after}
use Rattle.tree_rules.specs.Ways.{Way, MayBranch, options_at, child_at, children_at, IsDecision}
use Rattle.tree_rules.specs.Tree.{End, branch, leaf, TreeNode, after_all, below, Stands, EndPasses}
use Rattle.tree_rules.specs.Tree.{Pass}
use Rattle.tree_laws.proofs.CountLemmas.{double, free_count, open_to, ways_at_most, ways_split}
use Rattle.tree_laws.proofs.CountLemmas.{step_count, way_count}

module _ (g : Shape) where
  abbrev pub weight_of : Node → ℕ
  weight_of n = 2 ^ suc (free_count g n)

  abbrev pub weight : List Node → ℕ
  weight [] = 0
  weight (n ∷ ns) = weight_of n + weight ns

  pub weight-append : (ns ms : List Node) → weight (ns ++ ms) ≡ weight ns + weight ms
  weight-append [] ms = omega arith
  weight-append (n ∷ ns) ms = let h = weight-append ns ms in omega arith

  pub steps_count : (n : Node) (ss : List Step) → free_count g (after_all g n ss) ≤ free_count g n
  steps_count n [] = omega arith
  steps_count n (t ∷ ts) =
      let h = steps_count (after g n t) ts in
      let k = step_count g n t in
      omega (arith, h, k)

  at_most_each : (f : List ℕ → Node) (ts : List (List ℕ)) (w : ℕ)
      → ((t : List ℕ) → weight_of (f t) ≤ w) → weight (map f ts) ≤ length ts * w
  at_most_each f [] w h = omega arith
  at_most_each f (t ∷ ts) w h =
      let a = h t in
      let b = at_most_each f ts w h in
      let c : suc (length ts) * w ≡ w + length ts * w = omega arith in
      omega (arith, a, b, c)

  -- the numbers of a branch: c children, k free makers, r units that stay free
  branch_weight : (c k r f sum : ℕ) → 2 ≤ c → c ≤ 2 ^ k → sum ≤ c * 2 ^ suc r → k + r ≤ f
      → 2 + sum ≤ 2 ^ suc f + c
  branch_weight c k r f sum two most each fits =
      let a : c * 2 ^ suc r ≤ 2 ^ k * 2 ^ suc r =
      mul-le c (2 ^ suc r) (2 ^ k) (2 ^ suc r) most (omega arith) in
      let b : 2 ^ (k + suc r) ≡ 2 ^ k * 2 ^ suc r = pow-add 2 k (suc r) in
      let d : 2 ^ (k + suc r) ≤ 2 ^ suc f = pow-le-pow_right (omega arith) (omega arith) in
      omega (arith, a, b, d, two, each)

  -- a node that is branched is branched so that there is something to decide
  abbrev pub MayEnd : {L : Type 0} → Node → End L → Type 0
  MayEnd n (branch w) = MayBranch g n w × IsDecision g n w
  MayEnd n (leaf l) = Unit {0}

  pub below_weight : {L : Type 0} (n : Node) (e : End L) → MayEnd n e
      → 2 + weight (below g n e) ≤ weight_of n + length (below g n e)
  below_weight n (leaf l) h =
      let a : 1 ≤ 2 ^ free_count g n = one-le-pow (free_count g n) 2 (omega arith) in
      let d : 2 ^ suc (free_count g n) ≡ 2 * 2 ^ free_count g n = double (free_count g n) in
      omega (arith, a, d)
  below_weight n (branch w) h =
      let count : length (children_at g n w) ≡ length (options_at g n w) =
      length-map (options_at g n w) (child_at g n w) in
      let kept : (t : List ℕ) → weight_of (child_at g n w t)
      ≤ 2 ^ suc (free_count g n - length (open_to g n w))
      = λ t. let k = way_count g n w t in pow-le-pow_right (omega arith) (omega (arith, k)) in
      let fits : length (open_to g n w) ≤ free_count g n = let k =
      way_count g n w [] in omega (arith, k) in
      let all =
      at_most_each (child_at g n w) (options_at g n w)
      (2 ^ suc (free_count g n - length (open_to g n w))) kept in
      let sum =
      branch_weight (length (options_at g n w)) (length (open_to g n w))
      (free_count g n - length (open_to g n w)) (free_count g n) (weight (children_at g n w))
      (ways_split g n w h.1) (ways_at_most g n w h.0) all (omega (arith, fits)) in
      omega (arith, sum, count)

  module _ {L : Type 0} (P : Node → L → Type 0) where
    abbrev pub Splits : List Node → List (TreeNode L) → Type 0
    Splits ns ts = (k : ℕ) (w : Way) (n : Node) → Stands g ns ts k n (branch w) → IsDecision g n w

    pub may_end : (n : Node) (e : End L) (behind : List (TreeNode L)) → EndPasses g P n e behind
        → ((w : Way) → e ≡ branch w → IsDecision g n w) → MayEnd n e
    may_end n (branch w) behind p h = (p.0, h w refl)
    may_end n (leaf l) behind p h = tt

    pub few : (ns : List Node) (ts : List (TreeNode L)) → Pass g P ns ts → Splits ns ts
        → length ts + length ns ≤ weight ns
    few [] [] p h = omega arith
    few [] (t ∷ ts) p h = absurd p
    few (n ∷ ns) [] p h = absurd p
    few (n ∷ ns) (t ∷ ts) p h =
        let m : Node = after_all g n t.steps in
        let rest = few (below g m t.end ++ ns) ts p.2 (λ k w o s. h (suc k) w o s) in
        let here = below_weight m t.end (may_end m t.end ts p.1 (λ w e. h zero w m (refl, e))) in
        let grown : weight_of m ≤ weight_of n = let k =
        steps_count n t.steps in pow-le-pow_right (omega arith) (omega (arith, k)) in
        let a = length-append (below g m t.end) ns in
        let b = weight-append (below g m t.end) ns in
        omega (arith, rest, here, grown, a, b)
