-- A tree in which each branch is reduced and decides something has few nodes, also with the
-- children that an open leaf may have.
use Rattle.std.proofs.Common.{◌≡◌, ℕ, zero, suc, ◌+◌, ◌^◌, ◌<◌, ◌≤◌, Bool, false, List, [], ◌∷◌}
use Rattle.std.proofs.Common.{◌++◌, length, refl, sym, subst, arith}
use Rattle.std.proofs.Math.Nat.{pow-le-pow_right}
use Rattle.rank_check.specs.number_sets.Sets.{listed}
use Rattle.rank_check.specs.pns_rules.Shape.{Shape, IsProper}
use Rattle.rank_check.specs.pns_rules.Structure.{IsUnion}
use Rattle.rank_check.specs.pns_rules.Nodes.{Node, is_free}
use Rattle.rank_check.specs.pns_rules.Ends.{IsSound, IsReduced}
use Rattle.rank_check.specs.tree_rules.Ways.{Way, MayBranch, options_at, IsDecision}
use Rattle.rank_check.specs.tree_rules.Tree.{End, branch, leaf, TreeNode, after_all, below, Stands}
use Rattle.rank_check.specs.tree_rules.Tree.{Pass}
use Rattle.rank_check.proofs.tree_laws.Cited.{length-listed, free_count}
use Rattle.abb_search.proofs.search_tree.Cited.{free_units_are_few, few_with_options}

module _ (g : Shape) (proper : IsProper g) (all : ℕ → Bool) (union : IsUnion g (λ u. false) all)
    {L : Type 0} (P : Node → L → Type 0) (start : Node) where
  module _ (t : TreeNode L) (ts : List (TreeNode L)) (pass : Pass g P (start ∷ []) (t ∷ ts))
      (reduced : (k : ℕ) (w : Way) (n : Node) → Stands g (start ∷ []) (t ∷ ts) k n (branch w)
      → IsReduced g n)
      (splits : (k : ℕ) (w : Way) (n : Node) → Stands g (start ∷ []) (t ∷ ts) k n (branch w)
      → IsDecision g n w) where
    abbrev root : Node
    root = after_all g start t.steps

    -- the node without its steps, from the node to which they lead
    abbrev bare : TreeNode L
    bare = record { option = t.option; steps = []; end = t.end }

    stands_bare : (k : ℕ) (n : Node) (e : End L) → Stands g (start ∷ []) (t ∷ ts) k n e
        → Stands g (root ∷ []) (bare ∷ ts) k n e
    stands_bare zero n e h = h
    stands_bare (suc k) n e h = h

    from_bare : (k : ℕ) (n : Node) (e : End L) → Stands g (root ∷ []) (bare ∷ ts) k n e
        → Stands g (start ∷ []) (t ∷ ts) k n e
    from_bare zero n e h = h
    from_bare (suc k) n e h = h

    -- the root is reduced if it is branched, and so is the leaf
    root_reduced : (k : ℕ) (n : Node) (l : L) → Stands g (start ∷ []) (t ∷ ts) k n (leaf l)
        → IsReduced g n → (e : End L) → t.end ≡ e → IsReduced g root
    root_reduced k n l s r (branch w) e = reduced zero w root (refl, e)
    root_reduced zero n l s r (leaf m) e = subst (λ (o : Node). IsReduced g o) (sym s.0) r
    root_reduced (suc k) n l s r (leaf m) e =
        absurd (subst (λ (v : End L). Stands g (below g root v ++ []) ts k n (leaf l)) e s)

    is_few : IsSound g root → (k : ℕ) (n : Node) (l : L)
        → Stands g (start ∷ []) (t ∷ ts) k n (leaf l) → IsReduced g n
        → (w : Way) → MayBranch g n w → IsDecision g n w
        → suc (length ts) + length (options_at g n w) < 2 ^ suc (length (listed g.units all))
    is_few sound k n l s r w may d =
        let small : suc (length ts) + 1 + length (options_at g n w) ≤ 2 ^ suc (free_count g root)
        + 0
        = few_with_options g P (root ∷ []) (bare ∷ ts) (tt, pass.1, pass.2)
        (λ j v o q. splits j v o (from_bare j o (branch v) q)) k n l
        (stands_bare k n (leaf l) s) w may d in
        let a =
        free_units_are_few g root proper sound (root_reduced k n l s r t.end refl) all union in
        let b : length (listed g.units (is_free g root)) ≡ free_count g root =
        length-listed g.units (is_free g root) in
        let most : 2 ^ suc (free_count g root) ≤ 2 ^ suc (length (listed g.units all)) =
        pow-le-pow_right (omega arith) (omega (arith, a, b)) in
        omega (arith, small, most)

  pub few_with_next : (tree : List (TreeNode L)) → Pass g P (start ∷ []) tree
      → ((k : ℕ) (w : Way) (n : Node) → Stands g (start ∷ []) tree k n (branch w) → IsReduced g n)
      → ((k : ℕ) (w : Way) (n : Node) → Stands g (start ∷ []) tree k n (branch w)
      → IsDecision g n w)
      → (top : Node) (e : End L) → Stands g (start ∷ []) tree 0 top e → IsSound g top
      → (k : ℕ) (n : Node) (l : L) → Stands g (start ∷ []) tree k n (leaf l) → IsReduced g n
      → (w : Way) → MayBranch g n w → IsDecision g n w
      → length tree + length (options_at g n w) < 2 ^ suc (length (listed g.units all))
  few_with_next [] pass reduced splits top e s sound k n l h r w may d = absurd s
  few_with_next (t ∷ ts) pass reduced splits top e s sound k n l h r w may d =
      is_few t ts pass reduced splits (subst (λ (o : Node). IsSound g o) (sym s.0) sound) k n l h r
      w may d
