-- Trees that pass, whole and partial.
use Rattle.std.proofs.Common.{◌≡◌, ℕ, zero, suc, true, false, List, [], ◌∷◌, ◌++◌, Option, refl}
use Rattle.tree_rules.specs.problem_rules.Problem.{Problem}
use Rattle.tree_rules.specs.pns_rules.Shape.{Shape}
use Rattle.tree_rules.specs.pns_rules.Nodes.{Node}
use Rattle.tree_rules.specs.Tree.{End, branch, leaf, TreeNode, after_all, below, Stands, EndPasses}
use Rattle.tree_rules.specs.Tree.{Pass}
use Rattle.tree_rules.specs.Claim.{network, Claim, infeasible, unknown, CostOver, ClaimPasses}
use Rattle.tree_rules.specs.Leaf.{Leaf, dead, clash, refuted, bounded, charged, untried, Scaled}
use Rattle.tree_rules.specs.Leaf.{LeafPasses}

-- a tree that passes by P passes by Q, if each of its leaves does
module _ {L : Type 0} (g : Shape) (P Q : Node → L → Type 0) where
  abbrev AlsoPass : List Node → List (TreeNode L) → Type 0
  AlsoPass ns ts = (k : ℕ) (n : Node) (l : L) → Stands g ns ts k n (leaf l) → P n l → Q n l

  end_too : (n : Node) (ts : List (TreeNode L)) (e : End L) → ((l : L) → e ≡ leaf l → P n l → Q n l)
      → EndPasses g P n e ts → EndPasses g Q n e ts
  end_too n ts (branch w) h p = p
  end_too n ts (leaf l) h p = h l refl p

  pub passes_too : (ns : List Node) (ts : List (TreeNode L)) → AlsoPass ns ts → Pass g P ns ts
      → Pass g Q ns ts
  passes_too [] [] h p = p
  passes_too [] (t ∷ ts) h p = p
  passes_too (n ∷ ns) [] h p = p
  passes_too (n ∷ ns) (t ∷ ts) h p = (
    p.0,
    end_too (after_all g n t.steps) ts t.end (λ l q. h zero (after_all g n t.steps) l (refl, q))
        p.1,
    passes_too (below g (after_all g n t.steps) t.end ++ ns) ts (λ k m l w. h (suc k) m l w) p.2,
  )

pub leaf_whole_partial : (p : Problem) (claimed : Option CostOver) (n : Node) (l : Leaf)
    → LeafPasses false p claimed n l → LeafPasses true p claimed n l
leaf_whole_partial p claimed n (dead x) h = h
leaf_whole_partial p claimed n (clash k) h = h
leaf_whole_partial p claimed n (refuted ys) h = h
leaf_whole_partial p claimed n (bounded d ys) h = h
leaf_whole_partial p claimed n (charged c) h = h
leaf_whole_partial p claimed n (untried low) h = (refl, h.1)

pub claim_whole_partial : (p : Problem) (claim : Claim) → ClaimPasses false p claim
    → ClaimPasses true p claim
claim_whole_partial p (network w) h = h
claim_whole_partial p infeasible h = h
claim_whole_partial p unknown h = refl

pub leaf_partial_whole : (p : Problem) (claimed : Option CostOver) (n : Node) (l : Leaf)
    → ((low : Option Scaled) → l ≡ untried low → ⊥) → LeafPasses true p claimed n l
    → LeafPasses false p claimed n l
leaf_partial_whole p claimed n (dead x) apart h = h
leaf_partial_whole p claimed n (clash k) apart h = h
leaf_partial_whole p claimed n (refuted ys) apart h = h
leaf_partial_whole p claimed n (bounded d ys) apart h = h
leaf_partial_whole p claimed n (charged c) apart h = h
leaf_partial_whole p claimed n (untried low) apart h = absurd (apart low refl)

pub claim_partial_whole : (p : Problem) (claim : Claim) → (claim ≡ unknown → ⊥)
    → ClaimPasses true p claim → ClaimPasses false p claim
claim_partial_whole p (network w) apart h = h
claim_partial_whole p infeasible apart h = h
claim_partial_whole p unknown apart h = absurd (apart refl)
