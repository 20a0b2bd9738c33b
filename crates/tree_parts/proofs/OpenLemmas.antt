-- The list of the open leaves, with their places; and the laws of grafts.
use Rattle.std.proofs.Common.{◌≡◌, ◌⊎◌, ℕ, zero, suc, ◌+◌, true, List, [], ◌∷◌, ◌++◌, refl, sym, ap}
use Rattle.std.proofs.Common.{subst, inl, inr, arith}
use Rattle.tree_text_laws.specs.pns_rules.Shape.{Shape, shape_of}
use Rattle.tree_text_laws.specs.pns_rules.Nodes.{Node}
use Rattle.tree_text_laws.specs.tree_rules.Tree.{End, branch, leaf, after_all, below, Pass}
use Rattle.tree_text_laws.specs.tree_rules.Claim.{claimed_cost}
use Rattle.tree_text_laws.specs.tree_rules.Leaf.{Leaf, dead, clash, refuted, bounded, charged}
use Rattle.tree_text_laws.specs.tree_rules.Leaf.{untried, LeafPasses}
use Rattle.tree_text_laws.specs.tree_rules.Accepted.{Tree}
use Rattle.cert_check.proofs.tree_laws.Cited.{passes_too}
use Rattle.tree_text_laws.specs.tree_text_rules.OpenLeaves.{OpenAt, open_here, open_leaves, IsAmong}
use Rattle.tree_text_laws.specs.tree_text_rules.OpenLeaves.{IsOpenEnd}
use Rattle.tree_text_laws.specs.tree_text_rules.OpenLeaves.{StandsOpen}
use Rattle.tree_text_laws.specs.tree_text_rules.Graft.{graft_at, claim_of_both}
use Rattle.tree_parts.specs.Laws.{OpenLeavesStand, GraftIsTree, GraftIsPartial}
use Rattle.tree_parts.proofs.ClaimLemmas.{IsBoth, both_claims}
use Rattle.tree_parts.proofs.GraftLemmas.{stands_open, tree-graft, passes-graft}

pub graft_is_tree : GraftIsTree
graft_is_tree g ns k n tree part s h q = tree-graft k tree part (stands_open g ns tree k n s) h q

pub graft_is_partial : GraftIsPartial
graft_is_partial p start n claim other tree part k is_tree is_part h q s =
    let whole : Tree = graft_at k tree part in
    let both : IsBoth p claim other (claim_of_both claim other whole) =
    both_claims p claim other whole h.claimed q.claimed in
    let P : Node → Leaf → Type 0 =
    LeafPasses true p (claimed_cost (claim_of_both claim other whole)) in
    let own : Pass (shape_of p) P (start ∷ []) tree =
    passes_too (shape_of p) (LeafPasses true p (claimed_cost claim)) P (start ∷ []) tree
    (λ j m l w r. both.own m l r) h.passes in
    let of_part : Pass (shape_of p) P (n ∷ []) part =
    passes_too (shape_of p) (LeafPasses true p (claimed_cost other)) P (n ∷ []) part
    (λ j m l w r. both.part m l r) q.passes in
    record {
      claimed = both.passes;
      passes =
          passes-graft (shape_of p) P (start ∷ []) tree part k n is_part own s of_part;
    }

-- ---- the list of the open leaves

among_both : (l : OpenAt) (xs ys : List OpenAt) → IsAmong l xs ⊎ IsAmong l ys → IsAmong l (xs ++ ys)
among_both l [] ys (inl h) = absurd h
among_both l [] ys (inr h) = h
among_both l (x ∷ xs) ys (inl (inl e)) = inl e
among_both l (x ∷ xs) ys (inl (inr h)) = inr (among_both l xs ys (inl h))
among_both l (x ∷ xs) ys (inr h) = inr (among_both l xs ys (inr h))

among_one : (l : OpenAt) (xs ys : List OpenAt) → IsAmong l (xs ++ ys) → IsAmong l xs ⊎ IsAmong l ys
among_one l [] ys h = inr h
among_one l (x ∷ xs) ys (inl e) = inl (inl e)
among_one l (x ∷ xs) ys (inr h) = elim (among_one l xs ys h) [ inl p ↦ inl (inr p) | inr q ↦ inr q ]

-- the node itself is open, with this number
here_only : (l : OpenAt) (k : ℕ) (m : Node) (e : End Leaf) → IsAmong l (open_here k m e)
    → (l.number ≡ k) × (m ≡ l.node) × IsOpenEnd e
here_only l k m (branch w) h = absurd h
here_only l k m (leaf (dead x)) h = absurd h
here_only l k m (leaf (clash x)) h = absurd h
here_only l k m (leaf (refuted ys)) h = absurd h
here_only l k m (leaf (bounded d ys)) h = absurd h
here_only l k m (leaf (charged c)) h = absurd h
here_only l k m (leaf (untried low)) (inl e) =
    (ap (λ (o : OpenAt). o.number) e, ap (λ (o : OpenAt). o.node) (sym e), (low, refl))
here_only l k m (leaf (untried low)) (inr h) = absurd h

here_also : (l : OpenAt) (k : ℕ) (m : Node) (e : End Leaf) → l.number ≡ k → m ≡ l.node → IsOpenEnd e
    → IsAmong l (open_here k m e)
here_also l k m e number node is =
    subst (λ (end : End Leaf). IsAmong l (open_here k m end)) (sym is.1)
    (inl (λ i. record { number = number i; node = sym node i }))

listed_stand : (g : Shape) (ns : List Node) (ts : Tree) (k : ℕ) (l : OpenAt)
    → IsAmong l (open_leaves g ns ts k) → (j : ℕ) × (l.number ≡ k + j) × StandsOpen g ns ts j l.node
listed_stand g [] ts k l h = absurd h
listed_stand g (n ∷ ns) [] k l h = absurd h
listed_stand g (n ∷ ns) (t ∷ ts) k l h =
    let m : Node = after_all g n t.steps in
    elim (among_one l (open_here k m t.end) (open_leaves g (below g m t.end ++ ns) ts (k + 1)) h) [
      | inl p ↦
          let o = here_only l k m t.end p in
          let same = o.0 in
          (zero, (let e : l.number ≡ k + 0 = omega arith in e), (o.2.0, (o.1, o.2.1)))
      | inr q ↦
          let s = listed_stand g (below g m t.end ++ ns) ts (k + 1) l q in
          let j : ℕ = s.0 in
          let same = s.1 in
          (suc s.0, (let e : l.number ≡ k + suc s.0 = omega arith in e), s.2)
    ]

pub stand_listed : (g : Shape) (ns : List Node) (ts : Tree) (k j : ℕ) (l : OpenAt)
    → l.number ≡ k + j → StandsOpen g ns ts j l.node → IsAmong l (open_leaves g ns ts k)
stand_listed g [] ts k j l e s = absurd s.1
stand_listed g (n ∷ ns) [] k j l e s = absurd s.1
stand_listed g (n ∷ ns) (t ∷ ts) k zero l e s =
    let m : Node = after_all g n t.steps in
    among_both l (open_here k m t.end) (open_leaves g (below g m t.end ++ ns) ts (k + 1))
    (inl (here_also l k m t.end (let q : l.number ≡ k = omega arith in q) s.1.0 (s.0, s.1.1)))
stand_listed g (n ∷ ns) (t ∷ ts) k (suc j) l e s =
    let m : Node = after_all g n t.steps in
    among_both l (open_here k m t.end) (open_leaves g (below g m t.end ++ ns) ts (k + 1))
    (inr (stand_listed g (below g m t.end ++ ns) ts (k + 1) j l (omega arith) s))

pub open_leaves_stand : OpenLeavesStand
open_leaves_stand g n tree l = (
  (λ h. let s = listed_stand g (n ∷ []) tree 0 l h in let same =
      s.1 in subst (λ (j : ℕ). StandsOpen g (n ∷ []) tree j l.node)
      (let e : s.0 ≡ l.number = omega arith in e) s.2),
  (λ s. stand_listed g (n ∷ []) tree 0 l.number l (omega arith) s),
)
