-- What a head rules out costs no less than what is claimed, and so does what its tree rules out.
use Rattle.std.proofs.Common.{◌≡◌, ◌⊎◌, ℕ, ℤ, ◌*ℤ◌, Bool, true, false, List, [], ◌∷◌}
use Rattle.std.proofs.Common.{Option, Some, None, refl, subst, inl, inr, arith}
use Rattle.std.proofs.lemmas.Int.{ints, by_lt_z}
use Rattle.tree_rules.specs.problem_rules.Problem.{Problem}
use Rattle.tree_rules.specs.problem_rules.Validity.{IsValid}
use Rattle.tree_rules.specs.pns_rules.Shape.{shape_of}
use Rattle.tree_rules.specs.pns_rules.Structure.{IsStructure, IsAllowed, InFamily}
use Rattle.tree_rules.specs.pns_rules.Nodes.{Node}
use Rattle.tree_rules.proofs.pns_rules.Cited.{proper_if_valid}
use Rattle.tree_rules.specs.flow_rules.Net.{net_of}
use Rattle.tree_rules.specs.flow_rules.Flows.{IsFlows, cost}
use Rattle.tree_rules.specs.flow_rules.ChargeFacts.{Facts, AreFacts}
use Rattle.tree_rules.specs.Tree.{leaf, Stands}
use Rattle.tree_rules.specs.Claim.{network, Claim, infeasible, unknown, CostOver, IsAtLeast}
use Rattle.tree_rules.specs.Claim.{claimed_cost, ClaimPasses}
use Rattle.tree_rules.specs.Leaf.{Leaf, dead, clash, refuted, bounded, charged, untried, Scaled}
use Rattle.tree_rules.specs.Costs.{CostsEnough}
use Rattle.tree_rules.specs.Accepted.{Tree, first_node}
use Rattle.tree_laws.specs.Laws.{IsStillOpen}
use Rattle.tree_laws.proofs.CoverLemmas.{IsUnder, covers}
use Rattle.tree_laws.proofs.LeafLemmas.{HasScale, scale_of, leaf_holds}
use Rattle.tree_laws.proofs.OpenLemmas.{passes_too, claim_whole_partial}
use Rattle.tree_laws.proofs.OpenLemmas.{claim_partial_whole}
use Rattle.tree_laws.proofs.AcceptedLemmas.{in_first}
use Rattle.tree_rules.specs.Head.{HeadLine}
use Rattle.tree_rules.specs.Headed.{head_known, head_node, head_facts, LeafPassesBy, HeadPasses}
use Rattle.tree_rules.specs.Headed.{ProvesBy}
use Rattle.tree_rules.specs.Keeps.{IsBelow, Undercuts, MayFit, Keeps}
use Rattle.tree_rules.specs.HeadLaws.{IsCost}
use Rattle.tree_rules.proofs.Cited.{charged_is_empty, head_keeps, head_has_facts}
use Rattle.tree_laws.specs.HeadLaws.{AcceptedByIsLeast, AcceptedByIsOptimal, AcceptedByHasFlows}
use Rattle.tree_laws.specs.HeadLaws.{PartialByIsLeast, PartialByIsLeastOfAll, AcceptedByIsPartialBy}
use Rattle.tree_laws.specs.HeadLaws.{PartialByIsAcceptedBy}

cost_of_claim : (partial : Bool) (p : Problem) (claim : Claim) → ClaimPasses partial p claim
    → IsCost (claimed_cost claim)
cost_of_claim partial p (network w) c = c.flows.positive
cost_of_claim partial p infeasible c = tt
cost_of_claim partial p unknown c = tt

-- ---- flows cost less than what is claimed, or no less

under_or : (p : Problem) (claimed : Option CostOver) (s : ℕ → Bool) (z : ℕ → ℤ) (d : ℤ)
    → IsFlows (net_of p) s z d
    → Undercuts p claimed s z d ⊎ IsAtLeast claimed (cost (net_of p) s z d) d
under_or p None s z d flows = inl (record { flows = flows; cheaper = tt })
under_or p (Some c) s z d flows =
    by_lt_z (cost (net_of p) s z d *ℤ c.d) (c.cost *ℤ d)
    (λ lt. inl (record { flows = flows; cheaper = lt }))
    (λ le. inr le)

by_undercut : (p : Problem) (claimed : Option CostOver) (s : ℕ → Bool)
    → ((z : ℕ → ℤ) (d : ℤ) → Undercuts p claimed s z d → ⊥) → CostsEnough p claimed s
by_undercut p claimed s never z d flows =
    elim (under_or p claimed s z d flows) [ inl u ↦ absurd (never z d u) | inr h ↦ h ]

not_both : (claimed : Option CostOver) (x d : ℤ) → IsAtLeast claimed x d → IsBelow claimed x d → ⊥
not_both None x d h b = h
not_both (Some c) x d h b = omega (arith, ints)

-- ---- leaves

module _ (p : Problem) (valid : IsValid p) where
  -- a leaf that passes is open, or each structure of its node costs enough, if what undercuts may
  -- have flows that fit
  leaf_holds_by : (f : Facts) → AreFacts (net_of p) f → (partial : Bool)
      → (claimed : Option CostOver) → HasScale claimed → IsCost claimed → (n : Node) (l : Leaf)
      → LeafPassesBy f partial p claimed n l → (s : ℕ → Bool)
      → InFamily (shape_of p) n.inside n.outside s
      → ((z : ℕ → ℤ) (d : ℤ) → Undercuts p claimed s z d → MayFit p claimed s f)
      → (((low : Option Scaled) × (l ≡ untried low)) × (partial ≡ true)) ⊎ CostsEnough p claimed s
  leaf_holds_by f facts partial claimed scale over n (dead x) h s fam keep =
      leaf_holds p valid partial claimed scale n (dead x) h s fam
  leaf_holds_by f facts partial claimed scale over n (clash k) h s fam keep =
      leaf_holds p valid partial claimed scale n (clash k) h s fam
  leaf_holds_by f facts partial claimed scale over n (refuted ys) h s fam keep =
      leaf_holds p valid partial claimed scale n (refuted ys) h s fam
  leaf_holds_by f facts partial claimed scale over n (bounded d ys) h s fam keep =
      leaf_holds p valid partial claimed scale n (bounded d ys) h s fam
  leaf_holds_by f facts partial claimed scale over n (charged c) h s fam keep =
      inr (by_undercut p claimed s (λ z d under.
      let fit = keep z d under in
      charged_is_empty p valid claimed over n f facts c.d c.ys c.covers h s fam.between fit.sizes
      fit.d fit.undercuts fit.fit))
  leaf_holds_by f facts partial claimed scale over n (untried low) h s fam keep =
      leaf_holds p valid partial claimed scale n (untried low) h s fam

  -- ---- trees

  module _ (partial : Bool) (claim : Claim) (head : List HeadLine)
      (claimed : ClaimPasses partial p claim) (lines : HeadPasses p claim head) where
    keeps : Keeps p (claimed_cost claim) first_node (head_known p head)
    keeps =
        head_keeps p valid (claimed_cost claim) (cost_of_claim partial p claim claimed) first_node
        head lines

    may_fit : (s : ℕ → Bool) → IsStructure (shape_of p) s → IsAllowed (shape_of p) s
        → (z : ℕ → ℤ) (d : ℤ) → Undercuts p (claimed_cost claim) s z d
        → MayFit p (claimed_cost claim) s (head_facts p head)
    may_fit s meets allowed z d under = (keeps s (in_first p s meets allowed) z d under).1

    facts : AreFacts (net_of p) (head_facts p head)
    facts = head_has_facts p valid (claimed_cost claim) first_node head lines

  -- the leaf of a structure is open, or the structure costs enough
  at_leaf_by : (partial : Bool) (start : Node) (claim : Claim) (head : List HeadLine) (tree : Tree)
      → ProvesBy partial p start claim head tree
      → (s : ℕ → Bool) → InFamily (shape_of p) start.inside start.outside s
      → (IsStillOpen p start tree s × (partial ≡ true)) ⊎ CostsEnough p (claimed_cost claim) s
  at_leaf_by partial start claim head tree a s fam =
      let P : Node → Leaf → Type 0 =
      LeafPassesBy (head_facts p head) partial p (claimed_cost claim) in
      let u : IsUnder (shape_of p) P (start ∷ []) tree s
      = covers (shape_of p) s (proper_if_valid p valid) P (start ∷ []) tree a.passes (inl fam) in
      elim (leaf_holds_by (head_facts p head) (facts partial claim head a.claimed a.lines) partial
      (claimed_cost claim) (scale_of partial p claim a.claimed)
      (cost_of_claim partial p claim a.claimed) u.node u.what u.passes s u.in_family
      (may_fit partial claim head a.claimed a.lines s fam.between.meets fam.allowed)) [
        | inl e ↦ inl (
          record {
            place = u.place;
            node = u.node;
            low = e.0.0;
            stands =
                subst (λ (w : Leaf). Stands (shape_of p) (start ∷ []) tree u.place u.node (leaf w))
                e.0.1 u.stands;
            in_family = u.in_family;
          },
          e.1,
        )
        | inr h ↦ inr h
      ]

pub accepted_by_is_least : AcceptedByIsLeast
accepted_by_is_least p valid start claim head tree a s fam =
    elim (at_leaf_by p valid false start claim head tree a s fam) [
      | inl e ↦ absurd (let no : false ≡ true = e.1 in cc)
      | inr h ↦ h
    ]

pub accepted_by_is_optimal : AcceptedByIsOptimal
accepted_by_is_optimal p valid claim head tree a s meets allowed =
    by_undercut p (claimed_cost claim) s (λ z d under.
    let k =
    keeps p valid false claim head a.claimed a.lines s (in_first p s meets allowed) z d under in
    not_both (claimed_cost claim) (cost (net_of p) s z d) d
    (accepted_by_is_least p valid (head_node p head) claim head tree a s k.0 z d under.flows)
    under.cheaper)

pub accepted_by_has_flows : AcceptedByHasFlows
accepted_by_has_flows p start w head tree a = a.claimed

pub partial_by_is_least : PartialByIsLeast
partial_by_is_least p valid start claim head tree a s fam =
    elim (at_leaf_by p valid true start claim head tree a s fam)
    [ inl e ↦ inl e.0 | inr h ↦ inr h ]

pub partial_by_is_least_of_all : PartialByIsLeastOfAll
partial_by_is_least_of_all p valid claim head tree a s meets allowed z d flows =
    elim (under_or p (claimed_cost claim) s z d flows) [
      | inl under ↦ at under (partial_by_is_least p valid (head_node p head) claim head tree a s
          (keeps p valid true claim head a.claimed a.lines s (in_first p s meets allowed) z d
          under).0)
      | inr h ↦ inr h
    ]
  where
    at : Undercuts p (claimed_cost claim) s z d
        → IsStillOpen p (head_node p head) tree s ⊎ CostsEnough p (claimed_cost claim) s
        → IsStillOpen p (head_node p head) tree s
        ⊎ IsAtLeast (claimed_cost claim) (cost (net_of p) s z d) d
    at under (inl o) = inl o
    at under (inr h) = inr (h z d flows)

-- ---- whole and partial

whole_partial : (f : Facts) (p : Problem) (claimed : Option CostOver) (n : Node) (l : Leaf)
    → LeafPassesBy f false p claimed n l → LeafPassesBy f true p claimed n l
whole_partial f p claimed n (dead x) h = h
whole_partial f p claimed n (clash k) h = h
whole_partial f p claimed n (refuted ys) h = h
whole_partial f p claimed n (bounded d ys) h = h
whole_partial f p claimed n (charged c) h = h
whole_partial f p claimed n (untried low) h = (refl, h.1)

partial_whole : (f : Facts) (p : Problem) (claimed : Option CostOver) (n : Node) (l : Leaf)
    → ((low : Option Scaled) → l ≡ untried low → ⊥) → LeafPassesBy f true p claimed n l
    → LeafPassesBy f false p claimed n l
partial_whole f p claimed n (dead x) apart h = h
partial_whole f p claimed n (clash k) apart h = h
partial_whole f p claimed n (refuted ys) apart h = h
partial_whole f p claimed n (bounded d ys) apart h = h
partial_whole f p claimed n (charged c) apart h = h
partial_whole f p claimed n (untried low) apart h = absurd (apart low refl)

pub accepted_by_is_partial_by : AcceptedByIsPartialBy
accepted_by_is_partial_by p start claim head tree a = record {
  claimed = claim_whole_partial p claim a.claimed;
  lines = a.lines;
  passes =
      passes_too (shape_of p) (LeafPassesBy (head_facts p head) false p (claimed_cost claim))
      (LeafPassesBy (head_facts p head) true p (claimed_cost claim)) (start ∷ []) tree
      (λ k n l w h. whole_partial (head_facts p head) p (claimed_cost claim) n l h) a.passes;
}

pub partial_by_is_accepted_by : PartialByIsAcceptedBy
partial_by_is_accepted_by p start claim head tree a apart closed = record {
  claimed = claim_partial_whole p claim apart a.claimed;
  lines = a.lines;
  passes =
      passes_too (shape_of p) (LeafPassesBy (head_facts p head) true p (claimed_cost claim))
      (LeafPassesBy (head_facts p head) false p (claimed_cost claim)) (start ∷ []) tree
      (λ k n l w h. partial_whole (head_facts p head) p (claimed_cost claim) n l
      (λ low e. closed k n low
      (subst (λ (v : Leaf). Stands (shape_of p) (start ∷ []) tree k n (leaf v)) e w)) h)
      a.passes;
}
