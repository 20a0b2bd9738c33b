-- The claim of both: whatever passes for the one claim or the other passes for it.
use Rattle.std.proofs.Common.{◌≡◌, inl, inr, ℤ, pos, ◌*ℤ◌, ◌≤ℤ◌, ◌<ℤ◌, Bool, true, false, int_lt}
use Rattle.std.proofs.Common.{Option, Some, None, refl, arith, if◌then◌else◌, subst}
use Rattle.std.proofs.lemmas.Int.{ints}
use Rattle.tree_text_laws.proofs.integer_laws.Cited.{mul-le_left, mul-lt_left, ring_z}
use Rattle.tree_text_laws.specs.problem_rules.Problem.{Problem}
use Rattle.tree_text_laws.specs.pns_rules.Nodes.{Node}
use Rattle.tree_text_laws.specs.flow_rules.ChargeLeaf.{IsScale, ChargeReaches}
use Rattle.tree_text_laws.specs.tree_rules.Claim.{Network, Claim, network, infeasible, unknown}
use Rattle.tree_text_laws.specs.tree_rules.Claim.{CostOver}
use Rattle.tree_text_laws.specs.tree_rules.Claim.{claimed_cost, IsAtLeast, IsFeasible, ClaimPasses}
use Rattle.tree_text_laws.specs.tree_rules.Leaf.{Leaf, dead, clash, refuted, bounded, charged}
use Rattle.tree_text_laws.specs.tree_rules.Leaf.{untried, IsClaimed}
use Rattle.tree_text_laws.specs.tree_rules.Leaf.{LeafPasses}
use Rattle.tree_text_laws.specs.tree_rules.Accepted.{Tree}
use Rattle.tree_text_laws.specs.tree_text_rules.Graft.{has_open, claim_of_both}

-- ---- costs

abbrev pub cost_of : Network → CostOver
cost_of w = record { cost = w.cost; d = w.d }

-- the one costs no more than the other
abbrev pub IsNoDearer : CostOver → CostOver → Type 0
IsNoDearer a b = (a.cost *ℤ b.d) ≤ℤ (b.cost *ℤ a.d)

-- a product with one factor in it is as great with the factor taken out
taken_out : (c a b : ℤ) → pos 0 <ℤ c → (c *ℤ a) ≤ℤ (c *ℤ b) → a ≤ℤ b
taken_out c a b k h = by (int_lt b a) refl
  where
    by : (t : Bool) → int_lt b a ≡ t → a ≤ℤ b
    by true e =
        let lt : b <ℤ a = omega (arith, ints) in
        let more : (c *ℤ b) <ℤ (c *ℤ a) = mul-lt_left c b a lt k in
        omega (arith, ints)
    by false e = omega (arith, ints)

-- what is at least the dearer cost is at least the cheaper
pub at_least_too : (a b : CostOver) (n d : ℤ) → pos 1 ≤ℤ a.d → pos 1 ≤ℤ b.d → pos 1 ≤ℤ d
    → IsNoDearer a b → IsAtLeast (Some b) n d → IsAtLeast (Some a) n d
at_least_too a b n d pa pb pd less h =
    let ad0 : pos 0 ≤ℤ a.d = omega (arith, ints) in
    let d0 : pos 0 ≤ℤ d = omega (arith, ints) in
    let bd0 : pos 0 <ℤ b.d = omega (arith, ints) in
    let first : (d *ℤ (a.cost *ℤ b.d)) ≤ℤ (d *ℤ (b.cost *ℤ a.d)) =
    mul-le_left d (a.cost *ℤ b.d) (b.cost *ℤ a.d) less d0 in
    let second : (a.d *ℤ (b.cost *ℤ d)) ≤ℤ (a.d *ℤ (n *ℤ b.d)) =
    mul-le_left a.d (b.cost *ℤ d) (n *ℤ b.d) h ad0 in
    taken_out b.d (a.cost *ℤ d) (n *ℤ a.d) bd0
    (let all : (b.d *ℤ (a.cost *ℤ d)) ≤ℤ (b.d *ℤ (n *ℤ a.d)) = omega (arith, ring_z) in all)

-- and so is a charge
charge_too : (a b : CostOver) (x d : ℤ) → pos 1 ≤ℤ a.d → pos 1 ≤ℤ b.d → IsNoDearer a b
    → ChargeReaches (IsAtLeast (Some b)) x d → ChargeReaches (IsAtLeast (Some a)) x d
charge_too a b x d pa pb less (inl r) = inl (r.0, at_least_too a b x d pa pb r.0 less r.1)
charge_too a b x d pa pb less (inr r) = inr r

-- where no cost is claimed, a charge counts none
scale_without : (claimed : Option CostOver) (d : ℤ) → IsScale ⊥ d → IsScale (IsClaimed claimed) d
scale_without claimed d (inl e) = inl e
scale_without claimed d (inr q) = absurd q.1

charge_without : (claimed : Option CostOver) (x d : ℤ)
    → ChargeReaches (IsAtLeast None) x d → ChargeReaches (IsAtLeast claimed) x d
charge_without claimed x d (inl r) = absurd r.1
charge_without claimed x d (inr r) = inr r

-- ---- leaves

pub leaf_cheaper : (p : Problem) (a b : CostOver) (n : Node) (l : Leaf) → pos 1 ≤ℤ a.d
    → pos 1 ≤ℤ b.d → IsNoDearer a b → LeafPasses true p (Some b) n l
    → LeafPasses true p (Some a) n l
leaf_cheaper p a b n (dead x) pa pb less h = h
leaf_cheaper p a b n (clash k) pa pb less h = h
leaf_cheaper p a b n (refuted ys) pa pb less h = h
leaf_cheaper p a b n (bounded d ys) pa pb less h = record {
  positive = h.positive;
  each_row = h.each_row;
  formed = h.formed;
  reaches = at_least_too a b _ d pa pb h.positive less h.reaches;
}
leaf_cheaper p a b n (charged c) pa pb less h = record {
  scale = h.scale;
  each_row = h.each_row;
  covered = h.covered;
  formed = h.formed;
  reaches = charge_too a b _ c.d pa pb less h.reaches;
}
leaf_cheaper p a b n (untried low) pa pb less h = h

-- where no cost is claimed there is no bounded leaf, and no charge of a cost
pub leaf_without : (p : Problem) (claimed : Option CostOver) (n : Node) (l : Leaf)
    → LeafPasses true p None n l → LeafPasses true p claimed n l
leaf_without p claimed n (dead x) h = h
leaf_without p claimed n (clash k) h = h
leaf_without p claimed n (refuted ys) h = h
leaf_without p claimed n (bounded d ys) h = absurd h.reaches
leaf_without p claimed n (charged c) h = record {
  scale = scale_without claimed c.d h.scale;
  each_row = h.each_row;
  covered = h.covered;
  formed = h.formed;
  reaches = charge_without claimed _ c.d h.reaches;
}
leaf_without p claimed n (untried low) h = h

-- ---- claims

abbrev pub LeavesToo : Problem → Claim → Claim → Type 0
LeavesToo p claim both = (n : Node) (l : Leaf) → LeafPasses true p (claimed_cost claim) n l
    → LeafPasses true p (claimed_cost both) n l

-- what is shown of the claim of both
pub record IsBoth (p : Problem) (claim other both : Claim) : Type 0 where
  pub passes : ClaimPasses true p both
  pub own : LeavesToo p claim both
  pub part : LeavesToo p other both

pub same_cost : (w : Network) → IsNoDearer (cost_of w) (cost_of w)
same_cost w = omega (arith, ints)

two_networks : (p : Problem) (w v : Network) (t : Bool) → int_lt (v.cost *ℤ w.d) (w.cost *ℤ v.d) ≡ t
    → IsFeasible p w → IsFeasible p v
    → IsBoth p (network w) (network v) (network (if t then v else w))
two_networks p w v true e fw fv = record {
  passes = fv;
  own =
      λ n l h. leaf_cheaper p (cost_of v) (cost_of w) n l fv.flows.positive fw.flows.positive
      (let le : (v.cost *ℤ w.d) ≤ℤ (w.cost *ℤ v.d) = omega (arith, ints) in le) h;
  part = λ n l h. h;
}
two_networks p w v false e fw fv = record {
  passes = fw;
  own = λ n l h. h;
  part =
      λ n l h. leaf_cheaper p (cost_of w) (cost_of v) n l fw.flows.positive fv.flows.positive
      (let le : (w.cost *ℤ v.d) ≤ℤ (v.cost *ℤ w.d) = omega (arith, ints) in le) h;
}

-- neither claims a network
neither : (p : Problem) (claim other : Claim) (t : Bool) → claimed_cost claim ≡ None
    → claimed_cost other ≡ None → IsBoth p claim other (if t then unknown else infeasible)
neither p claim other true e f = record {
  passes = refl;
  own = λ n l h. subst (λ (c : Option CostOver). LeafPasses true p c n l) e h;
  part = λ n l h. subst (λ (c : Option CostOver). LeafPasses true p c n l) f h;
}
neither p claim other false e f = record {
  passes = tt;
  own = λ n l h. subst (λ (c : Option CostOver). LeafPasses true p c n l) e h;
  part = λ n l h. subst (λ (c : Option CostOver). LeafPasses true p c n l) f h;
}

pub both_claims : (p : Problem) (claim other : Claim) (tree : Tree) → ClaimPasses true p claim
    → ClaimPasses true p other → IsBoth p claim other (claim_of_both claim other tree)
both_claims p (network w) (network v) tree h k =
    two_networks p w v (int_lt (v.cost *ℤ w.d) (w.cost *ℤ v.d)) refl h k
both_claims p (network w) infeasible tree h k =
    record { passes = h; own = λ n l q. q; part = λ n l q. leaf_without p (Some (cost_of w)) n l q }
both_claims p (network w) unknown tree h k =
    record { passes = h; own = λ n l q. q; part = λ n l q. leaf_without p (Some (cost_of w)) n l q }
both_claims p infeasible (network v) tree h k =
    record { passes = k; own = λ n l q. leaf_without p (Some (cost_of v)) n l q; part = λ n l q. q }
both_claims p unknown (network v) tree h k =
    record { passes = k; own = λ n l q. leaf_without p (Some (cost_of v)) n l q; part = λ n l q. q }
both_claims p infeasible infeasible tree h k =
    neither p infeasible infeasible (has_open tree) refl refl
both_claims p infeasible unknown tree h k = neither p infeasible unknown (has_open tree) refl refl
both_claims p unknown infeasible tree h k = neither p unknown infeasible (has_open tree) refl refl
both_claims p unknown unknown tree h k = neither p unknown unknown (has_open tree) refl refl
