-- Nodes compared by what their relaxed flows cost.
use Rattle.std.proofs.Common.{ℤ, pos, ◌*ℤ◌, ◌≤ℤ◌, arith, Option, Some, None}
use Rattle.std.proofs.lemmas.Int.{ints}
use Rattle.tree_laws.specs.problem_rules.Problem.{Problem}
use Rattle.tree_laws.specs.pns_rules.Nodes.{Node}
use Rattle.tree_laws.specs.flow_rules.Net.{net_of}
use Rattle.tree_laws.specs.flow_rules.Relaxed.{relaxed_cost}
use Rattle.tree_laws.specs.tree_rules.Claim.{CostOver, IsAtMost}
use Rattle.tree_laws.specs.tree_rules.Lean.{MayUndercut, HasCheaper, IsNoDearer}
use Rattle.branch_tree.specs.Values.{IsPositive, IsUnder, IsPositiveCost}
use Rattle.tree_laws.specs.tree_rules.Costs.{IsNoMore}
use Rattle.search_tree.proofs.FractionLemmas.{fraction_trans}

-- ---- costs

-- a node that reaches w reaches each greater value
pub reached_more : (p : Problem) (n : Node) (w v : CostOver) → IsPositive w → IsPositive v
    → IsNoMore w v → HasCheaper p n w.cost w.d → HasCheaper p n v.cost v.d
reached_more p n w v pw pv le h = record {
  sizes = h.sizes;
  d = h.d;
  relaxed = h.relaxed;
  at_most =
      fraction_trans (relaxed_cost (net_of p) n h.sizes h.d) h.d w.cost w.d v.cost v.d
      h.relaxed.positive pw pv h.at_most le;
}

-- what is under a node is at most what the node reaches
pub under_reached : (p : Problem) (n : Node) (w v : CostOver) → IsPositive w → IsPositive v
    → IsUnder p w n → HasCheaper p n v.cost v.d → IsNoMore w v
under_reached p n w v pw pv u h =
    fraction_trans w.cost w.d (relaxed_cost (net_of p) n h.sizes h.d) h.d v.cost v.d pw
    h.relaxed.positive pv (u h.sizes h.d h.relaxed) h.at_most

-- what is at most something that is under a node is under it
pub under_less : (p : Problem) (n : Node) (w v : CostOver) → IsPositive w → IsPositive v
    → IsNoMore w v → IsUnder p v n → IsUnder p w n
under_less p n w v pw pv le u z d flows =
    fraction_trans w.cost w.d v.cost v.d (relaxed_cost (net_of p) n z d) d pw pv flows.positive le
    (u z d flows)

-- what is under a node is under each node that costs no less
pub under_dearer : (p : Problem) (n m : Node) (v : CostOver) → IsPositive v → IsUnder p v n
    → IsNoDearer p n m → IsUnder p v m
under_dearer p n m v pv u dearer z d flows =
    let h = dearer z d flows in
    fraction_trans v.cost v.d (relaxed_cost (net_of p) n h.sizes h.d) h.d
    (relaxed_cost (net_of p) m z d) d pv h.relaxed.positive flows.positive
    (u h.sizes h.d h.relaxed) h.at_most

-- what a node reaches is reached by each node that costs no more
pub reached_dearer : (p : Problem) (n m : Node) (v : CostOver) → IsPositive v → IsNoDearer p n m
    → HasCheaper p m v.cost v.d → HasCheaper p n v.cost v.d
reached_dearer p n m v pv dearer r =
    let h = dearer r.sizes r.d r.relaxed in
    record {
      sizes = h.sizes;
      d = h.d;
      relaxed = h.relaxed;
      at_most =
          fraction_trans (relaxed_cost (net_of p) n h.sizes h.d) h.d
          (relaxed_cost (net_of p) m r.sizes r.d) r.d v.cost v.d h.relaxed.positive
          r.relaxed.positive pv h.at_most r.at_most;
    }

-- ---- nodes

pub no_dearer_self : (p : Problem) (n : Node) → IsNoDearer p n n
no_dearer_self p n z d flows =
    record { sizes = z; d = d; relaxed = flows; at_most = omega (arith, ints) }

pub no_dearer_trans : (p : Problem) (n l m : Node) → IsNoDearer p n l → IsNoDearer p l m
    → IsNoDearer p n m
no_dearer_trans p n l m a b z d flows =
    let h = b z d flows in
    let k = a h.sizes h.d h.relaxed in
    record {
      sizes = k.sizes;
      d = k.d;
      relaxed = k.relaxed;
      at_most =
          fraction_trans (relaxed_cost (net_of p) n k.sizes k.d) k.d
          (relaxed_cost (net_of p) l h.sizes h.d) h.d (relaxed_cost (net_of p) m z d) d
          k.relaxed.positive h.relaxed.positive flows.positive k.at_most h.at_most;
    }

-- a node that has relaxed flows of at most v costs no more than one that has none below v
pub reached_is_no_dearer : (p : Problem) (n m : Node) (v : CostOver) → IsPositive v
    → HasCheaper p n v.cost v.d → IsUnder p v m → IsNoDearer p n m
reached_is_no_dearer p n m v pv h under z d flows = record {
  sizes = h.sizes;
  d = h.d;
  relaxed = h.relaxed;
  at_most =
      fraction_trans (relaxed_cost (net_of p) n h.sizes h.d) h.d v.cost v.d
      (relaxed_cost (net_of p) m z d) d h.relaxed.positive pv flows.positive h.at_most
      (under z d flows);
}

-- ---- a cost that is to be undercut

-- a node that has relaxed flows of at most v may undercut a cost that v is at most
pub reached_may_undercut : (p : Problem) (undercut : Option CostOver) (n : Node) (v : CostOver)
    → IsPositive v → IsPositiveCost undercut → IsAtMost undercut v.cost v.d
    → HasCheaper p n v.cost v.d
    → MayUndercut p undercut n
reached_may_undercut p undercut n v pv pu below h = record {
  sizes = h.sizes;
  d = h.d;
  relaxed = h.relaxed;
  at_most = at undercut pu below;
}
  where
    at : (c : Option CostOver) → IsPositiveCost c → IsAtMost c v.cost v.d
        → IsAtMost c (relaxed_cost (net_of p) n h.sizes h.d) h.d
    at None pc below = tt
    at (Some b) pc below =
        fraction_trans (relaxed_cost (net_of p) n h.sizes h.d) h.d v.cost v.d b.cost b.d
        h.relaxed.positive pv pc h.at_most below

-- a node that may undercut some cost, or reaches one, has relaxed flows
pub may_any : (p : Problem) (undercut : Option CostOver) (n : Node) → MayUndercut p undercut n
    → MayUndercut p None n
may_any p undercut n r = record { sizes = r.sizes; d = r.d; relaxed = r.relaxed; at_most = tt }

pub reached_any : (p : Problem) (n : Node) (much e : ℤ) → HasCheaper p n much e
    → MayUndercut p None n
reached_any p n much e r = record { sizes = r.sizes; d = r.d; relaxed = r.relaxed; at_most = tt }

-- each cost is at most what a greater one is at most
at_most_less : (c e much over : ℤ) (u : Option CostOver) → IsPositiveCost u → pos 1 ≤ℤ e
    → pos 1 ≤ℤ over → (c *ℤ over) ≤ℤ (much *ℤ e) → IsAtMost u much over → IsAtMost u c e
at_most_less c e much over None pu pe po le below = tt
at_most_less c e much over (Some b) pu pe po le below =
    fraction_trans c e much over b.cost b.d pe po pu le below

-- so may a node that costs no more than one that may
pub no_dearer_may : (p : Problem) (undercut : Option CostOver) (n m : Node)
    → IsPositiveCost undercut → IsNoDearer p n m → MayUndercut p undercut m
    → MayUndercut p undercut n
no_dearer_may p undercut n m pu dearer r =
    let h = dearer r.sizes r.d r.relaxed in
    record {
      sizes = h.sizes;
      d = h.d;
      relaxed = h.relaxed;
      at_most =
          at_most_less (relaxed_cost (net_of p) n h.sizes h.d) h.d
          (relaxed_cost (net_of p) m r.sizes r.d) r.d undercut pu h.relaxed.positive
          r.relaxed.positive h.at_most r.at_most;
    }
