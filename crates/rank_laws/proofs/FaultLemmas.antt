-- What passes does not fail, and what fails does so at one place for one cause.
use Rattle.std.proofs.Common.{◌≡◌, ℕ, zero, suc, Bool, false, List, [], ◌∷◌, Option, refl, sym, ap}
use Rattle.std.proofs.Common.{◌∙◌, subst, inl, inr}
use Rattle.rank_rules.specs.problem_rules.Problem.{Problem}
use Rattle.rank_rules.specs.pns_rules.Shape.{shape_of}
use Rattle.rank_rules.specs.pns_rules.Nodes.{Node}
use Rattle.rank_rules.specs.tree_rules.declared.why.Why.{Why}
use Rattle.rank_rules.specs.tree_rules.Tree.{End, branch, leaf}
use Rattle.rank_rules.specs.tree_rules.Claim.{Network, network, CostOver, IsFeasible}
use Rattle.rank_rules.specs.tree_rules.Accepted.{first_node}
use Rattle.tree_laws.proofs.Cited.{holds, one_of, none, neither, claim_passes, claim_one}
use Rattle.tree_laws.proofs.Cited.{leaf_passes, leaf_one, tree_passes, tree_one}
use Rattle.rank_rules.specs.declared.why.RankWhy.{RankWhy}
use Rattle.rank_rules.specs.declared.why.RankWhy.TheVariants.{Plain}
use Rattle.rank_rules.specs.Networks.{to_undercut, ArePassing, NetworkFails, IsInOrder, IsFirstOff}
use Rattle.rank_rules.specs.Networks.{OrderFails}
use Rattle.rank_rules.specs.Leaf.{Leaf, plain, named, LeafPasses, LeafFails, IsTold}
use Rattle.rank_rules.specs.Ranked.{Tree, IsToldAt}
use Rattle.rank_laws.specs.Laws.{PassingNetworksHaveNoFault, NetworksHaveOneFault, LeavesHaveRules}
use Rattle.rank_laws.specs.Laws.{PassingTreeHasNoFault, TreeHasOneFault}

-- ---- networks

order_passes : (distinct : Bool) (earlier : List Network) (w : Network) (why : RankWhy)
    → IsInOrder distinct earlier w → OrderFails distinct earlier w why → ⊥
order_passes distinct earlier w why k (inl f) = f.0 k.0
order_passes distinct earlier w why k (inr f) = f.1 k.1

order_one : (distinct : Bool) (earlier : List Network) (w : Network) (why other : RankWhy)
    → OrderFails distinct earlier w why → OrderFails distinct earlier w other → why ≡ other
order_one distinct earlier w why other (inl f) (inl e) = f.1 ∙ sym e.1
order_one distinct earlier w why other (inl f) (inr e) = absurd (f.0 e.0)
order_one distinct earlier w why other (inr f) (inl e) = absurd (e.0 f.0)
order_one distinct earlier w why other (inr f) (inr e) = f.2 ∙ sym e.2

network_passes : (distinct : Bool) (p : Problem) (earlier : List Network) (w : Network)
    (why : RankWhy)
    → IsFeasible p w → IsInOrder distinct earlier w → NetworkFails distinct p earlier w why → ⊥
network_passes distinct p earlier w why h k (inl f) = claim_passes false p (network w) f.0 h f.1
network_passes distinct p earlier w why h k (inr f) = order_passes distinct earlier w why k f.1

network_one : (distinct : Bool) (p : Problem) (earlier : List Network) (w : Network)
    (why other : RankWhy)
    → NetworkFails distinct p earlier w why → NetworkFails distinct p earlier w other → why ≡ other
network_one distinct p earlier w why other (inl f) (inl e) =
    f.2 ∙ ap (λ (c : Why). Plain c) (claim_one false p (network w) f.0 e.0 f.1 e.1) ∙ sym e.2
network_one distinct p earlier w why other (inl f) (inr e) =
    absurd (claim_passes false p (network w) f.0 e.0 f.1)
network_one distinct p earlier w why other (inr f) (inl e) =
    absurd (claim_passes false p (network w) e.0 f.0 e.1)
network_one distinct p earlier w why other (inr f) (inr e) =
    order_one distinct earlier w why other f.1 e.1

none_off : (distinct : Bool) (p : Problem) (earlier ws : List Network) (k : ℕ) (why : RankWhy)
    → ArePassing distinct p earlier ws → IsFirstOff distinct p earlier ws k why → ⊥
none_off distinct p earlier [] k why a f = f
none_off distinct p earlier (w ∷ ws) zero why a f = f
none_off distinct p earlier (w ∷ ws) (suc zero) why a f =
    network_passes distinct p earlier w why a.0 a.1 f
none_off distinct p earlier (w ∷ ws) (suc (suc k)) why a f =
    none_off distinct p (w ∷ earlier) ws (suc k) why a.2 f.2

one_off : (distinct : Bool) (p : Problem) (earlier ws : List Network) (j k : ℕ)
    (why other : RankWhy)
    → IsFirstOff distinct p earlier ws j why → IsFirstOff distinct p earlier ws k other
    → (j ≡ k) × (why ≡ other)
one_off distinct p earlier [] j k why other f e = absurd f
one_off distinct p earlier (w ∷ ws) zero k why other f e = absurd f
one_off distinct p earlier (w ∷ ws) (suc zero) zero why other f e = absurd e
one_off distinct p earlier (w ∷ ws) (suc zero) (suc zero) why other f e =
    (refl, network_one distinct p earlier w why other f e)
one_off distinct p earlier (w ∷ ws) (suc zero) (suc (suc k)) why other f e =
    absurd (network_passes distinct p earlier w why e.0 e.1 f)
one_off distinct p earlier (w ∷ ws) (suc (suc j)) zero why other f e = absurd e
one_off distinct p earlier (w ∷ ws) (suc (suc j)) (suc zero) why other f e =
    absurd (network_passes distinct p earlier w other f.0 f.1 e)
one_off distinct p earlier (w ∷ ws) (suc (suc j)) (suc (suc k)) why other f e =
    let q = one_off distinct p (w ∷ earlier) ws (suc j) (suc k) why other f.2 e.2 in
    (ap suc q.0, q.1)

pub passing_networks : PassingNetworksHaveNoFault
passing_networks p r k why a f = none_off r.distinct p [] r.networks k why a f

pub one_network_fault : NetworksHaveOneFault
one_network_fault p r j k why other f e =
    one_off r.distinct p [] r.networks j k why other f e

-- ---- leaves

module _ (distinct partial : Bool) (p : Problem) (ws : List Network)
    (undercut : Option CostOver) where
  rank_leaf_passes : (n : Node) (l : Leaf) (why : Why)
      → LeafPasses distinct partial p ws undercut n l
      → LeafFails distinct partial p ws undercut n l why → ⊥
  rank_leaf_passes n (plain l) why c f = leaf_passes partial p undercut n l why c f
  rank_leaf_passes n (named way k d ys) why c f =
      holds _ _ _ why (c.may, c.bounded.positive, c.bounded.each_row)
      (holds _ _ _ why c.bounded.formed (holds _ _ _ why c.bounded.reaches none)) f

  rank_leaf_one : (n : Node) (l : Leaf) (why other : Why)
      → LeafFails distinct partial p ws undercut n l why
      → LeafFails distinct partial p ws undercut n l other → why ≡ other
  rank_leaf_one n (plain l) why other = leaf_one partial p undercut n l why other
  rank_leaf_one n (named way k d ys) why other =
      one_of _ _ _ _ why other
      (one_of _ _ _ _ why other (one_of _ _ _ _ why other (neither why other)))

pub rank_leaf_rules : LeavesHaveRules
rank_leaf_rules distinct partial p ws undercut =
    record {
      apart = rank_leaf_passes distinct partial p ws undercut;
      one =
          rank_leaf_one distinct partial p ws undercut;
    }

-- ---- trees

told_one : (e : End Leaf) (cause : Why) (why other : RankWhy) → IsTold e cause why
    → IsTold e cause other → why ≡ other
told_one (branch w) cause why other f e = f ∙ sym e
told_one (leaf (plain l)) cause why other f e = f ∙ sym e
told_one (leaf (named way k d ys)) cause why other (inl f) (inl e) = f.1 ∙ sym e.1
told_one (leaf (named way k d ys)) cause why other (inl f) (inr e) = absurd (e.0 f.0)
told_one (leaf (named way k d ys)) cause why other (inr f) (inl e) = absurd (f.0 e.0)
told_one (leaf (named way k d ys)) cause why other (inr f) (inr e) = f.1 ∙ sym e.1

told_at_one : (ts : Tree) (k : ℕ) (cause : Why) (why other : RankWhy) → IsToldAt ts k cause why
    → IsToldAt ts k cause other → why ≡ other
told_at_one [] k cause why other f e = absurd f
told_at_one (t ∷ ts) zero cause why other f e = told_one t.end cause why other f e
told_at_one (t ∷ ts) (suc k) cause why other f e = told_at_one ts k cause why other f e

pub passing_tree : PassingTreeHasNoFault
passing_tree partial p r k why a f =
    tree_passes (shape_of p) (LeafPasses r.distinct partial p r.networks
    (to_undercut r.count r.networks))
    (LeafFails r.distinct partial p r.networks (to_undercut r.count r.networks))
    (rank_leaf_rules r.distinct partial p r.networks (to_undercut r.count r.networks))
    (first_node ∷ []) r.tree k f.cause a.passes f.first

pub one_tree_fault : TreeHasOneFault
one_tree_fault partial p r j k why other f e =
    let q =
    tree_one (shape_of p) (LeafPasses r.distinct partial p r.networks
    (to_undercut r.count r.networks))
    (LeafFails r.distinct partial p r.networks (to_undercut r.count r.networks))
    (rank_leaf_rules r.distinct partial p r.networks (to_undercut r.count r.networks))
    (first_node ∷ []) r.tree j k f.cause e.cause f.first e.first in (
      q.0,
      told_at_one r.tree k e.cause why other
          (subst (λ (c : Why). IsToldAt r.tree k c why) q.1
          (subst (λ (i : ℕ). IsToldAt r.tree i f.cause why) q.0 f.told)) e.told,
    )
