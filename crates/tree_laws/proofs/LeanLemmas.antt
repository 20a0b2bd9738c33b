-- Relaxed flows of a capped plant are relaxed flows of the plant, and cost no more there.
use Rattle.std.proofs.Common.{◌≡◌, ℕ, zero, suc, ◌<◌, ℤ, pos, negsuc, ◌+ℤ◌, ◌*ℤ◌, ◌≤ℤ◌, Bool}
use Rattle.std.proofs.Common.{true, false, cond, [], ◌∷◌, Option, Some, None, sym}
use Rattle.std.proofs.Common.{subst, arith}
use Rattle.std.specs.Prelude.{int_div}
use Rattle.std.specs.Ordering.{int_eq}
use Rattle.std.proofs.lemmas.Int.{ints}
use Rattle.tree_rules.specs.integer_laws.Total.{total}
use Rattle.tree_rules.proofs.integer_laws.Cited.{ring_z, mul-le_left, mul-le_right, total-le}
use Rattle.tree_rules.specs.problem_rules.Problem.{Problem}
use Rattle.tree_rules.specs.problem_rules.Validity.{IsValid}
use Rattle.tree_rules.specs.pns_rules.Shape.{Shape, shape_of}
use Rattle.tree_rules.specs.pns_rules.Nodes.{Node}
use Rattle.tree_rules.specs.pns_rules.Ends.{IsReduced}
use Rattle.tree_rules.specs.flow_rules.Net.{Net, net_of, million, size_cost}
use Rattle.tree_rules.specs.flow_rules.Relaxed.{stays, units, unit_cost, IsRelaxed, relaxed_cost}
use Rattle.tree_rules.proofs.flow_rules.Cited.{All-listed, net_of_valid, slope_positive}
use Rattle.tree_rules.proofs.flow_rules.Cited.{slope_below}
use Rattle.tree_rules.proofs.flow_rules.Cited.{slope_greatest}
use Rattle.tree_rules.specs.Ways.{Way, IsDecision}
use Rattle.tree_rules.specs.Tree.{branch, leaf, Stands}
use Rattle.tree_rules.specs.Claim.{Claim, claimed_cost, CostOver, IsAtMost}
use Rattle.tree_rules.specs.Leaf.{IsUntried}
use Rattle.tree_rules.specs.Lean.{MayUndercut, IsLean}
use Rattle.tree_rules.specs.Accepted.{Tree, IsAccepted}
use Rattle.tree_laws.proofs.LeafLemmas.{HasScale, scale_of}
use Rattle.tree_laws.specs.Capped.{IsCapped}
use Rattle.tree_laws.specs.Recharged.{recharged_tree}
use Rattle.tree_laws.proofs.CappedLemmas.{unit_there, capped_shape, lowered, capped_net}
use Rattle.tree_laws.proofs.TreeLemmas.{branch_stood, none_open}

-- ---- one unit: what its size costs

abbrev slope_at : ℤ → ℤ → ℤ
slope_at most fix = cond (int_eq most (pos 0)) (pos 0) (int_div (fix *ℤ million) most)

-- a smaller unit pays no less for a size that it may have
slope_pays : (most m fix z d : ℤ) → pos 0 ≤ℤ m → m ≤ℤ most → pos 0 ≤ℤ fix → pos 0 ≤ℤ z
    → z ≤ℤ (m *ℤ d) → (slope_at most fix *ℤ z) ≤ℤ (slope_at m fix *ℤ z)
slope_pays most (negsuc m) fix z d p l f s h = absurd p.le
slope_pays most (pos zero) fix z d p l f s h =
    let e : z ≡ pos 0 = omega (arith, ints) in
    rw e (omega (arith, ints))
slope_pays most (pos (suc m)) fix z d p l f s h =
    let some : pos 0 ≤ℤ most = omega (arith, ints) in
    let a : pos 0 ≤ℤ slope_at most fix = slope_positive most fix some f in
    let b : (slope_at most fix *ℤ pos (suc m)) ≤ℤ (slope_at most fix *ℤ most) =
    mul-le_left (slope_at most fix) (pos (suc m)) most l a in
    let c : (slope_at most fix *ℤ most) ≤ℤ (fix *ℤ million) = slope_below most fix some f in
    let e : slope_at most fix ≤ℤ slope_at (pos (suc m)) fix =
    slope_greatest (pos (suc m)) fix (slope_at most fix) (omega (arith, ints)) f
    (omega (arith, ints)) in
    mul-le_right (slope_at most fix) (slope_at (pos (suc m)) fix) z e s

-- b, the unit is taken in
unit_pays : (b : Bool) (c most m fix least z d : ℤ) → pos 0 ≤ℤ m → m ≤ℤ most → pos 0 ≤ℤ fix
    → (cond b least (pos 0) *ℤ d) ≤ℤ z → z ≤ℤ (m *ℤ d)
    → ((c +ℤ cond b (pos 0) (slope_at most fix *ℤ million)) *ℤ z)
    ≤ℤ ((c +ℤ cond b (pos 0) (slope_at m fix *ℤ million)) *ℤ z)
unit_pays true c most m fix least z d p l f low high = omega (arith, ints)
unit_pays false c most m fix least z d p l f low high =
    let s : pos 0 ≤ℤ z = omega (arith, ints) in
    let a : (slope_at most fix *ℤ z) ≤ℤ (slope_at m fix *ℤ z) =
    slope_pays most m fix z d p l f s high in
    omega (arith, ring_z)

-- ---- the node

module _ (p q : Problem) (valid : IsValid p) (valid_capped : IsValid q) (h : IsCapped p q) where
  some_size : (i : ℕ) → i < (net_of p).graph.units → pos 0 ≤ℤ (net_of q).most i
  some_size i l =
      let net = net_of_valid q valid_capped in
      let k : i < (net_of q).graph.units =
      subst (λ (g : Shape). i < g.units) (sym (capped_shape p q h)) l in
      let a : pos 0 ≤ℤ (net_of q).least i = net.least_not_negative i k in
      let b : (net_of q).least i ≤ℤ (net_of q).most i = net.least_within i k in
      omega (arith, ints)

  within : (i : ℕ) → (net_of q).most i ≤ℤ (net_of p).most i
  within i = (unit_there p q h i).no_more

  relaxed_there : (n : Node) (z : ℕ → ℤ) (d : ℤ) → IsRelaxed (lowered p q h) n z d
      → IsRelaxed (net_of p) n z d
  relaxed_there n z d r = record {
    positive = r.positive;
    at_least = r.at_least;
    at_most =
        λ i l s. let one : pos 1 ≤ℤ d = r.positive in
        let a : ((net_of q).most i *ℤ d) ≤ℤ ((net_of p).most i *ℤ d) =
        mul-le_right ((net_of q).most i) ((net_of p).most i) d (within i) (omega (arith, ints)) in
        let b : z i ≤ℤ ((net_of q).most i *ℤ d) = r.at_most i l s in
        omega (arith, ints);
    low = r.low;
    high = r.high;
  }

  costs_no_more : (n : Node) (z : ℕ → ℤ) (d : ℤ) → IsRelaxed (lowered p q h) n z d
      → relaxed_cost (net_of p) n z d ≤ℤ relaxed_cost (lowered p q h) n z d
  costs_no_more n z d r =
      let net = net_of_valid p valid in
      let each : total (λ i. unit_cost (net_of p) n i *ℤ z i) (units (net_of p) n)
      ≤ℤ total (λ i. unit_cost (lowered p q h) n i *ℤ z i) (units (net_of p) n)
      = total-le (λ i. unit_cost (net_of p) n i *ℤ z i)
      (λ i. unit_cost (lowered p q h) n i *ℤ z i) (units (net_of p) n)
      (All-listed (λ i. (unit_cost (net_of p) n i *ℤ z i) ≤ℤ (unit_cost (lowered p q h) n i *ℤ z i))
      (net_of p).graph.units (stays n)
      (λ i l s. unit_pays (n.inside i) (size_cost (net_of p) i) ((net_of p).most i)
      ((net_of q).most i) ((net_of p).fix i) ((net_of p).least i) (z i) d (some_size i l) (within i)
      (net.fix_not_negative i l) (r.at_least i l s) (r.at_most i l s))) in
      omega (arith, ints, each)

  at_most_there : (claimed : Option CostOver) → HasScale claimed → (x y d : ℤ) → x ≤ℤ y
      → IsAtMost claimed y d → IsAtMost claimed x d
  at_most_there None scale x y d l k = tt
  at_most_there (Some c) scale x y d l k =
      let a : (x *ℤ c.d) ≤ℤ (y *ℤ c.d) = mul-le_right x y c.d l scale in
      omega (arith, ints)

  pub undercuts_there : (claimed : Option CostOver) → HasScale claimed → (n : Node)
      → MayUndercut q claimed n → MayUndercut p claimed n
  undercuts_there claimed scale n m =
      let r : IsRelaxed (lowered p q h) n m.sizes m.d =
      subst (λ (net : Net). IsRelaxed net n m.sizes m.d) (capped_net p q h) m.relaxed in
      let k : IsAtMost claimed (relaxed_cost (lowered p q h) n m.sizes m.d) m.d =
      subst (λ (net : Net). IsAtMost claimed (relaxed_cost net n m.sizes m.d) m.d)
      (capped_net p q h) m.at_most in
      record {
        sizes = m.sizes;
        d = m.d;
        relaxed = relaxed_there n m.sizes m.d r;
        at_most =
            at_most_there claimed scale (relaxed_cost (net_of p) n m.sizes m.d)
            (relaxed_cost (lowered p q h) n m.sizes m.d) m.d (costs_no_more n m.sizes m.d r) k;
      }

  -- ---- the tree

  module _ (start : Node) (claim : Claim) (tree : Tree) (accepted : IsAccepted q start claim tree)
      (lean : IsLean q IsUntried (claimed_cost claim) start tree) where
    stood : (k : ℕ) (w : Way) (n : Node)
        → Stands (shape_of p) (start ∷ []) (recharged_tree tree) k n (branch w)
        → Stands (shape_of q) (start ∷ []) tree k n (branch w)
    stood k w n s =
        subst (λ (g : Shape). Stands g (start ∷ []) tree k n (branch w))
        (sym (capped_shape p q h)) (branch_stood (shape_of p) (start ∷ []) tree k n w s)

    pub lean_there : IsLean p IsUntried (claimed_cost claim) start (recharged_tree tree)
    lean_there = record {
      reduced =
          λ k w n s. subst (λ (g : Shape). IsReduced g n) (capped_shape p q h)
          (lean.reduced k w n (stood k w n s));
      splits =
          λ k w n s. subst (λ (g : Shape). IsDecision g n w) (capped_shape p q h)
          (lean.splits k w n (stood k w n s));
      of_use =
          λ k w n s. undercuts_there (claimed_cost claim) (scale_of false q claim accepted.claimed)
          n (lean.of_use k w n (stood k w n s));
      in_turn =
          λ k w n s j m l t o. absurd
          (none_open q (claimed_cost claim) (start ∷ []) tree accepted.passes j m l
          (subst (λ (g : Shape). Stands g (start ∷ []) (recharged_tree tree) j m (leaf l))
          (sym (capped_shape p q h)) t) o);
    }
