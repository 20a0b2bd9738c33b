-- The flow program of a node and the same program over numbered units and rows have the same
-- relaxed flows, costs and bounds.
use Rattle.std.proofs.Common.{◌≡◌, ℕ, ◌<◌, refl, sym, ap, ◌∙◌, arith, pos, ℤ, ◌+ℤ◌, ◌-ℤ◌, ◌*ℤ◌}
use Rattle.std.proofs.Common.{◌≤ℤ◌, ◌<ℤ◌, List, Bool, true, false, cond, get_or, length, subst}
use Rattle.std.specs.Prelude.{map, ◌&&◌, neg_ℤ, nat_lt, ◌||◌}
use Rattle.std.specs.List.{range_with_len}
use Rattle.std.specs.Int.{int_min}
use Rattle.std.proofs.lemmas.Int.{ints}
use Rattle.std.proofs.lemmas.Bool.{lt-ltb}
use Rattle.std.proofs.lemmas.List.FromFn.{get_or-map-range_with_len}
use Rattle.flow_rules.specs.integer_laws.Total.{total, total_below}
use Rattle.flow_rules.proofs.integer_laws.Cited.{mul_comm_z, total_below-same, mul-le_left}
use Rattle.flow_rules.specs.number_sets.Sets.{has}
use Rattle.flow_rules.proofs.number_sets.Cited.{has-listed, IsRising-listed, has_below}
use Rattle.flow_rules.proofs.number_sets.Cited.{AreBelow-listed}
use Rattle.flow_rules.specs.pns_rules.Structure.{mats}
use Rattle.flow_rules.specs.pns_rules.Nodes.{Node}
use Rattle.flow_rules.specs.Net.{Net, million, beside}
use Rattle.flow_rules.specs.Relaxed as node
use Rattle.flow_rules.specs.Relaxed.{IsRelaxed, stays, units, rows, lower_at, row_low, row_high}
use Rattle.flow_rules.specs.Relaxed.{unit_low, unit_cost, fixed_cost, row_balance, reduced_cost}
use Rattle.flow_rules.proofs.Cited.{IsNet}
use Rattle.flow_rules.specs.LinearProgram.{linear}
use Rattle.path_laws.proofs.Relaxed.{flow, IsRelaxedFlow, relaxed_cost, left_over, row_part}
use Rattle.path_laws.proofs.Relaxed.{unit_part, bound, IsOpen}
use Rattle.path_laws.proofs.PlaceLemmas.{total-at, at-map, place_of, has_at, beside_at, rates_at}

-- numbers at the places of a list
pub at_range : (f : ℕ → ℤ) (n k : ℕ) → k < n → get_or (map f (range_with_len 0 n)) k (pos 0) ≡ f k
at_range f n k h = get_or-map-range_with_len f 0 n k k (pos 0) h (omega arith)

product_same : (a b c d : ℤ) → a ≡ c → b ≡ d → a *ℤ b ≡ c *ℤ d
product_same a b c d e f = cc

module _ (net : Net) (n : Node) where
  abbrev pub unit : ℕ → ℕ
  unit i = get_or (units net n) i 0

  abbrev pub row : ℕ → ℕ
  row j = get_or (rows net n) j 0

  cost_at : (i : ℕ) → i < length (units net n) → (linear net n).cost i ≡ unit_cost net n (unit i)
  cost_at i h = at-map (unit_cost net n) (units net n) i h

  low_at : (i : ℕ) → i < length (units net n) → (linear net n).low i ≡ unit_low net n (unit i)
  low_at i h = at-map (unit_low net n) (units net n) i h

  high_at : (i : ℕ) → i < length (units net n) → (linear net n).high i ≡ net.most (unit i)
  high_at i h = at-map net.most (units net n) i h

  floor_at : (j : ℕ) → j < length (rows net n) → (linear net n).floor j ≡ row_low net n (row j)
  floor_at j h = at-map (row_low net n) (rows net n) j h

  ceiling_at : (j : ℕ) → j < length (rows net n) → (linear net n).ceiling j ≡ row_high net n (row j)
  ceiling_at j h = at-map (row_high net n) (rows net n) j h

  rate_at : (i j : ℕ) → i < length (units net n) → j < length (rows net n)
      → (linear net n).rate j i ≡ net.rate (row j) (unit i)
  rate_at i j h l = rates_at net (rows net n) (units net n) i j h l

  -- ---- the numbers at the places
  unit_has : (u : ℕ) → u < net.graph.units → stays n u ≡ true → (i : ℕ) × (i < length (units net n))
      × (unit i ≡ u)
  unit_has u h s =
      place_of (units net n) u
      (has-listed net.graph.units (stays n) u
      ∙ both (nat_lt u net.graph.units) (stays n u) (lt-ltb u net.graph.units h) s)
    where
      both : (a b : Bool) → a ≡ true → b ≡ true → (a && b) ≡ true
      both a b e f = rw (e, f) refl

  row_has : (m : ℕ) → m < net.graph.materials → mats net.graph (stays n) m ≡ true → (j : ℕ)
      × (j < length (rows net n)) × (row j ≡ m)
  row_has m h s =
      place_of (rows net n) m (has-listed net.graph.materials (mats net.graph (stays n)) m
      ∙ both (nat_lt m net.graph.materials) (mats net.graph (stays n) m)
      (lt-ltb m net.graph.materials h) s)
    where
      both : (a b : Bool) → a ≡ true → b ≡ true → (a && b) ≡ true
      both a b e f = rw (e, f) refl

  -- ---- bounds
  module _ (D : ℤ) (y Y : ℕ → ℤ) (same : (j : ℕ) → j < length (rows net n) → Y j ≡ y (row j)) where
    left_is : (i : ℕ) → i < length (units net n)
        → left_over (linear net n) D Y i ≡ reduced_cost net n D y (unit i)
    left_is i h =
        let c : D *ℤ (linear net n).cost i ≡ D *ℤ unit_cost net n (unit i) =
        ap (λ z. D *ℤ z) (cost_at i h) in
        let t : total_below (length (rows net n)) (λ j. Y j *ℤ (linear net n).rate j i)
        ≡ total (λ j. y j *ℤ net.rate j (unit i)) (rows net n)
        = total_below-same (length (rows net n)) (λ j. Y j *ℤ (linear net n).rate j i)
        (λ j. y (row j) *ℤ net.rate (row j) (unit i))
        (λ j l. product_same (Y j) ((linear net n).rate j i) (y (row j))
        (net.rate (row j) (unit i)) (same j l) (rate_at i j h l))
        ∙ sym (total-at (λ j. y j *ℤ net.rate j (unit i)) (rows net n)) in
        (λ k. c k -ℤ t k)

    row_part_is : (j : ℕ) → j < length (rows net n)
        → row_part (linear net n) Y j ≡ node.row_part net n y (row j)
    row_part_is j l = (λ k. int_min (same j l k *ℤ floor_at j l k) (same j l k *ℤ ceiling_at j l k))

    unit_part_is : (i : ℕ) → i < length (units net n)
        → unit_part (linear net n) D Y i ≡ node.unit_part net n D y (unit i)
    unit_part_is i h =
        (λ k. int_min (left_is i h k *ℤ low_at i h k) (left_is i h k *ℤ high_at i h k))

    pub bound_is : bound (linear net n) D Y ≡ node.bound net n D y
    bound_is =
        let r : total_below (length (rows net n)) (row_part (linear net n) Y)
        ≡ total (node.row_part net n y) (rows net n)
        = total_below-same (length (rows net n)) (row_part (linear net n) Y)
        (λ j. node.row_part net n y (row j)) row_part_is
        ∙ sym (total-at (node.row_part net n y) (rows net n)) in
        let u : total_below (length (units net n)) (unit_part (linear net n) D Y)
        ≡ total (node.unit_part net n D y) (units net n)
        = total_below-same (length (units net n)) (unit_part (linear net n) D Y)
        (λ i. node.unit_part net n D y (unit i)) unit_part_is
        ∙ sym (total-at (node.unit_part net n D y) (units net n)) in
        (λ k. D *ℤ fixed_cost net n +ℤ r k +ℤ u k)

  -- ---- relaxed flows
  module _ (z Z : ℕ → ℤ) (d : ℤ)
      (same : (i : ℕ) → i < length (units net n) → Z i ≡ z (unit i)) where
    flow_is : (j : ℕ) → j < length (rows net n)
        → flow (linear net n) Z j ≡ row_balance net n z (row j)
    flow_is j l =
        total_below-same (length (units net n)) (λ i. (linear net n).rate j i *ℤ Z i)
        (λ i. net.rate (row j) (unit i) *ℤ z (unit i))
        (λ i h. product_same ((linear net n).rate j i) (Z i) (net.rate (row j) (unit i))
        (z (unit i)) (rate_at i j h l) (same i h))
        ∙ sym (total-at (λ i. net.rate (row j) i *ℤ z i) (units net n))

    pub cost_is : relaxed_cost (linear net n) Z d ≡ node.relaxed_cost net n z d
    cost_is =
        let t : total_below (length (units net n)) (λ i. (linear net n).cost i *ℤ Z i)
        ≡ total (λ i. unit_cost net n i *ℤ z i) (units net n)
        = total_below-same (length (units net n)) (λ i. (linear net n).cost i *ℤ Z i)
        (λ i. unit_cost net n (unit i) *ℤ z (unit i))
        (λ i h. product_same ((linear net n).cost i) (Z i) (unit_cost net n (unit i))
        (z (unit i)) (cost_at i h) (same i h))
        ∙ sym (total-at (λ i. unit_cost net n i *ℤ z i) (units net n)) in
        (λ k. mul_comm_z (fixed_cost net n) d k +ℤ t k)

    pub relaxed_is : IsRelaxedFlow (linear net n) Z d → IsRelaxed net n z d
    relaxed_is f = record {
      positive = at_least_one d f.positive;
      at_least = λ u h s. let (i, l, e) = unit_has u h s in
          subst (λ v. (unit_low net n v *ℤ d) ≤ℤ z v) e
          (subst (λ x. (x *ℤ d) ≤ℤ z (unit i)) (low_at i l)
          (subst (λ x. ((linear net n).low i *ℤ d) ≤ℤ x) (same i l) (f.from i l)));
      at_most = λ u h s. let (i, l, e) = unit_has u h s in
          subst (λ v. z v ≤ℤ (net.most v *ℤ d)) e
          (subst (λ x. z (unit i) ≤ℤ (x *ℤ d)) (high_at i l)
          (subst (λ x. x ≤ℤ ((linear net n).high i *ℤ d)) (same i l) (f.upto i l)));
      low = λ m h s. let (j, l, e) = row_has m h s in
          subst (λ v. (row_low net n v *ℤ d) ≤ℤ row_balance net n z v) e
          (subst (λ x. (x *ℤ d) ≤ℤ row_balance net n z (row j)) (floor_at j l)
          (subst (λ x. ((linear net n).floor j *ℤ d) ≤ℤ x) (flow_is j l) (f.enough j l)));
      high = λ m h s. let (j, l, e) = row_has m h s in
          subst (λ v. row_balance net n z v ≤ℤ (row_high net n v *ℤ d)) e
          (subst (λ x. row_balance net n z (row j) ≤ℤ (x *ℤ d)) (ceiling_at j l)
          (subst (λ x. x ≤ℤ ((linear net n).ceiling j *ℤ d)) (flow_is j l) (f.within j l)));
    }
      where
        at_least_one : (d : ℤ) → pos 0 <ℤ d → pos 1 ≤ℤ d
        at_least_one d h = omega (arith, ints)

  -- numbers beside the units and the rows
  pub beside_unit : (zs : List ℤ) → length zs ≡ length (units net n) → (i : ℕ)
      → i < length (units net n) → get_or zs i (pos 0) ≡ beside (units net n) zs (unit i)
  beside_unit zs e i h =
      sym (beside_at (units net n) zs i (IsRising-listed net.graph.units (stays n)) e h)

  pub beside_row : (ys : List ℤ) → length ys ≡ length (rows net n) → (j : ℕ)
      → j < length (rows net n) → get_or ys j (pos 0) ≡ beside (rows net n) ys (row j)
  beside_row ys e j h =
      sym (beside_at (rows net n) ys j
      (IsRising-listed net.graph.materials (mats net.graph (stays n))) e h)

  -- ---- no range of a valid problem's program is empty
  pub is_open : IsNet net → IsOpen (linear net n)
  is_open valid = record {
    boxes = λ i h. let u = below_units i h in
        subst (λ x. x ≤ℤ (linear net n).high i) (sym (low_at i h))
        (subst (λ x. unit_low net n (unit i) ≤ℤ x) (sym (high_at i h))
        (box (n.inside (unit i)) (net.least (unit i)) (net.most (unit i))
        (valid.least_not_negative (unit i) u) (valid.least_within (unit i) u)));
    bands = λ j h. let m = below_rows j h in
        subst (λ x. x ≤ℤ (linear net n).ceiling j) (sym (floor_at j h))
        (subst (λ x. row_low net n (row j) ≤ℤ x) (sym (ceiling_at j h))
        (band (net.graph.raw (row j)) (net.graph.product (row j) || mats net.graph n.inside (row j))
        (net.lower (row j)) (net.upper (row j)) (valid.lower_not_negative (row j) m)
        (valid.lower_within (row j) m)));
  }
    where
      at_below : (xs : List ℕ) (m k : ℕ) → ((u : ℕ) → has xs u ≡ true → u < m) → k < length xs
          → get_or xs k 0 < m
      at_below xs m k h l = h (get_or xs k 0) (has_at xs k l)

      below_units : (i : ℕ) → i < length (units net n) → unit i < net.graph.units
      below_units i h =
          at_below (units net n) net.graph.units i
          (λ u e. has_below net.graph.units (units net n) u
          (AreBelow-listed net.graph.units (stays n)) e) h

      below_rows : (j : ℕ) → j < length (rows net n) → row j < net.graph.materials
      below_rows j h =
          at_below (rows net n) net.graph.materials j
          (λ u e. has_below net.graph.materials (rows net n) u
          (AreBelow-listed net.graph.materials (mats net.graph (stays n))) e) h

      box : (b : Bool) (l m : ℤ) → pos 0 ≤ℤ l → l ≤ℤ m → cond b l (pos 0) ≤ℤ m
      box true l m p h = h
      box false l m p h = omega (arith, ints)

      in_million : (x y : ℤ) → x ≤ℤ y → (million *ℤ x) ≤ℤ (million *ℤ y)
      in_million x y h = mul-le_left million x y h (omega (arith, ints))

      flipped : (x y : ℤ) → x ≤ℤ y → neg_ℤ y ≤ℤ neg_ℤ x
      flipped x y h = omega (arith, ints)

      band : (raw needed : Bool) (l u : ℤ) → pos 0 ≤ℤ l → l ≤ℤ u
          → (million *ℤ cond raw (neg_ℤ u) (cond needed l (pos 0)))
          ≤ℤ (million *ℤ cond raw (neg_ℤ (cond needed l (pos 0))) u)
      band true needed l u p h =
          in_million (neg_ℤ u) (neg_ℤ (cond needed l (pos 0)))
          (flipped (cond needed l (pos 0)) u (box needed l u p h))
      band false needed l u p h = in_million (cond needed l (pos 0)) u (box needed l u p h)
