-- What the units of an expanded problem's network leave over of each material, and what it costs:
-- the numbers of a design.
use Rattle.std.proofs.Common.{◌≡◌, ◌≢◌, ◌<◌, ◌≤◌, ◌+◌, ◌*◌, ℕ, Bool, true, false, cond, length, ℤ}
use Rattle.std.proofs.Common.{pos, neg_ℤ, ◌+ℤ◌, ◌-ℤ◌, ◌*ℤ◌, refl, sym, ap, subst, ◌∙◌, arith}
use Rattle.std.proofs.lemmas.Int.{ints}
use Rattle.std.proofs.lemmas.List.FromFn.{get_or-map-range_with_len}
use Rattle.plan_rules.specs.integer_laws.Total.{total_below}
use Rattle.plan_rules.proofs.integer_laws.Cited.{total_below-same, total_below-zero}
use Rattle.plan_rules.proofs.integer_laws.Cited.{total_below-add}
use Rattle.plan_rules.proofs.integer_laws.Cited.{total_below-neg, total_below-single}
use Rattle.plan_rules.proofs.integer_laws.Cited.{total_below-split}
use Rattle.plan_rules.proofs.integer_laws.Cited.{ring_z, mul_comm_z, mul-zero_z}
use Rattle.plan_rules.specs.problem_rules.Problem.{Problem, Material, OperatingUnit, material_at}
use Rattle.plan_rules.specs.problem_rules.Problem.{unit_at}
use Rattle.plan_rules.specs.problem_rules.Problem.{no_material, rate_of}
use Rattle.plan_rules.specs.pns_rules.Shape.{Shape, shape_of, IsProper}
use Rattle.plan_rules.specs.flow_rules.Net.{Net, net_of, million, trillion, size_cost}
use Rattle.plan_rules.specs.flow_rules.Flows.{balance, cost}
use Rattle.plan_rules.proofs.flow_rules.Cited.{total-listed}
use Rattle.plan_rules.specs.Expanded.{first_of, copy_of, capacity_of, one, expanded}
use Rattle.plan_rules.specs.Plan.{Plan, period_at, price_at, material_in, in_period}
use Rattle.plan_rules.specs.Design.{Design, is_built, net_in, building_cost, earned, design_cost}
use Rattle.plan_rules.specs.Folded.{running_number}
use Rattle.plan_laws.proofs.Blocks.{total_blocks}
use Rattle.plan_laws.proofs.Places.{unit_count, material_count, built_at, running_at, site_at}
use Rattle.plan_laws.proofs.Places.{copy_at, capacity_at}
use Rattle.plan_laws.proofs.Arcs.{site_rate, site_rate_other, site_rate_running, copy_rate_built}
use Rattle.plan_laws.proofs.Arcs.{copy_rate, copy_rate_other, capacity_rate, capacity_rate_other}
use Rattle.plan_laws.proofs.Arcs.{capacity_rate_running, capacity_rate_running_other}

-- ---- sums of nothing

all_zero : (k : ℕ) (f : ℕ → ℤ) → ((i : ℕ) → i < k → f i ≡ pos 0) → total_below k f ≡ pos 0
all_zero k f none = total_below-same k f (λ i. pos 0) none ∙ total_below-zero k

zero_times : (r z : ℤ) → r ≡ pos 0 → r *ℤ z ≡ pos 0
zero_times r z e = ap (λ x. x *ℤ z) e ∙ (mul_comm_z (pos 0) z ∙ mul-zero_z z)

times_zero : (r z : ℤ) → z ≡ pos 0 → r *ℤ z ≡ pos 0
times_zero r z e = ap (λ x. r *ℤ x) e ∙ mul-zero_z r

no_term : (b : Bool) (r z : ℤ) → r ≡ pos 0 → cond b (r *ℤ z) (pos 0) ≡ pos 0
no_term true r z e = zero_times r z e
no_term false r z e = refl

same_term : (b c : Bool) (x y : ℤ) → b ≡ c → (c ≡ true → x ≡ y)
    → cond b x (pos 0) ≡ cond c y (pos 0)
same_term b true x y e h = ap (λ d. cond d x (pos 0)) e ∙ h refl
same_term b false x y e h = ap (λ d. cond d x (pos 0)) e

lost_term : (b : Bool) (x : ℤ) → cond b (neg_ℤ x) (pos 0) ≡ neg_ℤ (cond b x (pos 0))
lost_term true x = refl
lost_term false x = refl

none_first : (a b c : ℤ) → a ≡ pos 0 → b ≡ c → a +ℤ b ≡ c
none_first a b c e f = omega (arith, ints, e, f)

none_last : (a b c : ℤ) → b ≡ pos 0 → a ≡ c → a +ℤ b ≡ c
none_last a b c e f = omega (arith, ints, e, f)

-- the set and the sizes are those of the design: which units are built and run, at which capacities
-- and sizes
pub record Agrees (p : Problem) (plan : Plan) (x : Design) (s : ℕ → Bool) (z : ℕ → ℤ) : Type 0 where
  pub built : (i : ℕ) → i < length p.units → s i ≡ is_built plan x i
  pub running : (t i : ℕ) → t < length plan.periods → i < length p.units
      → s (running_number p t i) ≡ x.runs t i
  pub capacity : (i : ℕ) → i < length p.units → is_built plan x i ≡ true → z i ≡ x.capacity i
  pub size : (t i : ℕ) → t < length plan.periods → i < length p.units
      → z (running_number p t i) ≡ x.size t i

module _ (p : Problem) (plan : Plan) (proper : IsProper (shape_of p)) where
  abbrev n : ℕ
  n = length p.units

  abbrev m : ℕ
  m = length p.materials

  abbrev periods : ℕ
  periods = length plan.periods

  abbrev net : Net
  net = net_of (expanded p plan)

  abbrev rate : ℕ → ℕ → ℤ
  rate = rate_of (expanded p plan)

  pub sum_units : (f : ℕ → ℤ) → total_below (length (expanded p plan).units) f
      ≡ total_below n f +ℤ total_below periods (λ t. total_below n (λ i. f (running_number p t i)))
  sum_units f =
      ap (λ k. total_below k f) (unit_count p plan)
      ∙ (total_below-split n (periods * n) f
      ∙ ap (λ x. total_below n f +ℤ x)
      (total_blocks periods n (λ k. f (n + k))
      ∙ total_below-same periods (λ t. total_below n (λ i. f (n + (t * n + i))))
      (λ t. total_below n (λ i. f (running_number p t i)))
      (λ t lt. total_below-same n (λ i. f (n + (t * n + i))) (λ i. f (running_number p t i))
      (λ i less. ap f (omega arith)))))

  in_period_sum : (f : ℕ → ℤ) (t : ℕ)
      → total_below (m + n) (λ i. f (n + (t * (m + n) + i)))
      ≡ total_below m (λ j. f (copy_of p t j)) +ℤ total_below n (λ i. f (capacity_of p t i))
  in_period_sum f t =
      let first : total_below m (λ i. f (n + (t * (m + n) + i)))
      ≡ total_below m (λ j. f (copy_of p t j)) =
      total_below-same m (λ i. f (n + (t * (m + n) + i))) (λ j. f (copy_of p t j))
      (λ j less. ap f (omega arith)) in
      let last : total_below n (λ i. f (n + (t * (m + n) + (m + i))))
      ≡ total_below n (λ i. f (capacity_of p t i)) =
      total_below-same n (λ i. f (n + (t * (m + n) + (m + i)))) (λ i. f (capacity_of p t i))
      (λ i less. ap f (omega arith)) in
      total_below-split m n (λ i. f (n + (t * (m + n) + i))) ∙ λ k. first k +ℤ last k

  pub sum_materials : (f : ℕ → ℤ)
      → total_below (length (expanded p plan).materials) f
      ≡ total_below n f +ℤ total_below periods
      (λ t. total_below m (λ j. f (copy_of p t j)) +ℤ total_below n (λ i. f (capacity_of p t i)))
  sum_materials f =
      ap (λ k. total_below k f) (material_count p plan)
      ∙ (total_below-split n (periods * (m + n)) f
      ∙ ap (λ x. total_below n f +ℤ x)
      (total_blocks periods (m + n) (λ k. f (n + k))
      ∙ total_below-same periods (λ t. total_below (m + n) (λ i. f (n + (t * (m + n) + i))))
      (λ t. total_below m (λ j. f (copy_of p t j)) +ℤ total_below n
      (λ i. f (capacity_of p t i)))
      (λ t lt. in_period_sum f t)))

  module _ (s : ℕ → Bool) (z : ℕ → ℤ) where
    abbrev term : ℕ → ℕ → ℤ
    term x k = cond (s k) (rate x k *ℤ z k) (pos 0)

    balance_is : (x : ℕ) → balance net s z x
        ≡ total_below n (term x) +ℤ total_below periods
        (λ t. total_below n (λ i. term x (running_number p t i)))
    balance_is x = total-listed (λ k. rate x k *ℤ z k) (length (expanded p plan).units) s
        ∙ sum_units (term x)

    -- what a unit is built of
    pub balance_site : (j : ℕ) → j < n → balance net s z j ≡ cond (s j) (neg_ℤ one *ℤ z j) (pos 0)
    balance_site j lt =
        balance_is j
        ∙ none_last (total_below n (term j))
        (total_below periods (λ t. total_below n (λ i. term j (running_number p t i))))
        (cond (s j) (neg_ℤ one *ℤ z j) (pos 0))
        (all_zero periods (λ t. total_below n (λ i. term j (running_number p t i)))
        (λ t before. all_zero n (λ i. term j (running_number p t i)) (λ i known.
        no_term (s (running_number p t i)) (rate j (running_number p t i))
        (z (running_number p t i)) (site_rate_running p plan proper t i j before known lt))))
        (total_below-single n j (term j) lt
        (λ i known other. no_term (s i) (rate j i) (z i)
        (site_rate_other p plan proper i j known lt (λ e. other (sym e))))
        ∙ ap (λ r. cond (s j) (r *ℤ z j) (pos 0)) (site_rate p plan proper j lt))

    -- the capacity of a unit in a period
    pub balance_capacity : (t j : ℕ) → t < periods → j < n
        → balance net s z (capacity_of p t j)
        ≡ cond (s j) (one *ℤ z j) (pos 0) +ℤ cond (s (running_number p t j))
        (neg_ℤ one *ℤ z (running_number p t j)) (pos 0)
    balance_capacity t j lt less =
        let x : ℕ = capacity_of p t j in
        let made : total_below n (term x) ≡ cond (s j) (one *ℤ z j) (pos 0) =
        total_below-single n j (term x) less
        (λ i known other. no_term (s i) (rate x i) (z i)
        (capacity_rate_other p plan proper t i j known less other))
        ∙ ap (λ r. cond (s j) (r *ℤ z j) (pos 0)) (capacity_rate p plan proper t j lt less) in
        let used : total_below periods (λ r. total_below n (λ i. term x (running_number p r i)))
        ≡ cond (s (running_number p t j)) (neg_ℤ one *ℤ z (running_number p t j)) (pos 0) =
        total_below-single periods t (λ r. total_below n (λ i. term x (running_number p r i))) lt
        (λ r before other. all_zero n (λ i. term x (running_number p r i)) (λ i known.
        no_term (s (running_number p r i)) (rate x (running_number p r i))
        (z (running_number p r i))
        (capacity_rate_running_other p plan proper r t i j before known less (λ e. other e.0))))
        ∙ (total_below-single n j (λ i. term x (running_number p t i)) less
        (λ i known other. no_term (s (running_number p t i)) (rate x (running_number p t i))
        (z (running_number p t i))
        (capacity_rate_running_other p plan proper t t i j lt known less (λ e. other e.1)))
        ∙ ap (λ r. cond (s (running_number p t j)) (r *ℤ z (running_number p t j)) (pos 0))
        (capacity_rate_running p plan proper t j lt less)) in
        balance_is x ∙ λ i. made i +ℤ used i

    module _ (y : Design) (agrees : Agrees p plan y s z) where
      -- a material of the plant in a period
      pub balance_copy : (t j : ℕ) → t < periods → j < m
          → balance net s z (copy_of p t j) ≡ balance (net_in p plan t) (y.runs t) (y.size t) j
      balance_copy t j lt less =
          let x : ℕ = copy_of p t j in
          balance_is x
          ∙ (none_first (total_below n (term x))
          (total_below periods (λ r. total_below n (λ i. term x (running_number p r i))))
          (total_below n (λ i. cond (y.runs t i) (rate_of p j i *ℤ y.size t i) (pos 0)))
          (all_zero n (term x)
          (λ i known. no_term (s i) (rate x i) (z i)
          (copy_rate_built p plan proper t i j known less)))
          (total_below-single periods t (λ r. total_below n (λ i. term x (running_number p r i))) lt
          (λ r before other. all_zero n (λ i. term x (running_number p r i)) (λ i known.
          no_term (s (running_number p r i)) (rate x (running_number p r i))
          (z (running_number p r i))
          (copy_rate_other p plan proper r t i j before known less other)))
          ∙ total_below-same n (λ i. term x (running_number p t i))
          (λ i. cond (y.runs t i) (rate_of p j i *ℤ y.size t i) (pos 0))
          (λ i known. same_term (s (running_number p t i)) (y.runs t i)
          (rate x (running_number p t i) *ℤ z (running_number p t i))
          (rate_of p j i *ℤ y.size t i) (agrees.running t i lt known)
          (λ e. λ k. copy_rate p plan proper t i j lt known less k *ℤ agrees.size t i lt known k)))
          ∙ sym (total-listed (λ i. rate_of p j i *ℤ y.size t i) n (y.runs t)))

  -- ---- costs

  no_price : (years price : ℤ) → price ≡ pos 0 → years *ℤ price ≡ pos 0
  no_price years price e = times_zero years price e

  site_price : (i : ℕ) → i < n → net.price i ≡ pos 0
  site_price i lt =
      no_price p.payout (material_at (expanded p plan) i).price
      (ap (λ (x : Material). x.price) (site_at p plan i lt))

  capacity_price : (t i : ℕ) → t < periods → i < n → net.price (capacity_of p t i) ≡ pos 0
  capacity_price t i lt less =
      no_price p.payout (material_at (expanded p plan) (capacity_of p t i)).price
      (ap (λ (x : Material). x.price) (capacity_at p plan t i lt less))

  pub material_in_period : (t j : ℕ) → j < m
      → material_at (in_period p (period_at plan t)) j ≡ material_in p (period_at plan t) j
  material_in_period t j less =
      get_or-map-range_with_len (material_in p (period_at plan t)) 0 m j j no_material less
      (omega arith)

  copy_price : (t j : ℕ) → t < periods → j < m
      → net.price (copy_of p t j) ≡ (net_in p plan t).price j
  copy_price t j lt less =
      ap (λ (x : Material). p.payout *ℤ x.price) (copy_at p plan t j lt less)
      ∙ sym (ap (λ (x : Material). p.payout *ℤ x.price) (material_in_period t j less))

  pub built_fix : (i : ℕ) → i < n → net.fix i ≡ (net_of p).fix i
  built_fix i lt =
      ap (λ (u : OperatingUnit). p.payout *ℤ u.fix +ℤ u.investment_fix) (built_at p plan i lt)

  built_proportional : (i : ℕ) → i < n → net.proportional i ≡ (net_of p).proportional i
  built_proportional i lt =
      ap (λ (u : OperatingUnit). p.payout *ℤ u.proportional +ℤ u.investment_proportional)
      (built_at p plan i lt)

  abbrev earning : ℕ → ℕ → ℤ
  earning k x = net.price x *ℤ rate x k

  built_earns_nothing : (i : ℕ) → i < n
      → total_below (length (expanded p plan).materials) (earning i) ≡ pos 0
  built_earns_nothing i lt =
      sum_materials (earning i)
      ∙ none_first (total_below n (earning i))
      (total_below periods
      (λ t. total_below m (λ j. earning i (copy_of p t j)) +ℤ total_below n
      (λ j. earning i (capacity_of p t j)))) (pos 0)
      (all_zero n (earning i) (λ j known. zero_times (net.price j) (rate j i) (site_price j known)))
      (all_zero periods
      (λ t. total_below m (λ j. earning i (copy_of p t j)) +ℤ total_below n
      (λ j. earning i (capacity_of p t j))) (λ t before.
      none_first (total_below m (λ j. earning i (copy_of p t j)))
      (total_below n (λ j. earning i (capacity_of p t j))) (pos 0)
      (all_zero m (λ j. earning i (copy_of p t j))
      (λ j known. times_zero (net.price (copy_of p t j)) (rate (copy_of p t j) i)
      (copy_rate_built p plan proper t i j lt known)))
      (all_zero n (λ j. earning i (capacity_of p t j))
      (λ j known. zero_times (net.price (capacity_of p t j)) (rate (capacity_of p t j) i)
      (capacity_price t j before known)))))

  built_size_cost : (i : ℕ) → i < n → size_cost net i ≡ (net_of p).proportional i *ℤ million
  built_size_cost i lt =
      let earns = built_earns_nothing i lt in
      let each : net.proportional i *ℤ million ≡ (net_of p).proportional i *ℤ million =
      ap (λ x. x *ℤ million) (built_proportional i lt) in
      omega (arith, ints, earns, each)

  -- what a unit earns for its size in a period
  abbrev gain : ℕ → ℕ → ℤ
  gain t i = total_below m (λ j. (net_in p plan t).price j *ℤ rate_of p j i)

  running_earns : (t i : ℕ) → t < periods → i < n
      → total_below (length (expanded p plan).materials) (earning (running_number p t i)) ≡ gain t i
  running_earns t i lt less =
      let k : ℕ = running_number p t i in
      sum_materials (earning k)
      ∙ none_first (total_below n (earning k))
      (total_below periods
      (λ r. total_below m (λ j. earning k (copy_of p r j)) +ℤ total_below n
      (λ j. earning k (capacity_of p r j)))) (gain t i)
      (all_zero n (earning k) (λ j known. zero_times (net.price j) (rate j k) (site_price j known)))
      (total_below-single periods t
      (λ r. total_below m (λ j. earning k (copy_of p r j)) +ℤ total_below n
      (λ j. earning k (capacity_of p r j))) lt
      (λ r before other.
      none_first (total_below m (λ j. earning k (copy_of p r j)))
      (total_below n (λ j. earning k (capacity_of p r j))) (pos 0)
      (all_zero m (λ j. earning k (copy_of p r j))
      (λ j known. times_zero (net.price (copy_of p r j)) (rate (copy_of p r j) k)
      (copy_rate_other p plan proper t r i j lt less known (λ e. other (sym e)))))
      (all_zero n (λ j. earning k (capacity_of p r j))
      (λ j known. zero_times (net.price (capacity_of p r j)) (rate (capacity_of p r j) k)
      (capacity_price r j before known))))
      ∙ none_last (total_below m (λ j. earning k (copy_of p t j)))
      (total_below n (λ j. earning k (capacity_of p t j))) (gain t i)
      (all_zero n (λ j. earning k (capacity_of p t j))
      (λ j known. zero_times (net.price (capacity_of p t j)) (rate (capacity_of p t j) k)
      (capacity_price t j lt known)))
      (total_below-same m (λ j. earning k (copy_of p t j))
      (λ j. (net_in p plan t).price j *ℤ rate_of p j i)
      (λ j known. λ d. copy_price t j lt known d *ℤ copy_rate p plan proper t i j lt less known d)))

  running_proportional : (t i : ℕ) → t < periods → i < n
      → net.proportional (running_number p t i) ≡ pos 0
  running_proportional t i lt less =
      ap (λ (u : OperatingUnit). p.payout *ℤ u.proportional +ℤ u.investment_proportional)
      (running_at p plan t i lt less)
      ∙ none_first (p.payout *ℤ pos 0) (pos 0) (pos 0) (mul-zero_z p.payout) refl

  running_fix : (t i : ℕ) → t < periods → i < n → net.fix (running_number p t i) ≡ pos 0
  running_fix t i lt less =
      ap (λ (u : OperatingUnit). p.payout *ℤ u.fix +ℤ u.investment_fix)
      (running_at p plan t i lt less)
      ∙ none_first (p.payout *ℤ pos 0) (pos 0) (pos 0) (mul-zero_z p.payout) refl

  running_size_cost : (t i : ℕ) → t < periods → i < n
      → size_cost net (running_number p t i) ≡ neg_ℤ (gain t i)
  running_size_cost t i lt less =
      let earns = running_earns t i lt less in
      let none : net.proportional (running_number p t i) *ℤ million ≡ pos 0 =
      zero_times (net.proportional (running_number p t i)) million
      (running_proportional t i lt less) in
      omega (arith, ints, earns, none)

  module _ (s : ℕ → Bool) (z : ℕ → ℤ) (d : ℤ) (y : Design) (same_d : y.d ≡ d)
      (agrees : Agrees p plan y s z) where
    abbrev spent : ℕ → ℤ
    spent k = (net.fix k *ℤ trillion) *ℤ d +ℤ size_cost net k *ℤ z k

    abbrev spent_building : ℕ → ℤ
    spent_building i =
        ((net_of p).fix i *ℤ trillion) *ℤ y.d +ℤ ((net_of p).proportional i *ℤ million) *ℤ
        y.capacity i

    built_part : total_below n (λ k. cond (s k) (spent k) (pos 0)) ≡ building_cost p plan y
    built_part =
        total_below-same n (λ k. cond (s k) (spent k) (pos 0))
        (λ i. cond (is_built plan y i) (spent_building i) (pos 0))
        (λ i known. same_term (s i) (is_built plan y i) (spent i) (spent_building i)
        (agrees.built i known)
        (λ e. λ k. (built_fix i known k *ℤ trillion) *ℤ sym same_d k +ℤ built_size_cost i known k *ℤ
        agrees.capacity i known e k))
        ∙ sym (total-listed spent_building n (is_built plan y))

    lost : (a b c x : ℤ) → a ≡ pos 0 → b ≡ neg_ℤ c → (a *ℤ trillion) *ℤ d +ℤ b *ℤ x ≡ neg_ℤ (c *ℤ x)
    lost a b c x none minus =
        let first : (a *ℤ trillion) *ℤ d ≡ pos 0 =
        zero_times (a *ℤ trillion) d (zero_times a trillion none) in
        let last : b *ℤ x ≡ neg_ℤ c *ℤ x = ap (λ w. w *ℤ x) minus in
        omega (arith, ring_z, first, last)

    run_part : (t : ℕ) → t < periods
        → total_below n
        (λ i. cond (s (running_number p t i)) (spent (running_number p t i)) (pos 0))
        ≡ neg_ℤ (earned p plan y t)
    run_part t lt =
        total_below-same n
        (λ i. cond (s (running_number p t i)) (spent (running_number p t i)) (pos 0))
        (λ i. neg_ℤ (cond (y.runs t i) (gain t i *ℤ y.size t i) (pos 0)))
        (λ i known.
        same_term (s (running_number p t i)) (y.runs t i) (spent (running_number p t i))
        (neg_ℤ (gain t i *ℤ y.size t i)) (agrees.running t i lt known)
        (λ e. lost (net.fix (running_number p t i)) (size_cost net (running_number p t i))
        (gain t i) (z (running_number p t i)) (running_fix t i lt known)
        (running_size_cost t i lt known)
        ∙ ap (λ w. neg_ℤ (gain t i *ℤ w)) (agrees.size t i lt known))
        ∙ lost_term (y.runs t i) (gain t i *ℤ y.size t i))
        ∙ (total_below-neg n (λ i. cond (y.runs t i) (gain t i *ℤ y.size t i) (pos 0))
        ∙ ap neg_ℤ (sym (total-listed (λ i. gain t i *ℤ y.size t i) n (y.runs t))))

    -- the network costs what the design costs
    pub same_cost : cost net s z d ≡ design_cost p plan y
    same_cost =
        let runs : total_below periods
        (λ t. total_below n
        (λ i. cond (s (running_number p t i)) (spent (running_number p t i)) (pos 0)))
        ≡ neg_ℤ (total_below periods (earned p plan y)) =
        total_below-same periods
        (λ t. total_below n
        (λ i. cond (s (running_number p t i)) (spent (running_number p t i)) (pos 0)))
        (λ t. neg_ℤ (earned p plan y t)) run_part
        ∙ total_below-neg periods (earned p plan y) in
        let all = total-listed spent (length (expanded p plan).units) s
        ∙ sum_units (λ k. cond (s k) (spent k) (pos 0)) in
        let built = built_part in
        omega (arith, ints, all, runs, built)
