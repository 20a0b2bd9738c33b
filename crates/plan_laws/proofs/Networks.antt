-- Each design of a plant over its periods is a network of the expanded problem, at the same cost.
use Rattle.std.proofs.Common.{◌≡◌, ◌<◌, ◌≤◌, ◌+◌, ◌-◌, ◌*◌, ℕ, Bool, true, false, cond, ◌&&◌}
use Rattle.std.proofs.Common.{nat_lt, length, ℤ, pos, neg_ℤ, ◌+ℤ◌, ◌*ℤ◌, ◌≤ℤ◌, refl, sym, ap, subst}
use Rattle.std.proofs.Common.{◌∙◌, inl, inr, arith}
use Rattle.std.proofs.lemmas.Int.{ints}
use Rattle.std.proofs.lemmas.Bool.{and_parts, ltb-true, lt-ltb, le-ltb, true≢false, cases_lt}
use Rattle.plan_rules.proofs.integer_laws.Cited.{mul-le_left, mul-le_right, mul_nonneg, le_trans_z}
use Rattle.plan_rules.proofs.integer_laws.Cited.{ring_z}
use Rattle.plan_rules.proofs.integer_laws.Cited.{mul_comm_z, mul_assoc_z, mul-zero_z}
use Rattle.plan_rules.specs.number_sets.Sets.{any_below}
use Rattle.plan_rules.proofs.number_sets.Cited.{any_below-from}
use Rattle.plan_rules.specs.problem_rules.Problem.{Problem, Material, OperatingUnit, material_at}
use Rattle.plan_rules.specs.problem_rules.Problem.{unit_at}
use Rattle.plan_rules.specs.problem_rules.Problem.{is_raw_material}
use Rattle.plan_rules.specs.pns_rules.Shape.{Shape, shape_of, IsProper}
use Rattle.plan_rules.specs.pns_rules.Structure.{mats, IsStructure, IsAllowed}
use Rattle.plan_rules.specs.flow_rules.Net.{Net, net_of, million, low_end, high_end}
use Rattle.plan_rules.specs.flow_rules.Flows.{balance, IsFlows, cost}
use Rattle.plan_rules.proofs.flow_rules.Cited.{IsNet}
use Rattle.plan_rules.specs.Expanded.{copy_of, capacity_of, one, unlimited, expanded}
use Rattle.plan_rules.specs.Plan.{Plan, period_at, material_in, in_period}
use Rattle.plan_rules.specs.Design.{Design, is_built, net_in, IsRun, IsDesign, design_cost}
use Rattle.plan_rules.specs.Folded.{running_number}
use Rattle.plan_laws.specs.DesignLaws.{Runs}
use Rattle.plan_laws.proofs.Blocks.{by_block, by_block_is, in_blocks}
use Rattle.plan_laws.proofs.Places.{unit_count, built_at, running_at, site_at, copy_at}
use Rattle.plan_laws.proofs.Places.{capacity_at, UnitPlace, is_built as at_built, is_running}
use Rattle.plan_laws.proofs.Places.{unit_place, MaterialPlace, is_site, is_copy, is_capacity}
use Rattle.plan_laws.proofs.Places.{material_place}
use Rattle.plan_laws.proofs.Structures.{families_unite, allowed_with, mats_copy}
use Rattle.plan_laws.proofs.Sums.{Agrees, balance_site, balance_capacity, balance_copy}
use Rattle.plan_laws.proofs.Sums.{material_in_period, same_cost}

-- ---- the ends of a material's range

abbrev pub low_of : Material → ℤ
low_of x = million *ℤ cond (is_raw_material x.kind) (neg_ℤ x.upper) x.lower

abbrev pub high_of : Material → ℤ
high_of x = million *ℤ cond (is_raw_material x.kind) (neg_ℤ x.lower) x.upper

pub low_in_period : (p : Problem) (plan : Plan) (proper : IsProper (shape_of p)) (t j : ℕ)
    → t < length plan.periods → j < length p.materials
    → low_end (net_of (expanded p plan)) (copy_of p t j)
    ((net_of (expanded p plan)).lower (copy_of p t j))
    ≡ low_end (net_in p plan t) j ((net_in p plan t).lower j)
low_in_period p plan proper t j lt less =
    ap low_of (copy_at p plan t j lt less)
    ∙ sym (ap low_of (material_in_period p plan proper t j less))

pub high_in_period : (p : Problem) (plan : Plan) (proper : IsProper (shape_of p)) (t j : ℕ)
    → t < length plan.periods → j < length p.materials
    → high_end (net_of (expanded p plan)) (copy_of p t j)
    ((net_of (expanded p plan)).lower (copy_of p t j))
    ≡ high_end (net_in p plan t) j ((net_in p plan t).lower j)
high_in_period p plan proper t j lt less =
    ap high_of (copy_at p plan t j lt less)
    ∙ sym (ap high_of (material_in_period p plan proper t j less))

-- ---- amounts

zero_in_place : (d : ℤ) → pos 0 *ℤ d ≡ pos 0
zero_in_place d = mul_comm_z (pos 0) d ∙ mul-zero_z d

positive_product : (a d : ℤ) → pos 0 ≤ℤ a → pos 1 ≤ℤ d → pos 0 ≤ℤ (a *ℤ d)
positive_product a d h k = mul_nonneg a d h (omega (arith, ints, k))

times_minus : (c u : ℤ) → c *ℤ neg_ℤ u ≡ neg_ℤ (c *ℤ u)
times_minus c u = omega (arith, ring_z)

minus_times : (a d : ℤ) → neg_ℤ a *ℤ d ≡ neg_ℤ (a *ℤ d)
minus_times a d = omega (arith, ring_z)

minus_out : (c u d : ℤ) → (c *ℤ neg_ℤ u) *ℤ d ≡ neg_ℤ (c *ℤ (u *ℤ d))
minus_out c u d = ap (λ x. x *ℤ d) (times_minus c u)
    ∙ (minus_times (c *ℤ u) d ∙ ap neg_ℤ (mul_assoc_z c u d))

-- what is used of the sites, at rate c
site_low : (c u d z : ℤ) → pos 0 ≤ℤ c → z ≤ℤ (u *ℤ d) → ((c *ℤ neg_ℤ u) *ℤ d) ≤ℤ (neg_ℤ c *ℤ z)
site_low c u d z h le = let more = mul-le_left c z (u *ℤ d) le h in let low =
    minus_out c u d in let used = minus_times c z in omega (arith, ints, more, low, used)

site_high : (c d z : ℤ) → pos 0 ≤ℤ c → pos 0 ≤ℤ z → (neg_ℤ c *ℤ z) ≤ℤ ((c *ℤ neg_ℤ (pos 0)) *ℤ d)
site_high c d z h some =
    let whole = mul_nonneg c z h some in
    let none : (c *ℤ neg_ℤ (pos 0)) *ℤ d ≡ pos 0 =
    ap (λ x. x *ℤ d) (mul-zero_z c) ∙ zero_in_place d in
    omega (arith, ring_z, whole, none)

site_idle_low : (c u d : ℤ) → pos 0 ≤ℤ c → pos 0 ≤ℤ u → pos 1 ≤ℤ d → ((c *ℤ neg_ℤ u) *ℤ d) ≤ℤ pos 0
site_idle_low c u d h k l = let whole =
    mul_nonneg c (u *ℤ d) h (positive_product u d k l) in let low =
    minus_out c u d in omega (arith, ints, whole, low)

idle_high : (c d : ℤ) → pos 0 ≤ℤ ((c *ℤ neg_ℤ (pos 0)) *ℤ d)
idle_high c d = let none : (c *ℤ neg_ℤ (pos 0)) *ℤ d ≡ pos 0 =
    ap (λ x. x *ℤ d) (mul-zero_z c) ∙ zero_in_place d in omega (arith, ints, none)

left_low : (c d a b : ℤ) → pos 0 ≤ℤ c → b ≤ℤ a → ((c *ℤ pos 0) *ℤ d) ≤ℤ (c *ℤ a +ℤ neg_ℤ c *ℤ b)
left_low c d a b h le =
    let none : (c *ℤ pos 0) *ℤ d ≡ pos 0 = ap (λ x. x *ℤ d) (mul-zero_z c) ∙ zero_in_place d in
    let more = mul-le_left c b a le h in
    omega (arith, ring_z, more, none)

left_high : (c u d a b : ℤ) → pos 0 ≤ℤ c → a ≤ℤ (u *ℤ d) → pos 0 ≤ℤ b
    → (c *ℤ a +ℤ neg_ℤ c *ℤ b) ≤ℤ ((c *ℤ u) *ℤ d)
left_high c u d a b h le some =
    let more = mul-le_left c a (u *ℤ d) le h in
    let whole = mul_nonneg c b h some in
    omega (arith, ring_z, more, whole)

-- a part that is not there is 0
with_none : (c a b : ℤ) → b ≡ pos 0 → c *ℤ a +ℤ pos 0 ≡ c *ℤ a +ℤ neg_ℤ c *ℤ b
with_none c a b none = let nothing : neg_ℤ c *ℤ b ≡ pos 0 =
    ap (λ x. neg_ℤ c *ℤ x) none ∙ mul-zero_z (neg_ℤ c) in omega (arith, ints, nothing)

module _ (p : Problem) (plan : Plan) (proper : IsProper (shape_of p))
    (proper' : IsProper (shape_of (expanded p plan))) (formed : IsNet (net_of p))
    (limited : (i : ℕ) → i < length p.units → (unit_at p i).upper ≤ℤ unlimited) (y : Design)
    (design : IsDesign p plan y) where
  abbrev n : ℕ
  n = length p.units

  abbrev m : ℕ
  m = length p.materials

  abbrev periods : ℕ
  periods = length plan.periods

  abbrev g : Shape
  g = shape_of (expanded p plan)

  abbrev net : Net
  net = net_of (expanded p plan)

  -- ---- the network

  abbrev kept_capacity : ℕ → ℤ
  kept_capacity i = cond (is_built plan y i) (y.capacity i) (pos 0)

  abbrev pub network_units : ℕ → Bool
  network_units k =
      nat_lt k (n + periods * n) && cond (nat_lt k n) (is_built plan y k)
      (by_block periods n y.runs false (k - n))

  abbrev pub network_sizes : ℕ → ℤ
  network_sizes k = cond (nat_lt k n) (kept_capacity k) (by_block periods n y.size (pos 0) (k - n))

  units_built : (i : ℕ) → i < n → network_units i ≡ is_built plan y i
  units_built i lt =
      ap (λ b. b && cond (nat_lt i n) (is_built plan y i) (by_block periods n y.runs false (i - n)))
      (lt-ltb i (n + periods * n) (omega (arith, lt)))
      ∙ ap (λ b. cond b (is_built plan y i) (by_block periods n y.runs false (i - n)))
      (lt-ltb i n lt)

  units_running : (t i : ℕ) → t < periods → i < n
      → network_units (running_number p t i) ≡ y.runs t i
  units_running t i lt less =
      let k : ℕ = running_number p t i in
      let known = in_blocks t i periods n lt less in
      ap (λ b. b && cond (nat_lt k n) (is_built plan y k) (by_block periods n y.runs false (k - n)))
      (lt-ltb k (n + periods * n) (omega (arith, known)))
      ∙ (ap (λ b. cond b (is_built plan y k) (by_block periods n y.runs false (k - n)))
      (le-ltb k n (omega arith))
      ∙ (ap (by_block periods n y.runs false) (omega arith)
      ∙ by_block_is periods n y.runs false t i lt less))

  sizes_built : (i : ℕ) → i < n → network_sizes i ≡ kept_capacity i
  sizes_built i lt =
      ap (λ b. cond b (kept_capacity i) (by_block periods n y.size (pos 0) (i - n))) (lt-ltb i n lt)

  sizes_running : (t i : ℕ) → t < periods → i < n
      → network_sizes (running_number p t i) ≡ y.size t i
  sizes_running t i lt less =
      let k : ℕ = running_number p t i in
      ap (λ b. cond b (kept_capacity k) (by_block periods n y.size (pos 0) (k - n)))
      (le-ltb k n (omega arith))
      ∙ (ap (by_block periods n y.size (pos 0)) (omega arith)
      ∙ by_block_is periods n y.size (pos 0) t i lt less)

  pub agrees : Agrees p plan y network_units network_sizes
  agrees = record {
    built = units_built;
    running = units_running;
    capacity = λ i lt e. sizes_built i lt ∙ ap (λ b. cond b (y.capacity i) (pos 0)) e;
    size = sizes_running;
  }

  runs_same : Runs p plan network_units y.runs
  runs_same = record {
    running = units_running;
    run_known = λ t i lt e. (design.each_runs t lt).structure.s3 i e;
    known = λ k e.
        let parts =
        and_parts (nat_lt k (n + periods * n))
        (cond (nat_lt k n) (is_built plan y k) (by_block periods n y.runs false (k - n))) e in
        let lt = ltb-true k (n + periods * n) parts.0 in
        let count = unit_count p plan in
        omega (arith, lt, count);
  }

  pub structure : IsStructure g network_units
  structure =
      families_unite p plan proper proper' network_units y.runs runs_same
      (λ t lt. (design.each_runs t lt).structure) units_built

  pub allowed : IsAllowed g network_units
  allowed =
      allowed_with p plan proper proper' network_units y.runs runs_same units_built design.allowed

  -- ---- sizes

  least_built : (i : ℕ) → i < n → net.least i ≡ (net_of p).least i
  least_built i lt = ap (λ (u : OperatingUnit). u.lower) (built_at p plan i lt)

  most_built : (i : ℕ) → i < n → net.most i ≡ (net_of p).most i
  most_built i lt = ap (λ (u : OperatingUnit). u.upper) (built_at p plan i lt)

  least_running : (t i : ℕ) → t < periods → i < n → net.least (running_number p t i) ≡ pos 0
  least_running t i lt less = ap (λ (u : OperatingUnit). u.lower) (running_at p plan t i lt less)

  most_running : (t i : ℕ) → t < periods → i < n
      → net.most (running_number p t i) ≡ (net_of p).most i
  most_running t i lt less = ap (λ (u : OperatingUnit). u.upper) (running_at p plan t i lt less)

  built_where : (t i : ℕ) → t < periods → y.runs t i ≡ true → is_built plan y i ≡ true
  built_where t i lt e = any_below-from periods (λ r. y.runs r i) t lt e

  least_size : (k : ℕ) → k < g.units → network_units k ≡ true
      → (net.least k *ℤ y.d) ≤ℤ network_sizes k
  least_size k lt e =
      elim (unit_place p plan k lt) as (λ _. (net.least k *ℤ y.d) ≤ℤ network_sizes k) [
        | at_built i known is ↦
            let there : is_built plan y i ≡ true =
            sym (units_built i known) ∙ subst (λ u. network_units u ≡ true) is e in
            let size : network_sizes k ≡ y.capacity i =
            ap network_sizes is ∙ agrees.capacity i known there in
            let bound : net.least k *ℤ y.d ≡ (net_of p).least i *ℤ y.d =
            ap (λ x. x *ℤ y.d) (ap net.least is ∙ least_built i known) in
            let holds = design.at_least i known there in
            omega (arith, ints, size, bound, holds)
        | is_running t i before known is ↦
            let there : y.runs t i ≡ true =
            sym (units_running t i before known) ∙ subst (λ u. network_units u ≡ true) is e in
            let size : network_sizes k ≡ y.size t i =
            ap network_sizes is ∙ sizes_running t i before known in
            let bound : net.least k *ℤ y.d ≡ pos 0 =
            ap (λ x. x *ℤ y.d) (ap net.least is ∙ least_running t i before known)
            ∙ zero_in_place y.d in
            let holds = (design.each_runs t before).at_least i known there in
            omega (arith, ints, size, bound, holds)
      ]

  most_size : (k : ℕ) → k < g.units → network_units k ≡ true
      → network_sizes k ≤ℤ (net.most k *ℤ y.d)
  most_size k lt e =
      elim (unit_place p plan k lt) as (λ _. network_sizes k ≤ℤ (net.most k *ℤ y.d)) [
        | at_built i known is ↦
            let there : is_built plan y i ≡ true =
            sym (units_built i known) ∙ subst (λ u. network_units u ≡ true) is e in
            let size : network_sizes k ≡ y.capacity i =
            ap network_sizes is ∙ agrees.capacity i known there in
            let bound : net.most k *ℤ y.d ≡ (net_of p).most i *ℤ y.d =
            ap (λ x. x *ℤ y.d) (ap net.most is ∙ most_built i known) in
            let holds = design.at_most i known there in
            omega (arith, ints, size, bound, holds)
        | is_running t i before known is ↦
            let there : y.runs t i ≡ true =
            sym (units_running t i before known) ∙ subst (λ u. network_units u ≡ true) is e in
            let size : network_sizes k ≡ y.size t i =
            ap network_sizes is ∙ sizes_running t i before known in
            let bound : net.most k *ℤ y.d ≡ (net_of p).most i *ℤ y.d =
            ap (λ x. x *ℤ y.d) (ap net.most is ∙ most_running t i before known) in
            let within = (design.each_runs t before).at_most i known there in
            let holds = design.at_most i known (built_where t i before there) in
            omega (arith, ints, size, bound, within, holds)
      ]

  other_size : (k : ℕ) → k < g.units → network_units k ≡ false → network_sizes k ≡ pos 0
  other_size k lt e =
      elim (unit_place p plan k lt) as (λ _. network_sizes k ≡ pos 0) [
        | at_built i known is ↦
            let there : is_built plan y i ≡ false =
            sym (units_built i known) ∙ subst (λ u. network_units u ≡ false) is e in
            ap network_sizes is
            ∙ (sizes_built i known ∙ ap (λ b. cond b (y.capacity i) (pos 0)) there)
        | is_running t i before known is ↦
            let there : y.runs t i ≡ false =
            sym (units_running t i before known) ∙ subst (λ u. network_units u ≡ false) is e in
            ap network_sizes is
            ∙ (sizes_running t i before known
            ∙ (design.each_runs t before).no_others i known there)
      ]

  -- ---- balances

  -- a capacity that is kept
  kept_positive : (i : ℕ) → i < n → pos 0 ≤ℤ kept_capacity i
  kept_positive i lt = at (is_built plan y i) refl where
    at : (b : Bool) → is_built plan y i ≡ b → pos 0 ≤ℤ cond b (y.capacity i) (pos 0)
    at true e =
        le_trans_z (pos 0) ((net_of p).least i *ℤ y.d) (y.capacity i)
        (positive_product ((net_of p).least i) y.d (formed.least_not_negative i lt) design.positive)
        (design.at_least i lt e)
    at false e = omega (arith, ints)

  kept_limited : (i : ℕ) → i < n → kept_capacity i ≤ℤ (unlimited *ℤ y.d)
  kept_limited i lt = at (is_built plan y i) refl where
    at : (b : Bool) → is_built plan y i ≡ b → cond b (y.capacity i) (pos 0) ≤ℤ (unlimited *ℤ y.d)
    at true e =
        le_trans_z (y.capacity i) ((net_of p).most i *ℤ y.d) (unlimited *ℤ y.d)
        (design.at_most i lt e)
        (mul-le_right ((net_of p).most i) unlimited y.d (limited i lt)
        (let some = design.positive in omega (arith, ints, some)))
    at false e = positive_product unlimited y.d (omega (arith, ints)) design.positive

  -- in a period a unit runs within the capacity that is kept
  run_positive : (t i : ℕ) → t < periods → i < n → pos 0 ≤ℤ y.size t i
  run_positive t i lt less = at (y.runs t i) refl where
    at : (b : Bool) → y.runs t i ≡ b → pos 0 ≤ℤ y.size t i
    at true e = (design.each_runs t lt).at_least i less e
    at false e = let none = (design.each_runs t lt).no_others i less e in omega (arith, ints, none)

  run_within : (t i : ℕ) → t < periods → i < n → y.size t i ≤ℤ kept_capacity i
  run_within t i lt less = at (y.runs t i) refl where
    at : (b : Bool) → y.runs t i ≡ b → y.size t i ≤ℤ kept_capacity i
    at true e =
        let kept : kept_capacity i ≡ y.capacity i =
        ap (λ b. cond b (y.capacity i) (pos 0)) (built_where t i lt e) in
        let within = (design.each_runs t lt).at_most i less e in
        omega (arith, ints, kept, within)
    at false e =
        let none = (design.each_runs t lt).no_others i less e in
        let some = kept_positive i less in
        omega (arith, ints, none, some)

  -- what is left over of a site and of a capacity
  kept_term : (b : Bool) (c x : ℤ) → (b ≡ false → x ≡ pos 0) → cond b (c *ℤ x) (pos 0) ≡ c *ℤ x
  kept_term true c x none = refl
  kept_term false c x none = sym (ap (λ z. c *ℤ z) (none refl) ∙ mul-zero_z c)

  site_balance : (i : ℕ) → i < n
      → balance net network_units network_sizes i ≡ neg_ℤ one *ℤ kept_capacity i
  site_balance i lt =
      let known = unit_count p plan in
      balance_site p plan proper network_units network_sizes i lt
      ∙ (kept_term (network_units i) (neg_ℤ one) (network_sizes i)
      (other_size i (omega (arith, known, lt))) ∙ ap (λ z. neg_ℤ one *ℤ z) (sizes_built i lt))

  capacity_balance : (t i : ℕ) → t < periods → i < n
      → balance net network_units network_sizes (capacity_of p t i)
      ≡ one *ℤ kept_capacity i +ℤ neg_ℤ one *ℤ y.size t i
  capacity_balance t i lt less =
      let count = unit_count p plan in
      let known = in_blocks t i periods n lt less in
      let made =
      kept_term (network_units i) one (network_sizes i)
      (other_size i (omega (arith, count, less))) ∙ ap (λ z. one *ℤ z) (sizes_built i less) in
      let used =
      kept_term (network_units (running_number p t i)) (neg_ℤ one)
      (network_sizes (running_number p t i))
      (other_size (running_number p t i) (omega (arith, count, known)))
      ∙ ap (λ z. neg_ℤ one *ℤ z) (sizes_running t i lt less) in
      balance_capacity p plan proper network_units network_sizes t i lt less ∙ λ k. made k +ℤ used k

  low_balance : (x : ℕ) → x < g.materials → mats g network_units x ≡ true
      → (low_end net x (net.lower x) *ℤ y.d) ≤ℤ balance net network_units network_sizes x
  low_balance x lt e =
      elim (material_place p plan x lt) as (λ _. (low_end net x (net.lower x) *ℤ y.d)
      ≤ℤ balance net network_units network_sizes x) [
        | is_site i known is ↦
            let end : low_end net x (net.lower x) *ℤ y.d ≡ (one *ℤ neg_ℤ unlimited) *ℤ y.d =
            ap (λ a. a *ℤ y.d)
            (ap low_of (ap (material_at (expanded p plan)) is ∙ site_at p plan i known)) in
            let left : balance net network_units network_sizes x ≡ neg_ℤ one *ℤ kept_capacity i =
            ap (balance net network_units network_sizes) is ∙ site_balance i known in
            let holds =
            site_low one unlimited y.d (kept_capacity i) (omega (arith, ints))
            (kept_limited i known) in
            subst (λ a. a ≤ℤ balance net network_units network_sizes x) (sym end)
            (subst (λ b. ((one *ℤ neg_ℤ unlimited) *ℤ y.d) ≤ℤ b) (sym left) holds)
        | is_copy t j before known is ↦
            let end : low_end net x (net.lower x) *ℤ y.d
            ≡ low_end (net_in p plan t) j ((net_in p plan t).lower j) *ℤ y.d =
            ap (λ a. a *ℤ y.d)
            (ap (λ w. low_end net w (net.lower w)) is
            ∙ low_in_period p plan proper t j before known) in
            let left : balance net network_units network_sizes x
            ≡ balance (net_in p plan t) (y.runs t) (y.size t) j =
            ap (balance net network_units network_sizes) is
            ∙ balance_copy p plan proper network_units network_sizes y agrees t j before
            known in
            let there : mats (shape_of p) (y.runs t) j ≡ true =
            sym (mats_copy p plan proper proper' network_units y.runs runs_same t j before
            known) ∙ (ap (mats g network_units) (sym is) ∙ e) in
            let holds = (design.each_runs t before).low j known there in
            subst (λ a. a ≤ℤ balance net network_units network_sizes x) (sym end)
            (subst (λ b. (low_end (net_in p plan t) j ((net_in p plan t).lower j) *ℤ y.d) ≤ℤ b)
            (sym left) holds)
        | is_capacity t i before known is ↦
            let end : low_end net x (net.lower x) *ℤ y.d ≡ (one *ℤ pos 0) *ℤ y.d =
            ap (λ a. a *ℤ y.d)
            (ap low_of (ap (material_at (expanded p plan)) is
            ∙ capacity_at p plan t i before known)) in
            let left : balance net network_units network_sizes x
            ≡ one *ℤ kept_capacity i +ℤ neg_ℤ one *ℤ y.size t i =
            ap (balance net network_units network_sizes) is
            ∙ capacity_balance t i before known in
            let holds =
            left_low one y.d (kept_capacity i) (y.size t i) (omega (arith, ints))
            (run_within t i before known) in
            subst (λ a. a ≤ℤ balance net network_units network_sizes x) (sym end)
            (subst (λ b. ((one *ℤ pos 0) *ℤ y.d) ≤ℤ b) (sym left) holds)
      ]

  high_balance : (x : ℕ) → x < g.materials → mats g network_units x ≡ true
      → balance net network_units network_sizes x ≤ℤ (high_end net x (net.lower x) *ℤ y.d)
  high_balance x lt e =
      elim (material_place p plan x lt) as (λ _. balance net network_units network_sizes x
      ≤ℤ (high_end net x (net.lower x) *ℤ y.d)) [
        | is_site i known is ↦
            let end : high_end net x (net.lower x) *ℤ y.d ≡ (one *ℤ neg_ℤ (pos 0)) *ℤ y.d =
            ap (λ a. a *ℤ y.d)
            (ap high_of (ap (material_at (expanded p plan)) is ∙ site_at p plan i known)) in
            let left : balance net network_units network_sizes x ≡ neg_ℤ one *ℤ kept_capacity i =
            ap (balance net network_units network_sizes) is ∙ site_balance i known in
            let holds =
            site_high one y.d (kept_capacity i) (omega (arith, ints)) (kept_positive i known) in
            subst (λ a. balance net network_units network_sizes x ≤ℤ a) (sym end)
            (subst (λ b. b ≤ℤ ((one *ℤ neg_ℤ (pos 0)) *ℤ y.d)) (sym left) holds)
        | is_copy t j before known is ↦
            let end : high_end net x (net.lower x) *ℤ y.d
            ≡ high_end (net_in p plan t) j ((net_in p plan t).lower j) *ℤ y.d =
            ap (λ a. a *ℤ y.d)
            (ap (λ w. high_end net w (net.lower w)) is
            ∙ high_in_period p plan proper t j before known) in
            let left : balance net network_units network_sizes x
            ≡ balance (net_in p plan t) (y.runs t) (y.size t) j =
            ap (balance net network_units network_sizes) is
            ∙ balance_copy p plan proper network_units network_sizes y agrees t j before
            known in
            let there : mats (shape_of p) (y.runs t) j ≡ true =
            sym (mats_copy p plan proper proper' network_units y.runs runs_same t j before
            known) ∙ (ap (mats g network_units) (sym is) ∙ e) in
            let holds = (design.each_runs t before).high j known there in
            subst (λ a. balance net network_units network_sizes x ≤ℤ a) (sym end)
            (subst (λ b. b ≤ℤ (high_end (net_in p plan t) j ((net_in p plan t).lower j) *ℤ y.d))
            (sym left) holds)
        | is_capacity t i before known is ↦
            let end : high_end net x (net.lower x) *ℤ y.d ≡ (one *ℤ unlimited) *ℤ y.d =
            ap (λ a. a *ℤ y.d)
            (ap high_of (ap (material_at (expanded p plan)) is
            ∙ capacity_at p plan t i before known)) in
            let left : balance net network_units network_sizes x
            ≡ one *ℤ kept_capacity i +ℤ neg_ℤ one *ℤ y.size t i =
            ap (balance net network_units network_sizes) is
            ∙ capacity_balance t i before known in
            let holds =
            left_high one unlimited y.d (kept_capacity i) (y.size t i) (omega (arith, ints))
            (kept_limited i known) (run_positive t i before known) in
            subst (λ a. balance net network_units network_sizes x ≤ℤ a) (sym end)
            (subst (λ b. b ≤ℤ ((one *ℤ unlimited) *ℤ y.d)) (sym left) holds)
      ]

  pub flows : IsFlows net network_units network_sizes y.d
  flows = record {
    positive = design.positive;
    at_least = least_size;
    at_most = most_size;
    no_others = other_size;
    low = low_balance;
    high = high_balance;
  }

  pub costs : cost net network_units network_sizes y.d ≡ design_cost p plan y
  costs = same_cost p plan proper network_units network_sizes y.d y refl agrees
