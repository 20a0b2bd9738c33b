-- The net of a problem with another value in the spot: that of the problem, at other costs.
use Rattle.std.proofs.Common.{◌≡◌, ℕ, ◌==◌, Bool, cond, List, [], ◌∷◌, ◌++◌, length, ℤ, pos, ◌+ℤ◌}
use Rattle.std.proofs.Common.{◌-ℤ◌, ◌*ℤ◌, refl, sym, ap, ◌∙◌, subst}
use Rattle.std.proofs.Math.ListN.{length-set}
use Rattle.report_rules.specs.integer_laws.Total.{total_below}
use Rattle.report_rules.specs.number_sets.Sets.{has}
use Rattle.report_rules.specs.problem_rules.Problem.{Problem, material_at, unit_at, exclusion_at}
use Rattle.report_rules.specs.problem_rules.Problem.{rate_of}
use Rattle.report_rules.specs.problem_rules.Problem.{rate_in, terms_have, is_raw_material}
use Rattle.report_rules.specs.problem_rules.Problem.{is_product}
use Rattle.report_rules.specs.pns_rules.Shape.{shape_of}
use Rattle.report_rules.specs.pns_rules.Structure.{IsStructure, IsAllowed}
use Rattle.report_rules.specs.flow_rules.Net.{Net, net_of, trillion, million, size_cost, units_of}
use Rattle.report_rules.specs.flow_rules.Net.{materials_of}
use Rattle.report_rules.specs.flow_rules.Flows.{IsFlows, cost}
use Rattle.report_rules.specs.flow_rules.Steps.{AreInRange}
use Rattle.report_rules.specs.flow_rules.CostSteps.{cost_steps}
use Rattle.report_rules.specs.flow_rules.FeasibleSteps.{units_at, balance_steps, materials_steps}
use Rattle.report_rules.specs.flow_rules.FeasibleSteps.{feasible_steps}
use Rattle.report_rules.specs.tree_rules.Claim.{Network, size_in, IsFeasible}
use Rattle.report_rules.specs.declared.spot.Spot.{Spot}
use Rattle.report_rules.specs.declared.spot.Spot.TheVariants.{Price, Fix, Proportional}
use Rattle.report_rules.specs.Spot.{KnowsSpot, valued}
use Rattle.report_rules.specs.Range.{repriced}
use Rattle.stability_laws.specs.Laws.{IsLine}
use Rattle.stability_laws.proofs.LineLemmas.{constant, itself, added, subtracted, times, by}
use Rattle.stability_laws.proofs.LineLemmas.{either_line, total_line, total_below_line}
use Rattle.stability_laws.proofs.ValuedLemmas.{material_valued, unit_fixed, unit_proportioned}

abbrev at_costs : Net → (ℕ → ℤ) → (ℕ → ℤ) → (ℕ → ℤ) → Net
at_costs net price fix proportional =
    record net { price = price; fix = fix; proportional = proportional }

-- ---- the costs with the value in the spot

abbrev price_in : Problem → Spot → ℤ → ℕ → ℤ
price_in p (Price x) v j = p.payout *ℤ cond (x == j) v (material_at p j).price
price_in p (Fix u) v j = (net_of p).price j
price_in p (Proportional u) v j = (net_of p).price j

abbrev pub fix_in : Problem → Spot → ℤ → ℕ → ℤ
fix_in p (Price x) v k = (net_of p).fix k
fix_in p (Fix u) v k = p.payout *ℤ cond (u == k) v (unit_at p k).fix +ℤ (unit_at p k).investment_fix
fix_in p (Proportional u) v k = (net_of p).fix k

abbrev proportional_in : Problem → Spot → ℤ → ℕ → ℤ
proportional_in p (Price x) v k = (net_of p).proportional k
proportional_in p (Fix u) v k = (net_of p).proportional k
proportional_in p (Proportional u) v k =
    p.payout *ℤ cond (u == k) v (unit_at p k).proportional +ℤ (unit_at p k).investment_proportional

abbrev pub net_in : Problem → Spot → ℤ → Net
net_in p spot v =
    at_costs (net_of p) (price_in p spot v) (fix_in p spot v) (proportional_in p spot v)

pub net_valued : (p : Problem) (spot : Spot) → KnowsSpot p spot → (v : ℤ)
    → net_of (valued p spot v) ≡ net_in p spot v
net_valued p (Price x) h v = λ i. record {
  graph = record {
    materials = length-set p.materials x (record (material_at p x) { price = v }) i;
    units = length p.units;
    raw = λ j. is_raw_material (material_valued p x v h j i).kind;
    product = λ j. is_product (material_valued p x v h j i).kind;
    uses = λ u j. terms_have (unit_at p u).inputs j;
    makes = λ u j. terms_have (unit_at p u).outputs j;
    exclusions = length p.exclusions;
    excludes = λ k u. has (exclusion_at p k).units u;
  };
  lower = λ j. (material_valued p x v h j i).lower;
  upper = λ j. (material_valued p x v h j i).upper;
  price = λ j. p.payout *ℤ (material_valued p x v h j i).price;
  least = λ k. (unit_at p k).lower;
  most = λ k. (unit_at p k).upper;
  fix = λ k. p.payout *ℤ (unit_at p k).fix +ℤ (unit_at p k).investment_fix;
  proportional =
      λ k. p.payout *ℤ (unit_at p k).proportional +ℤ (unit_at p k).investment_proportional;
  rate = rate_of p;
}
net_valued p (Fix u) h v = λ i. record {
  graph = record {
    materials = length p.materials;
    units = length-set p.units u (record (unit_at p u) { fix = v }) i;
    raw = λ j. is_raw_material (material_at p j).kind;
    product = λ j. is_product (material_at p j).kind;
    uses = λ k j. terms_have (unit_fixed p u v h k i).inputs j;
    makes = λ k j. terms_have (unit_fixed p u v h k i).outputs j;
    exclusions = length p.exclusions;
    excludes = λ k n. has (exclusion_at p k).units n;
  };
  lower = λ j. (material_at p j).lower;
  upper = λ j. (material_at p j).upper;
  price = λ j. p.payout *ℤ (material_at p j).price;
  least = λ k. (unit_fixed p u v h k i).lower;
  most = λ k. (unit_fixed p u v h k i).upper;
  fix = λ k. p.payout *ℤ (unit_fixed p u v h k i).fix +ℤ (unit_fixed p u v h k i).investment_fix;
  proportional =
      λ k. p.payout *ℤ (unit_fixed p u v h k i).proportional +ℤ
      (unit_fixed p u v h k i).investment_proportional;
  rate =
      λ j k. rate_in (unit_fixed p u v h k i).outputs j -ℤ rate_in (unit_fixed p u v h k i).inputs
      j;
}
net_valued p (Proportional u) h v = λ i. record {
  graph = record {
    materials = length p.materials;
    units = length-set p.units u (record (unit_at p u) { proportional = v }) i;
    raw = λ j. is_raw_material (material_at p j).kind;
    product = λ j. is_product (material_at p j).kind;
    uses = λ k j. terms_have (unit_proportioned p u v h k i).inputs j;
    makes = λ k j. terms_have (unit_proportioned p u v h k i).outputs j;
    exclusions = length p.exclusions;
    excludes = λ k n. has (exclusion_at p k).units n;
  };
  lower = λ j. (material_at p j).lower;
  upper = λ j. (material_at p j).upper;
  price = λ j. p.payout *ℤ (material_at p j).price;
  least = λ k. (unit_proportioned p u v h k i).lower;
  most = λ k. (unit_proportioned p u v h k i).upper;
  fix =
      λ k. p.payout *ℤ (unit_proportioned p u v h k i).fix +ℤ
      (unit_proportioned p u v h k i).investment_fix;
  proportional =
      λ k. p.payout *ℤ (unit_proportioned p u v h k i).proportional +ℤ
      (unit_proportioned p u v h k i).investment_proportional;
  rate =
      λ j k. rate_in (unit_proportioned p u v h k i).outputs j -ℤ rate_in
      (unit_proportioned p u v h k i).inputs j;
}

-- ---- what stays

pub shape_stays : (p : Problem) (spot : Spot) → KnowsSpot p spot → (v : ℤ)
    → shape_of (valued p spot v) ≡ shape_of p
shape_stays p spot h v = ap (λ (net : Net). net.graph) (net_valued p spot h v)

pub flows_from : (p : Problem) (spot : Spot) → KnowsSpot p spot
    → (v : ℤ) (s : ℕ → Bool) (z : ℕ → ℤ) (d : ℤ)
    → IsFlows (net_of (valued p spot v)) s z d → IsFlows (net_of p) s z d
flows_from p spot h v s z d flows =
    let f = subst (λ (net : Net). IsFlows net s z d) (net_valued p spot h v) flows in
    record {
      positive = f.positive;
      at_least = f.at_least;
      at_most = f.at_most;
      no_others =
          f.no_others;
      low = f.low;
      high = f.high;
    }

pub flows_to : (p : Problem) (spot : Spot) → KnowsSpot p spot
    → (v : ℤ) (s : ℕ → Bool) (z : ℕ → ℤ) (d : ℤ)
    → IsFlows (net_of p) s z d → IsFlows (net_of (valued p spot v)) s z d
flows_to p spot h v s z d f =
    subst (λ (net : Net). IsFlows net s z d) (sym (net_valued p spot h v))
    (record {
      positive = f.positive;
      at_least = f.at_least;
      at_most = f.at_most;
      no_others =
          f.no_others;
      low = f.low;
      high = f.high;
    })

same_balance : (net : Net) (a b c : ℕ → ℤ) (z : ℕ → ℤ) (j : ℕ) (is : List ℕ) (sum : ℤ)
    → balance_steps (at_costs net a b c) z j is sum ≡ balance_steps net z j is sum
same_balance net a b c z j [] sum = refl
same_balance net a b c z j (k ∷ is) sum =
    ap (λ (zs : List ℤ). (net.rate j k *ℤ z k) ∷ (sum +ℤ net.rate j k *ℤ z k) ∷ zs)
    (same_balance net a b c z j is (sum +ℤ net.rate j k *ℤ z k))

same_steps : (net : Net) (a b c : ℕ → ℤ) (s : ℕ → Bool) (z : ℕ → ℤ) (js : List ℕ)
    → materials_steps (at_costs net a b c) s z js ≡ materials_steps net s z js
same_steps net a b c s z [] = refl
same_steps net a b c s z (j ∷ js) =
    λ i. same_balance net a b c z j (units_at net s j) (pos 0) i ++ same_steps net a b c s z js i

balances_stay : (p : Problem) (spot : Spot) → KnowsSpot p spot
    → (v : ℤ) (s : ℕ → Bool) (z : ℕ → ℤ) (d : ℤ)
    → feasible_steps (net_of p) s z d ≡ feasible_steps (net_of (valued p spot v)) s z d
balances_stay p spot h v s z d =
    sym (same_steps (net_of p) (price_in p spot v) (fix_in p spot v) (proportional_in p spot v) s z
    (materials_of (net_of p) s))
    ∙ ap (λ (net : Net). feasible_steps net s z d) (sym (net_valued p spot h v))

pub feasible_stays : (p : Problem) (spot : Spot) → KnowsSpot p spot → (w : Network) → IsFeasible p w
    → (v : ℤ)
    → AreInRange (cost_steps (net_of (valued p spot v)) (has w.units) (size_in w) w.d)
    → IsFeasible (valued p spot v) (repriced p spot w v)
feasible_stays p spot h w f v costs =
    let shape = sym (shape_stays p spot h v) in
    record {
      structure = subst (λ g. IsStructure g (has w.units)) shape f.structure;
      allowed = subst (λ g. IsAllowed g (has w.units)) shape f.allowed;
      balances =
          subst AreInRange (balances_stay p spot h v (has w.units) (size_in w) w.d) f.balances;
      flows = flows_to p spot h v (has w.units) (size_in w) w.d f.flows;
      costs = costs;
      cost_is = refl;
    }

-- ---- lines

price_line : (p : Problem) (spot : Spot) (j : ℕ) → IsLine (λ v. price_in p spot v j)
price_line p (Price x) j =
    times p.payout (λ v. cond (x == j) v (material_at p j).price)
    (either_line (x == j) (λ v. v) (λ v. (material_at p j).price) itself
    (constant (material_at p j).price))
price_line p (Fix u) j = constant ((net_of p).price j)
price_line p (Proportional u) j = constant ((net_of p).price j)

fix_line : (p : Problem) (spot : Spot) (k : ℕ) → IsLine (λ v. fix_in p spot v k)
fix_line p (Price x) k = constant ((net_of p).fix k)
fix_line p (Fix u) k =
    added (λ v. p.payout *ℤ cond (u == k) v (unit_at p k).fix) (λ v. (unit_at p k).investment_fix)
    (times p.payout (λ v. cond (u == k) v (unit_at p k).fix)
    (either_line (u == k) (λ v. v) (λ v. (unit_at p k).fix) itself
    (constant (unit_at p k).fix)))
    (constant (unit_at p k).investment_fix)
fix_line p (Proportional u) k = constant ((net_of p).fix k)

proportional_line : (p : Problem) (spot : Spot) (k : ℕ) → IsLine (λ v. proportional_in p spot v k)
proportional_line p (Price x) k = constant ((net_of p).proportional k)
proportional_line p (Fix u) k = constant ((net_of p).proportional k)
proportional_line p (Proportional u) k =
    added (λ v. p.payout *ℤ cond (u == k) v (unit_at p k).proportional)
    (λ v. (unit_at p k).investment_proportional)
    (times p.payout (λ v. cond (u == k) v (unit_at p k).proportional)
    (either_line (u == k) (λ v. v) (λ v. (unit_at p k).proportional) itself
    (constant (unit_at p k).proportional)))
    (constant (unit_at p k).investment_proportional)

size_line : (p : Problem) (spot : Spot) (k : ℕ) → IsLine (λ v. size_cost (net_in p spot v) k)
size_line p spot k =
    subtracted (λ v. proportional_in p spot v k *ℤ million)
    (λ v. total_below (length p.materials) (λ j. price_in p spot v j *ℤ rate_of p j k))
    (by million (λ v. proportional_in p spot v k) (proportional_line p spot k))
    (total_below_line (length p.materials) (λ v j. price_in p spot v j *ℤ rate_of p j k)
    (λ j. by (rate_of p j k) (λ v. price_in p spot v j) (price_line p spot j)))

unit_line : (p : Problem) (spot : Spot) (z : ℕ → ℤ) (d : ℤ) (k : ℕ)
    → IsLine (λ v. (fix_in p spot v k *ℤ trillion) *ℤ d +ℤ size_cost (net_in p spot v) k *ℤ z k)
unit_line p spot z d k =
    added (λ v. (fix_in p spot v k *ℤ trillion) *ℤ d) (λ v. size_cost (net_in p spot v) k *ℤ z k)
    (by d (λ v. fix_in p spot v k *ℤ trillion)
    (by trillion (λ v. fix_in p spot v k) (fix_line p spot k)))
    (by (z k) (λ v. size_cost (net_in p spot v) k) (size_line p spot k))

pub cost_is_a_line : (p : Problem) (spot : Spot) → KnowsSpot p spot
    → (s : ℕ → Bool) (z : ℕ → ℤ) (d : ℤ) → IsLine (λ v. cost (net_of (valued p spot v)) s z d)
cost_is_a_line p spot h s z d =
    let a =
    total_line
    (λ v k. (fix_in p spot v k *ℤ trillion) *ℤ d +ℤ size_cost (net_in p spot v) k *ℤ z k)
    (unit_line p spot z d) (units_of (net_of p) s) in
    record {
      start = a.start;
      slope = a.slope;
      is_line = λ v. ap (λ (net : Net). cost net s z d) (net_valued p spot h v) ∙ a.is_line v;
    }
