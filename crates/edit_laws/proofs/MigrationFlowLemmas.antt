-- The flows of a migrated problem, and their cost.
use Rattle.std.proofs.Common.{◌≡◌, ◌*ℤ◌, ◌+ℤ◌, ◌-ℤ◌, ℕ, zero, suc, Bool, List, [], ◌∷◌, length, map}
use Rattle.std.proofs.Common.{get_or, ℤ, pos, refl, sym, ap, ◌∙◌, subst, arith}
use Rattle.std.proofs.lemmas.List.{length-map}
use Rattle.flow_rules.specs.integer_laws.Total.{total_below}
use Rattle.flow_rules.proofs.integer_laws.Cited.{ring_z, mul-zero_z, one-mul_z, mul_assoc_z}
use Rattle.flow_rules.proofs.integer_laws.Cited.{mul-add_z}
use Rattle.flow_rules.proofs.integer_laws.Cited.{mul-sub_z, total-mul, total-same, total_below-same}
use Rattle.flow_rules.proofs.integer_laws.Cited.{total_below-mul}
use Rattle.edit_rules.specs.problem_rules.Problem.{Problem, OperatingUnit, material_at, unit_at}
use Rattle.edit_rules.specs.problem_rules.Problem.{exclusion_at}
use Rattle.edit_rules.specs.problem_rules.Problem.{no_unit, rate_of, rate_in, terms_have}
use Rattle.edit_rules.specs.problem_rules.Problem.{is_raw_material}
use Rattle.edit_rules.specs.problem_rules.Problem.{is_product}
use Rattle.edit_rules.specs.problem_rules.Each.{Each}
use Rattle.edit_rules.specs.number_sets.Sets.{has}
use Rattle.flow_rules.specs.Net.{Net, net_of, trillion, million, size_cost, units_of}
use Rattle.flow_rules.specs.Flows.{IsFlows, cost}
use Rattle.edit_laws.proofs.ListLemmas.{map-at}
use Rattle.edit_laws.specs.MigrationLaws.{IsMigrated}
use Rattle.edit_laws.proofs.MigrationUnitLemmas.{moved, IsUninvested, PaysOnce, migrated}

-- but for their costs, the two problems are one net
abbrev priced : Net → (ℕ → ℤ) → (ℕ → ℤ) → (ℕ → ℤ) → Net
priced net price fix proportional =
    record net { price = price; fix = fix; proportional = proportional }

same_flows_priced : (net : Net) (price fix proportional : ℕ → ℤ) (s : ℕ → Bool) (z : ℕ → ℤ) (d : ℤ)
    → IsFlows net s z d → IsFlows (priced net price fix proportional) s z d
same_flows_priced net price fix proportional s z d f = record {
  positive = f.positive;
  at_least = f.at_least;
  at_most = f.at_most;
  no_others = f.no_others;
  low = f.low;
  high = f.high;
}

flows_unpriced : (net : Net) (price fix proportional : ℕ → ℤ) (s : ℕ → Bool) (z : ℕ → ℤ) (d : ℤ)
    → IsFlows (priced net price fix proportional) s z d → IsFlows net s z d
flows_unpriced net price fix proportional s z d f =
    same_flows_priced (priced net price fix proportional) net.price net.fix net.proportional s z d f

moved_none : (years : ℤ) → moved years no_unit ≡ no_unit
moved_none years =
    λ i. record no_unit {
      investment_fix = mul-zero_z years i;
      investment_proportional =
          mul-zero_z years i;
    }

unit_moved : (years : ℤ) (p : Problem) (k : ℕ)
    → unit_at (migrated years p) k ≡ moved years (unit_at p k)
unit_moved years p k = ap (λ d. get_or (map (moved years) p.units) k d) (sym (moved_none years))
    ∙ map-at (moved years) p.units k no_unit

uninvested_at : (us : List OperatingUnit) (k : ℕ) → Each IsUninvested us
    → IsUninvested (get_or us k no_unit)
uninvested_at [] zero h = record { fix = refl; proportional = refl }
uninvested_at [] (suc k) h = record { fix = refl; proportional = refl }
uninvested_at (u ∷ us) zero h = h.0
uninvested_at (u ∷ us) (suc k) h = uninvested_at us k h.1

-- ---- one net

abbrev migrated_net : ℤ → Problem → Net
migrated_net years p =
    priced (net_of p) (λ j. years *ℤ (material_at p j).price)
    (λ k. years *ℤ pos 0 +ℤ years *ℤ (unit_at p k).fix)
    (λ k. years *ℤ pos 0 +ℤ years *ℤ (unit_at p k).proportional)

net_same : (years : ℤ) (p : Problem) → net_of (migrated years p) ≡ migrated_net years p
net_same years p = λ i. record {
  graph = record {
    materials = length p.materials;
    units = length-map p.units (moved years) i;
    raw = λ x. is_raw_material (material_at p x).kind;
    product = λ x. is_product (material_at p x).kind;
    uses = λ u x. terms_have (unit_moved years p u i).inputs x;
    makes = λ u x. terms_have (unit_moved years p u i).outputs x;
    exclusions = length p.exclusions;
    excludes = λ k u. has (exclusion_at p k).units u;
  };
  lower = λ j. (material_at p j).lower;
  upper = λ j. (material_at p j).upper;
  price = λ j. years *ℤ (material_at p j).price;
  least = λ k. (unit_moved years p k i).lower;
  most = λ k. (unit_moved years p k i).upper;
  fix = λ k. years *ℤ (unit_moved years p k i).fix +ℤ (unit_moved years p k i).investment_fix;
  proportional =
      λ k. years *ℤ (unit_moved years p k i).proportional +ℤ
      (unit_moved years p k i).investment_proportional;
  rate =
      λ x k. rate_in (unit_moved years p k i).outputs x -ℤ rate_in (unit_moved years p k i).inputs
      x;
}

-- ---- the cost

once_for_all : (y f : ℤ) → y *ℤ pos 0 +ℤ y *ℤ f ≡ y *ℤ (pos 1 *ℤ f +ℤ pos 0)
once_for_all y f = omega (arith, ring_z)

cost_moved : (y f years once : ℤ) → years ≡ pos 1 → once ≡ pos 0
    → y *ℤ pos 0 +ℤ y *ℤ f ≡ y *ℤ (years *ℤ f +ℤ once)
cost_moved y f years once e g = once_for_all y f ∙ (λ i. y *ℤ (sym e i *ℤ f +ℤ sym g i))

paid : (y a r years : ℤ) → years ≡ pos 1 → (y *ℤ a) *ℤ r ≡ y *ℤ ((years *ℤ a) *ℤ r)
paid y a r years e = mul_assoc_z y a r ∙ (λ i. y *ℤ (sym (one-mul_z a) i *ℤ r))
    ∙ (λ i. y *ℤ ((sym e i *ℤ a) *ℤ r))

less_prices : (y v m s : ℤ) → (y *ℤ v) *ℤ m -ℤ y *ℤ s ≡ y *ℤ (v *ℤ m -ℤ s)
less_prices y v m s = ap (λ x. x -ℤ y *ℤ s) (mul_assoc_z y v m) ∙ sym (mul-sub_z y (v *ℤ m) s)

sizes_moved : (y f t d c z : ℤ)
    → ((y *ℤ f) *ℤ t) *ℤ d +ℤ (y *ℤ c) *ℤ z ≡ y *ℤ ((f *ℤ t) *ℤ d +ℤ c *ℤ z)
sizes_moved y f t d c z =
    (λ i. (mul_assoc_z y f t i) *ℤ d +ℤ mul_assoc_z y c z i)
    ∙ ((λ i. mul_assoc_z y (f *ℤ t) d i +ℤ y *ℤ (c *ℤ z))
    ∙ sym (mul-add_z y ((f *ℤ t) *ℤ d) (c *ℤ z)))

size_cost_moved : (years : ℤ) (p : Problem) → PaysOnce p → (k : ℕ)
    → size_cost (migrated_net years p) k ≡ years *ℤ size_cost (net_of p) k
size_cost_moved years p h k =
    let u = uninvested_at p.units k h.units in
    let n = length p.materials in
    let new = λ (j : ℕ). (years *ℤ (material_at p j).price) *ℤ rate_of p j k in
    let old = λ (j : ℕ). (p.payout *ℤ (material_at p j).price) *ℤ rate_of p j k in
    let prices : total_below n new ≡ years *ℤ total_below n old
    = total_below-same n new (λ j. years *ℤ old j)
    (λ j less. paid years (material_at p j).price (rate_of p j k) p.payout h.payout)
    ∙ total_below-mul n years old in
    (λ i. cost_moved years (unit_at p k).proportional p.payout (unit_at p k).investment_proportional
    h.payout u.proportional i *ℤ million -ℤ prices i)
    ∙ less_prices years
    (p.payout *ℤ (unit_at p k).proportional +ℤ (unit_at p k).investment_proportional) million
    (total_below n old)

unit_cost_moved : (years : ℤ) (p : Problem) → PaysOnce p → (z : ℕ → ℤ) (d : ℤ) (k : ℕ)
    → ((migrated_net years p).fix k *ℤ trillion) *ℤ d +ℤ size_cost (migrated_net years p) k *ℤ z k
    ≡ years *ℤ (((net_of p).fix k *ℤ trillion) *ℤ d +ℤ size_cost (net_of p) k *ℤ z k)
unit_cost_moved years p h z d k =
    let u = uninvested_at p.units k h.units in
    (λ i.
    (cost_moved years (unit_at p k).fix p.payout (unit_at p k).investment_fix h.payout u.fix i
    *ℤ trillion) *ℤ d +ℤ size_cost_moved years p h k i *ℤ z k)
    ∙ sizes_moved years ((net_of p).fix k) trillion d (size_cost (net_of p) k) (z k)

cost_times_years : (years : ℤ) (p : Problem) → PaysOnce p → (s : ℕ → Bool) (z : ℕ → ℤ) (d : ℤ)
    → cost (migrated_net years p) s z d ≡ years *ℤ cost (net_of p) s z d
cost_times_years years p h s z d =
    let old = λ (k : ℕ). ((net_of p).fix k *ℤ trillion) *ℤ d +ℤ size_cost (net_of p) k *ℤ z k in
    let new =
    λ (k : ℕ). ((migrated_net years p).fix k *ℤ trillion) *ℤ d +ℤ size_cost
    (migrated_net years p) k *ℤ z k in
    total-same new (λ k. years *ℤ old k) (unit_cost_moved years p h z d) (units_of (net_of p) s)
    ∙ total-mul years old (units_of (net_of p) s)

pub is_migrated : (years : ℤ) (p : Problem) → PaysOnce p → IsMigrated years p (migrated years p)
is_migrated years p h =
    let price = λ (j : ℕ). years *ℤ (material_at p j).price in
    let fix = λ (k : ℕ). years *ℤ pos 0 +ℤ years *ℤ (unit_at p k).fix in
    let proportional = λ (k : ℕ). years *ℤ pos 0 +ℤ years *ℤ (unit_at p k).proportional in
    record {
      same_flows = λ s z d. (
        λ f. subst (λ (net : Net). IsFlows net s z d) (sym (net_same years p))
            (same_flows_priced (net_of p) price fix proportional s z d f),
        λ f. flows_unpriced (net_of p) price fix proportional s z d
            (subst (λ (net : Net). IsFlows net s z d) (net_same years p) f),
      );
      cost_times_years = λ s z d. ap (λ (net : Net). cost net s z d) (net_same years p)
          ∙ cost_times_years years p h s z d;
    }
