-- The net of a capped plant is that of the plant, but for the greatest sizes.
use Rattle.std.proofs.Common.{◌≡◌, ℕ, zero, suc, ℤ, ◌+ℤ◌, ◌-ℤ◌, ◌*ℤ◌, List, [], ◌∷◌}
use Rattle.std.proofs.Common.{length, get_or, refl, ap, arith}
use Rattle.std.proofs.lemmas.Int.{ints}
use Rattle.tree_rules.specs.number_sets.Sets.{has}
use Rattle.tree_rules.specs.problem_rules.Problem.{Problem, OperatingUnit, no_unit, unit_at}
use Rattle.tree_rules.specs.problem_rules.Problem.{rate_in, terms_have, is_raw_material}
use Rattle.tree_rules.specs.problem_rules.Problem.{is_product, no_material, no_exclusion}
use Rattle.tree_rules.specs.pns_rules.Shape.{shape_of}
use Rattle.tree_rules.specs.flow_rules.Net.{Net, net_of}
use Rattle.tree_laws.specs.Capped.{IsCappedUnit, AreCapped, IsCapped}

pub capped_length : (us vs : List OperatingUnit) → AreCapped us vs → length vs ≡ length us
capped_length [] [] h = refl
capped_length [] (v ∷ vs) h = absurd h
capped_length (u ∷ us) [] h = absurd h
capped_length (u ∷ us) (v ∷ vs) h = ap suc (capped_length us vs h.1)

pub capped_self : (u : OperatingUnit) → IsCappedUnit u u
capped_self u = record { rest = refl; no_more = omega (arith, ints) }

pub capped_at : (us vs : List OperatingUnit) → AreCapped us vs → (i : ℕ)
    → IsCappedUnit (get_or us i no_unit) (get_or vs i no_unit)
capped_at [] [] h i = capped_self no_unit
capped_at [] (v ∷ vs) h i = absurd h
capped_at (u ∷ us) [] h i = absurd h
capped_at (u ∷ us) (v ∷ vs) h zero = h.0
capped_at (u ∷ us) (v ∷ vs) h (suc i) = capped_at us vs h.1 i

module _ (p q : Problem) (h : IsCapped p q) where
  pub unit_there : (u : ℕ) → IsCappedUnit (unit_at p u) (unit_at q u)
  unit_there u = capped_at p.units q.units h.units u

  -- the units of the plant, with the sizes of the other
  with_sizes : (u : ℕ) → unit_at q u ≡ record (unit_at p u) { upper = (unit_at q u).upper }
  with_sizes u = (unit_there u).rest

  pub as_many : length q.units ≡ length p.units
  as_many = capped_length p.units q.units h.units

  pub capped_shape : shape_of q ≡ shape_of p
  capped_shape = λ i. record {
    materials = length (h.materials i);
    units = as_many i;
    raw = λ x. is_raw_material (get_or (h.materials i) x no_material).kind;
    product = λ x. is_product (get_or (h.materials i) x no_material).kind;
    uses = λ u x. terms_have (with_sizes u i).inputs x;
    makes = λ u x. terms_have (with_sizes u i).outputs x;
    exclusions = length (h.exclusions i);
    excludes = λ k u. has (get_or (h.exclusions i) k no_exclusion).units u;
  }

  -- the net of the plant with the greatest sizes of the other
  abbrev pub lowered : Net
  lowered = record (net_of p) { most = (net_of q).most }

  pub capped_net : net_of q ≡ lowered
  capped_net = λ i. record {
    graph = capped_shape i;
    lower = λ j. (get_or (h.materials i) j no_material).lower;
    upper = λ j. (get_or (h.materials i) j no_material).upper;
    price = λ j. h.payout i *ℤ (get_or (h.materials i) j no_material).price;
    least = λ k. (with_sizes k i).lower;
    most = λ k. (unit_at q k).upper;
    fix = λ k. h.payout i *ℤ (with_sizes k i).fix +ℤ (with_sizes k i).investment_fix;
    proportional =
        λ k. h.payout i *ℤ (with_sizes k i).proportional +ℤ
        (with_sizes k i).investment_proportional;
    rate = λ j k. rate_in (with_sizes k i).outputs j -ℤ rate_in (with_sizes k i).inputs j;
  }
