-- The kinds of warnings, each a test of an item of the problem; `s` are the units of the maximal
-- structure. Numbers of the problem are millionths.
use Rattle.std.specs.Prelude.{◌==◌, ◌%◌, ◌&&◌, ◌||◌, ℕ, ℤ, pos, int_lt, unsigned_abs, Bool, false}
use Rattle.std.specs.Prelude.{not, nat_le, List, take}
use Rattle.std.specs.List.{list_all, list_any, count_by}
use Rattle.std.specs.Ordering.{int_eq}
use Rattle.rank_rules.specs.problem_rules.Problem.{Problem, Material, Term, OperatingUnit}
use Rattle.rank_rules.specs.problem_rules.Problem.{Exclusion}
use Rattle.rank_rules.specs.problem_rules.Problem.{material_at, unit_at, exclusion_at}
use Rattle.rank_rules.specs.problem_rules.Problem.{is_raw_material}
use Rattle.rank_rules.specs.problem_rules.Problem.{is_product, rate_in}
use Rattle.rank_rules.specs.text_rules.Value.{much}
use Rattle.rank_rules.specs.pns_rules.Shape.{shape_of}
use Rattle.rank_rules.specs.pns_rules.Structure.{mats}
use Rattle.report_rules.specs.declared.warning.Warning.{Warning}
use Rattle.report_rules.specs.declared.warning.Warning.TheVariants.{NoNetwork, UnusedMaterial}
use Rattle.report_rules.specs.declared.warning.Warning.TheVariants.{NoDemand, DefaultCapacity, Free}
use Rattle.report_rules.specs.declared.warning.Warning.TheVariants.{FreeRaw, NoLimit, Twins}
use Rattle.report_rules.specs.declared.warning.Warning.TheVariants.{FineRates, Alone}

abbrev pub is_zero : ℤ → Bool
is_zero z = int_eq z (pos 0)

-- the bound 1000000000, which is the bound if a text gives none
abbrev pub is_default : ℤ → Bool
is_default z = int_eq z much

-- ---- materials

abbrev pub has_no_demand : Material → Bool
has_no_demand m = is_product m.kind && is_zero m.lower

abbrev pub is_free_raw : Material → Bool
is_free_raw m = is_raw_material m.kind && is_zero m.price

-- what is left over of it is sold without a limit
abbrev pub has_no_limit : Material → Bool
has_no_limit m = not (is_raw_material m.kind) && int_lt (pos 0) m.price && is_default m.upper

abbrev pub material_stands : Problem → (ℕ → Bool) → ℕ → Warning → Bool
material_stands p s x UnusedMaterial = not (mats (shape_of p) s x)
material_stands p s x NoDemand = has_no_demand (material_at p x)
material_stands p s x FreeRaw = is_free_raw (material_at p x)
material_stands p s x NoLimit = has_no_limit (material_at p x)
material_stands p s x kind = false

-- ---- units

-- no fixed cost and no investment cost
abbrev pub has_no_charge : OperatingUnit → Bool
has_no_charge u = is_zero u.fix && is_zero u.investment_fix && is_zero u.investment_proportional

abbrev pub has_default_capacity : OperatingUnit → Bool
has_default_capacity u = not (has_no_charge u) && is_default u.upper

abbrev pub is_free : OperatingUnit → Bool
is_free u = has_no_charge u && is_zero u.proportional

-- each of the terms is among the others with its rate
abbrev pub are_among : List Term → List Term → Bool
are_among others terms = list_all (λ (t : Term). int_eq (rate_in others t.material) t.rate) terms

-- the same terms, in any order
abbrev pub same_terms : List Term → List Term → Bool
same_terms ts us = are_among us ts && are_among ts us

abbrev pub same_bounds : OperatingUnit → OperatingUnit → Bool
same_bounds u v = int_eq u.lower v.lower && int_eq u.upper v.upper

abbrev pub same_costs : OperatingUnit → OperatingUnit → Bool
same_costs u v =
    int_eq u.fix v.fix && int_eq u.proportional v.proportional
    && int_eq u.investment_fix v.investment_fix && int_eq u.investment_proportional
    v.investment_proportional

-- alike in all but the name
abbrev pub are_alike : OperatingUnit → OperatingUnit → Bool
are_alike u v =
    same_bounds u v && same_costs u v && same_terms u.inputs v.inputs && same_terms u.outputs
    v.outputs

-- some of the units before unit u is like it
abbrev pub has_twin : Problem → ℕ → Bool
has_twin p u = list_any (are_alike (unit_at p u)) (take u p.units)

abbrev pub unit_stands : Problem → (ℕ → Bool) → ℕ → Warning → Bool
unit_stands p s u NoNetwork = not (s u)
unit_stands p s u DefaultCapacity = has_default_capacity (unit_at p u)
unit_stands p s u Free = is_free (unit_at p u)
unit_stands p s u Twins = has_twin p u
unit_stands p s u kind = false

-- ---- rates

-- more than three decimals
abbrev pub is_fine : ℤ → Bool
is_fine rate = not (unsigned_abs rate % 1000 == 0)

abbrev pub are_fine : List Term → Bool
are_fine terms = list_any (λ (t : Term). is_fine t.rate) terms

abbrev pub has_fine_rates : OperatingUnit → Bool
has_fine_rates u = are_fine u.inputs || are_fine u.outputs

abbrev pub rates_stand : Problem → ℕ → Warning → Bool
rates_stand p u FineRates = has_fine_rates (unit_at p u)
rates_stand p u kind = false

-- ---- exclusions

-- at most one of its units is in the maximal structure
abbrev pub is_alone : (ℕ → Bool) → Exclusion → Bool
is_alone s e = nat_le (count_by s e.units) 1

abbrev pub exclusion_stands : Problem → (ℕ → Bool) → ℕ → Warning → Bool
exclusion_stands p s k Alone = is_alone s (exclusion_at p k)
exclusion_stands p s k kind = false
