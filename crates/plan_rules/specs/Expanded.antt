-- The ordinary problem into which a plant and its plan are expanded. A unit is built once, by a
-- unit of its own, which has the unit's costs and makes its capacity for each period. In each
-- period a copy of the unit runs on that capacity, without costs of its own, over copies of the
-- materials at the period's prices and bounds. In names, the numbers of units and materials count
-- from 0, and periods count from 1.
use Rattle.std.specs.Prelude.{ℕ, suc, ◌+◌, ◌*◌, List, [], ◌∷◌, ◌++◌, map, flat_map, length, codes}
use Rattle.std.specs.Prelude.{decimal, ℤ, pos}
use Rattle.std.specs.List.{range_with_len}
use Rattle.edit_rules.specs.problem_rules.Problem.{raw_material, intermediate, Material, Term}
use Rattle.edit_rules.specs.problem_rules.Problem.{OperatingUnit}
use Rattle.edit_rules.specs.problem_rules.Problem.{Problem, material_at, unit_at}
use Rattle.plan_rules.specs.Plan.{Period, Plan, period_at, price_at, lower_at, upper_at}

-- ---- names

abbrev pub numbered : List ℕ → ℕ → List ℕ
numbered letter number = letter ++ decimal number

-- a name with the period t, which counts from 0
abbrev pub numbered_in : List ℕ → ℕ → ℕ → List ℕ
numbered_in letter number t = numbered letter number ++ (codes "." ++ decimal (suc t))

-- ---- numbers of materials and units

-- the first material of a period
abbrev pub first_of : Problem → ℕ → ℕ
first_of p t = length p.units + t * (length p.materials + length p.units)

-- a material of the plant in a period
abbrev pub copy_of : Problem → ℕ → ℕ → ℕ
copy_of p t j = first_of p t + j

-- the capacity of a unit in a period
abbrev pub capacity_of : Problem → ℕ → ℕ → ℕ
capacity_of p t i = first_of p t + length p.materials + i

-- ---- materials

-- 1 and 10^9 in millionths
abbrev pub one : ℤ
one = pos 1000000

abbrev pub unlimited : ℤ
unlimited = pos 1000000000000000

-- the raw material of which unit i is built
abbrev pub site : ℕ → Material
site i =
    record {
      name = numbered (codes "s") i;
      kind = raw_material;
      price = pos 0;
      lower =
          pos 0;
      upper = unlimited;
    }

abbrev pub copy : Problem → Period → ℕ → ℕ → Material
copy p q t j = record {
  name = numbered_in (codes "m") j t;
  kind = (material_at p j).kind;
  price = price_at q j;
  lower = lower_at q j;
  upper = upper_at q j;
}

abbrev pub capacity : ℕ → ℕ → Material
capacity t i =
    record {
      name = numbered_in (codes "c") i t;
      kind = intermediate;
      price = pos 0;
      lower =
          pos 0;
      upper = unlimited;
    }

abbrev pub copies : Problem → Period → ℕ → List Material
copies p q t = map (copy p q t) (range_with_len 0 (length p.materials))

abbrev pub capacities : Problem → ℕ → List Material
capacities p t = map (capacity t) (range_with_len 0 (length p.units))

abbrev pub sites : Problem → List Material
sites p = map site (range_with_len 0 (length p.units))

-- the plant's materials in a period, and then the capacities of its units
abbrev pub period_materials : Problem → Plan → ℕ → List Material
period_materials p plan t = copies p (period_at plan t) t ++ capacities p t

abbrev pub materials_of : Problem → Plan → List Material
materials_of p plan =
    sites p ++ flat_map (period_materials p plan) (range_with_len 0 (length plan.periods))

-- ---- units

abbrev pub at_rate_one : ℕ → Term
at_rate_one material = record { material = material; rate = one }

-- the unit that builds unit i for so many periods
abbrev pub built : Problem → ℕ → ℕ → OperatingUnit
built p count i = record (unit_at p i) {
  name = numbered (codes "b") i;
  inputs = at_rate_one i ∷ [];
  outputs = map (λ t. at_rate_one (capacity_of p t i)) (range_with_len 0 count);
}

abbrev pub built_units : Problem → ℕ → List OperatingUnit
built_units p count = map (built p count) (range_with_len 0 (length p.units))

-- a side of a unit in a period
abbrev pub side_in : Problem → ℕ → List Term → List Term
side_in p t terms =
    map (λ (term : Term). record { material = copy_of p t term.material; rate = term.rate }) terms

-- unit i as it runs in a period
abbrev pub running : Problem → ℕ → ℕ → OperatingUnit
running p t i = record {
  name = numbered_in (codes "u") i t;
  lower = pos 0;
  upper = (unit_at p i).upper;
  fix = pos 0;
  proportional = pos 0;
  investment_fix = pos 0;
  investment_proportional = pos 0;
  inputs = side_in p t (unit_at p i).inputs ++ at_rate_one (capacity_of p t i) ∷ [];
  outputs = side_in p t (unit_at p i).outputs;
}

abbrev pub period_units : Problem → ℕ → List OperatingUnit
period_units p t = map (running p t) (range_with_len 0 (length p.units))

abbrev pub units_of : Problem → ℕ → List OperatingUnit
units_of p count = built_units p count ++ flat_map (period_units p) (range_with_len 0 count)

-- ---- the problem

-- a unit that builds has the number of the unit that it builds, so each exclusion stays as it is
abbrev pub expanded : Problem → Plan → Problem
expanded p plan =
    record p { materials = materials_of p plan; units = units_of p (length plan.periods) }
