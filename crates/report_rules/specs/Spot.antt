-- A price or a cost that may vary, and the problem with another value there. Values are whole
-- millionths.
use Rattle.std.specs.Prelude.{ℕ, ◌<◌, length, slice_set, ℤ, pos, neg_ℤ, ◌+ℤ◌, ◌-ℤ◌, ◌≤ℤ◌}
use Rattle.rank_rules.specs.problem_rules.Problem.{Problem, material_at, unit_at}
use Rattle.report_rules.specs.declared.spot.Spot.{Spot}
use Rattle.report_rules.specs.declared.spot.Spot.TheVariants.{Price, Fix, Proportional}
use Rattle.report_rules.specs.declared.side.Side.{Side}
use Rattle.report_rules.specs.declared.side.Side.TheVariants.{Below, Above}

-- the spot's material or unit is in the problem
abbrev pub KnowsSpot : Problem → Spot → Type 0
KnowsSpot p (Price x) = x < length p.materials
KnowsSpot p (Fix u) = u < length p.units
KnowsSpot p (Proportional u) = u < length p.units

-- the value that the problem has in the spot
abbrev pub value_at : Problem → Spot → ℤ
value_at p (Price x) = (material_at p x).price
value_at p (Fix u) = (unit_at p u).fix
value_at p (Proportional u) = (unit_at p u).proportional

-- the problem with this value in the spot
abbrev pub valued : Problem → Spot → ℤ → Problem
valued p (Price x) v =
    record p { materials = slice_set p.materials x (record (material_at p x) { price = v }) }
valued p (Fix u) v = record p { units = slice_set p.units u (record (unit_at p u) { fix = v }) }
valued p (Proportional u) v =
    record p { units = slice_set p.units u (record (unit_at p u) { proportional = v }) }

-- the limits of the values: a fixed cost is at least 0
abbrev pub greatest_value : ℤ
greatest_value = pos 1000000000000000

abbrev pub least_value : Spot → ℤ
least_value (Price x) = neg_ℤ (pos 1000000000000000)
least_value (Fix u) = pos 0
least_value (Proportional u) = neg_ℤ (pos 1000000000000000)

pub record IsAllowedValue (spot : Spot) (v : ℤ) : Type 0 where
  pub low : least_value spot ≤ℤ v
  pub high : v ≤ℤ greatest_value

-- the value that is so far away from the present one
abbrev pub value_on : Side → ℤ → ℕ → ℤ
value_on Below present away = present -ℤ pos away
value_on Above present away = present +ℤ pos away

abbrev pub limit_on : Side → Spot → ℤ
limit_on Below spot = least_value spot
limit_on Above spot = greatest_value
