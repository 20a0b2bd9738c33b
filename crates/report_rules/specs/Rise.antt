-- How little a cost can rise as one price or cost moves away from its present value.
use Rattle.std.specs.Prelude.{ℕ, ℤ, pos, neg_ℤ, ◌*ℤ◌, cond}
use Rattle.rank_rules.specs.problem_rules.Problem.{Problem, material_at, unit_at, is_raw_material}
use Rattle.rank_rules.specs.problem_rules.Problem.{is_product}
use Rattle.rank_rules.specs.flow_rules.Net.{million, trillion}
use Rattle.report_rules.specs.declared.spot.Spot.{Spot}
use Rattle.report_rules.specs.declared.spot.Spot.TheVariants.{Price, Fix, Proportional}
use Rattle.report_rules.specs.declared.side.Side.{Side}
use Rattle.report_rules.specs.declared.side.Side.TheVariants.{Below, Above}

-- The least and the most that a structure's flows leave over of a material. A raw material is
-- bought, up to its upper bound, so it counts below 0. Any other is left over, up to its upper
-- bound, and of a product at least its lower bound, since each structure makes each product.
abbrev pub least_left : Problem → ℕ → ℤ
least_left p x =
    cond (is_raw_material (material_at p x).kind) (neg_ℤ (material_at p x).upper)
    (cond (is_product (material_at p x).kind) (material_at p x).lower (pos 0))

abbrev pub most_left : Problem → ℕ → ℤ
most_left p x = cond (is_raw_material (material_at p x).kind) (pos 0) (material_at p x).upper

-- If the value is one step farther away on the side, the flows of any structure cost at least this
-- much more, times their d. A price counts for what is left over, a fixed cost for a unit that is
-- there, and a proportional cost for a size from 0 to the greatest.
abbrev pub least_rise : Problem → Spot → Side → ℤ
least_rise p (Price x) Below = p.payout *ℤ (million *ℤ least_left p x)
least_rise p (Price x) Above = p.payout *ℤ neg_ℤ (million *ℤ most_left p x)
least_rise p (Fix u) Below = p.payout *ℤ neg_ℤ trillion
least_rise p (Fix u) Above = pos 0
least_rise p (Proportional u) Below = p.payout *ℤ neg_ℤ (million *ℤ (unit_at p u).upper)
least_rise p (Proportional u) Above = pos 0
