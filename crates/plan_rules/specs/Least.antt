-- Designs of least cost. Costs are over d and the payout period in 10^-18 of the money unit, so the
-- costs of two designs of one plant are compared by cross products.
use Rattle.std.specs.Prelude.{◌≡◌, ◌*ℤ◌, ◌≤ℤ◌}
use Rattle.edit_rules.specs.problem_rules.Problem.{Problem}
use Rattle.plan_rules.specs.Plan.{Plan}
use Rattle.plan_rules.specs.Design.{Design, IsDesign, design_cost}
use Rattle.plan_rules.specs.Folded.{Written, design_of}

-- what is written is a design of the plant over its periods with the cost that is written, and no
-- other costs less
pub record IsLeastDesign (p : Problem) (plan : Plan) (x : Written) : Type 0 where
  pub design : IsDesign p plan (design_of x)
  pub cost_is : design_cost p plan (design_of x) ≡ x.cost
  pub least : (y : Design) → IsDesign p plan y → (x.cost *ℤ y.d) ≤ℤ (design_cost p plan y *ℤ x.d)

-- the plant has no design over its periods
abbrev pub HasNoDesign : Problem → Plan → Type 0
HasNoDesign p plan = (y : Design) → IsDesign p plan y → ⊥
