-- The laws of plans. Each is the contract of a public function of this crate.
use Rattle.std.specs.Prelude.{◌≤◌, length}
use Rattle.plan_rules.specs.problem_rules.Problem.{Problem}
use Rattle.plan_rules.specs.problem_rules.Validity.{IsValid}
use Rattle.plan_rules.specs.Expanded.{expanded}
use Rattle.plan_rules.specs.Plan.{Plan, IsPlan}

-- Names and terms are there once, bounds and rates are as the plant and the plan have them, and
-- there are not too many units or materials.
abbrev pub ExpandedIsValid : Type 0
ExpandedIsValid = (p : Problem) (plan : Plan) → IsValid p → IsPlan p plan
    → IsValid (expanded p plan)

-- each period has a copy of every material, and there is at least one material
abbrev pub PlansAreShort : Type 0
PlansAreShort = (p : Problem) (plan : Plan) → IsValid p → IsPlan p plan → length plan.periods ≤ 256
