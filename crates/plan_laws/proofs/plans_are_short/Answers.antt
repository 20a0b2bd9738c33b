use Rattle.plan_laws.proofs.Valid.{plan_short}
use Rattle.plan_laws.proofs.plans_are_short.Goals as goal

pub returns : goal.returns
returns c =
    λ p plan valid formed. plan_short p plan ((c.valid_is_well_formed.ensures p).0 valid) formed
