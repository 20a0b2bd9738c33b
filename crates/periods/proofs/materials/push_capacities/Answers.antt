use Rattle.plan_laws.specs.plan_rules.Expanded.{capacity}
use Rattle.plan_laws.proofs.Cited.{made_more}
use Rattle.periods.proofs.materials.push_capacities.Goals as goal

pub building-preserved : goal.building-preserved
building-preserved c =
    made_more (capacity c.args.period) _ _ _ c.building.unit _ c.building.invariant
    c.in_ok-capacity.ensures c.in_ok-push.ensures.items
