use Rattle.std.proofs.Common.{[]}
use Rattle.plan_laws.specs.plan_rules.Expanded.{built}
use Rattle.plan_laws.proofs.Cited.{made_more}
use Rattle.periods.proofs.units.built_units.Goals as goal

pub building-preserved : goal.building-preserved
building-preserved c =
    made_more (built c.args.problem.now c.args.periods) [] _ _ c.building.unit _
    c.building.invariant c.in_ok-built.ensures c.in_ok-push.ensures.items
