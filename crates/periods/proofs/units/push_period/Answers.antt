use Rattle.plan_laws.specs.plan_rules.Expanded.{running}
use Rattle.plan_laws.proofs.Cited.{made_more}
use Rattle.periods.proofs.units.push_period.Goals as goal

pub running-preserved : goal.running-preserved
running-preserved c =
    made_more (running c.args.problem.now c.args.period) _ _ _ c.running.unit _ c.running.invariant
    c.in_ok-running.ensures c.in_ok-push.ensures.items
