use Rattle.plan_laws.proofs.Cited.{blocks_more}
use Rattle.plan_laws.specs.plan_rules.Expanded.{built_units, period_units}
use Rattle.periods.proofs.units.units_of.Goals as goal

pub copying-preserved : goal.copying-preserved
copying-preserved c =
    blocks_more (period_units c.args.problem.now) (built_units c.args.problem.now c.args.periods) _
    _ c.copying.period c.copying.invariant c.in_ok-push_period.ensures
