use Rattle.plan_laws.specs.plan_rules.Expanded.{copy}
use Rattle.plan_laws.proofs.Cited.{made_more}
use Rattle.periods.proofs.materials.push_copies.Goals as goal

pub copying-preserved : goal.copying-preserved
copying-preserved c =
    made_more (copy c.args.problem.now c.args.at.now c.args.period) _ _ _ c.copying.number _
    c.copying.invariant c.in_ok-copy.ensures c.in_ok-push.ensures.items
