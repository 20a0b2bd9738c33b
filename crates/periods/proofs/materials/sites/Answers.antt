use Rattle.std.proofs.Common.{[]}
use Rattle.plan_laws.specs.plan_rules.Expanded.{site}
use Rattle.plan_laws.proofs.Cited.{made_more}
use Rattle.periods.proofs.materials.sites.Goals as goal

pub building-preserved : goal.building-preserved
building-preserved c =
    made_more site [] _ _ c.building.unit _ c.building.invariant c.in_ok-site.ensures
    c.in_ok-push.ensures.items
