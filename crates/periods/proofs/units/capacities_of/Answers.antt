use Rattle.std.proofs.Common.{[], ap, ◌∙◌}
use Rattle.plan_laws.proofs.Cited.{made_more}
use Rattle.plan_laws.specs.plan_rules.Expanded.{at_rate_one, capacity_of}
use Rattle.periods.proofs.units.capacities_of.Goals as goal

pub making-preserved : goal.making-preserved
making-preserved c =
    made_more (λ t. at_rate_one (capacity_of c.args.problem.now t c.args.unit)) [] _ _
    c.making.period _ c.making.invariant
    (c.at_rate_one.ensures ∙ ap at_rate_one c.capacity_of.ensures) c.in_ok-push.ensures.items
