use Rattle.std.proofs.Common.{◌≡◌, map}
use Rattle.std.specs.List.{range_with_len}
use Rattle.plan_laws.specs.plan_rules.Expanded.{at_rate_one, capacity_of}
use Rattle.periods.proofs.units.capacities_of.Given as goal

abbrev pub invariant-making : goal.invariant-making
invariant-making l = l.terms.items ≡ map (λ t. at_rate_one
    (capacity_of l.problem t l.unit)) (range_with_len 0 l.period)
