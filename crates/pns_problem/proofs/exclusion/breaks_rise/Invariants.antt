use Rattle.std.proofs.Common.{◌≡◌, drop}
use Rattle.text_rules.specs.problem_rules.Validity.{breaks_rise}
use Rattle.pns_problem.proofs.exclusion.breaks_rise.Given as goal

abbrev pub invariant-looking : goal.invariant-looking
invariant-looking l = breaks_rise l.count l.least (drop l.unit-index
    l.units) ≡ breaks_rise l.count 0 l.units
