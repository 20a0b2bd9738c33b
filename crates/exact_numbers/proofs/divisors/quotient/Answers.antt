use Rattle.std.proofs.Common.{ap, ◌∙◌, ◌*ℤ◌, ℤ}
use Rattle.std.proofs.lemmas.Int.{quot_is, quot_fits}
use Rattle.std.specs.Int.{w128}
use Rattle.exact_numbers.proofs.Division.{quotient_exact}
use Rattle.exact_numbers.proofs.divisors.quotient.Goals as goal

pub returns-clause-exact : goal.returns-clause-exact
returns-clause-exact c =
    ap (λ (z : ℤ). c.args.divisor *ℤ z)
    (quot_is w128 c.args.entry c.args.divisor c.ranges.entry c.ranges.divisor
    (quot_fits w128 c.args.entry c.args.divisor c.ranges.entry c.requires.positive))
    ∙ quotient_exact c.args.entry c.args.divisor c.requires.positive c.requires.divides
