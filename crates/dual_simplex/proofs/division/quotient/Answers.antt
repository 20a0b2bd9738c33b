use Rattle.std.proofs.Common.{ap, ◌∙◌, ◌*ℤ◌, ℤ}
use Rattle.std.proofs.lemmas.Int.{quot_is, quot_fits}
use Rattle.std.specs.Int.{w128}
use Rattle.flow_program.proofs.exact_numbers.Cited.{quotient_exact}
use Rattle.dual_simplex.proofs.division.quotient.Goals as goal

pub returns-clause-exact : goal.returns-clause-exact
returns-clause-exact c =
    ap (λ (z : ℤ). c.args.divisor *ℤ z)
    (quot_is w128 c.args.number c.args.divisor c.ranges.number c.ranges.divisor
    (quot_fits w128 c.args.number c.args.divisor c.ranges.number c.requires.positive))
    ∙ quotient_exact c.args.number c.args.divisor c.requires.positive c.requires.divides
