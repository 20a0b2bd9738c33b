use Rattle.scaled_flows.proofs.FoundLemmas.{IsRateDivisor}
use Rattle.scaled_flows.proofs.divisors.rate_divisor.Given as goal

abbrev pub invariant-units : goal.invariant-units
invariant-units l = IsRateDivisor l.fn.problem l.fn.j l.start l.common l.u
