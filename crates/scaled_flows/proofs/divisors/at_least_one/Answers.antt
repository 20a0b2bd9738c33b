use Rattle.std.specs.Prelude.{unsigned_abs}
use Rattle.tree_rules.proofs.integer_laws.Cited.{one_divides}
use Rattle.scaled_flows.proofs.divisors.at_least_one.Goals as goal

pub returns-else-divisor-ge1-clause-divides : goal.returns-else-divisor-ge1-clause-divides
returns-else-divisor-ge1-clause-divides c = one_divides (unsigned_abs c.args.divisor)
