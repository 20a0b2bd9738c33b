use Rattle.std.specs.Prelude.{unsigned_abs}
use Rattle.tree_rules.proofs.integer_laws.Cited.{one_divides}
use Rattle.scaled_flows.proofs.divisors.narrowed.Goals as goal

pub returns-then-divisor-clause-divides : goal.returns-then-divisor-clause-divides
returns-then-divisor-clause-divides c = one_divides (unsigned_abs c.args.divisor)
