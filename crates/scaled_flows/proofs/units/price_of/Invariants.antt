use Rattle.tree_rules.specs.number_sets.Sets.{IsSet}
use Rattle.std.proofs.Common.{◌*ℤ◌}
use Rattle.std.specs.Prelude.{int_div}
use Rattle.flow_program.specs.Entry.{entry}
use Rattle.scaled_flows.specs.Divisors.{rate_divisor}
use Rattle.scaled_flows.proofs.SumLemmas.{IsRestSoFar}
use Rattle.scaled_flows.proofs.units.price_of.Given as goal

abbrev pub invariant-loop-j : goal.invariant-loop-j
invariant-loop-j l = record {
  is_set : IsSet 256 l.j-iterator;
  so_far : IsRestSoFar
      (λ j. entry l.fn.y_at j *ℤ int_div (entry l.fn.rates j) (rate_divisor l.fn.scales j))
      l.fn.materials l.fn.cost l.rest l.j-iterator;
}
