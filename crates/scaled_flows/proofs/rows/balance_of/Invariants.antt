use Rattle.tree_rules.specs.number_sets.Sets.{IsSet}
use Rattle.std.proofs.Common.{◌*ℤ◌}
use Rattle.std.specs.Prelude.{int_div}
use Rattle.tree_rules.specs.problem_rules.Problem.{rate_of}
use Rattle.flow_program.specs.Entry.{entry}
use Rattle.scaled_flows.proofs.SumLemmas.{IsSumSoFar}
use Rattle.scaled_flows.proofs.rows.balance_of.Given as goal

abbrev pub invariant-loop-u : goal.invariant-loop-u
invariant-loop-u l = record {
  is_set : IsSet 128 l.u-iterator;
  so_far : IsSumSoFar
      (λ i. int_div (rate_of l.fn.problem l.fn.j i) l.fn.divisor *ℤ entry l.fn.size_at i) l.fn.units
      l.sum l.u-iterator;
}
