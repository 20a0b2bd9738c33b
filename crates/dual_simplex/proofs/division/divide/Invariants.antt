use Rattle.std.proofs.Common.{ℕ, ◌≡◌, ℤ, List, take, drop, ◌++◌, map}
use Rattle.std.specs.Prelude.{int_div}
use Rattle.flow_program.specs.integer_laws.Range.{AllInRange}
use Rattle.dual_simplex.proofs.division.divide.Given as goal

pub record IsDivided (old new : List ℤ) (i : ℕ) (divisor : ℤ) : Type 0 where
  pub items : new ≡ map (λ x. int_div x divisor) (take i old) ++ drop i old
  pub in_range : AllInRange new

abbrev pub invariant-loop-entry : goal.invariant-loop-entry
invariant-loop-entry l = IsDivided l.fn.row l.row l.entry-index l.divisor
