use Rattle.std.proofs.Common.{ℕ, ◌≡◌, ℤ, List, take, drop, ◌++◌, map}
use Rattle.std.specs.Prelude.{int_div}
use Rattle.integer_laws.specs.Range.{AllInRange}
use Rattle.exact_numbers.proofs.divisors.primitive.Given as goal

pub record IsDivided (old new : List ℤ) (i : ℕ) (common : ℤ) : Type 0 where
  pub items : new ≡ map (λ x. int_div x common) (take i old) ++ drop i old
  pub in_range : AllInRange new

abbrev pub invariant-loop-entry : goal.invariant-loop-entry
invariant-loop-entry l = IsDivided l.fn.row l.row l.entry-index l.common
