use Rattle.std.proofs.Common.{ℕ, ◌≤ℤ◌, pos, ℤ, List, take}
use Rattle.std.specs.Prelude.{unsigned_abs}
use Rattle.integer_laws.specs.Range.{InRange}
use Rattle.integer_laws.specs.Reduced.{IsRowGcd}
use Rattle.exact_numbers.proofs.divisors.row_gcd.Given as goal

pub record IsSoFar (row : List ℤ) (i : ℕ) (common : ℤ) : Type 0 where
  pub not_negative : pos 0 ≤ℤ common
  pub in_range : InRange common
  pub greatest : IsRowGcd (take i row) (unsigned_abs common)

abbrev pub invariant-loop-entry : goal.invariant-loop-entry
invariant-loop-entry l = IsSoFar l.row l.entry-index l.common
