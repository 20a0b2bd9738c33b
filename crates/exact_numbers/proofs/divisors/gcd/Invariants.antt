use Rattle.std.proofs.Common.{ℕ, ◌<◌, ◌^◌}
use Rattle.std.specs.Int.{IsGcd}
use Rattle.std.specs.Prelude.{unsigned_abs}
use Rattle.exact_numbers.proofs.divisors.gcd.Given as goal

pub record IsEuclid (a b x y : ℕ) : Type 0 where
  pub x_in_range : x < 2 ^ 127
  pub y_in_range : y < 2 ^ 127
  pub same : (g : ℕ) → IsGcd x y g → IsGcd a b g

abbrev pub invariant-loop-y : goal.invariant-loop-y
invariant-loop-y l = IsEuclid (unsigned_abs l.fn.a) (unsigned_abs l.fn.b) l.x l.y

abbrev pub decreases-loop-y : goal.decreases-loop-y
decreases-loop-y l = l.y
